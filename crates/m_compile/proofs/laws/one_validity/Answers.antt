use Rattle.m_compile.proofs.OneLaws.{one_validity}
use Rattle.m_compile.proofs.laws.one_validity.Goals as goal

pub returns : goal.returns
returns c = one_validity
