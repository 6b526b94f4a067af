use Rattle.m_compile.proofs.OneLaws.{one_fault}
use Rattle.m_compile.proofs.laws.one_fault.Goals as goal

pub returns : goal.returns
returns c = one_fault
