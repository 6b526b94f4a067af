use Rattle.m_compile.proofs.OneLaws.{one_rules}
use Rattle.m_compile.proofs.laws.one_rules.Goals as goal

pub returns : goal.returns
returns c = one_rules
