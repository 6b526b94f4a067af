use Rattle.m_compile.proofs.OneLaws.{one_base_fault}
use Rattle.m_compile.proofs.laws.one_base_fault.Goals as goal

pub returns : goal.returns
returns c = one_base_fault
