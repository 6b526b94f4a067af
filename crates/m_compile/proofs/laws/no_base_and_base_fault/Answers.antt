use Rattle.m_compile.proofs.OneLaws.{no_base_and_base_fault}
use Rattle.m_compile.proofs.laws.no_base_and_base_fault.Goals as goal

pub returns : goal.returns
returns c = no_base_and_base_fault
