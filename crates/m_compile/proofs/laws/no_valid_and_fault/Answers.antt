use Rattle.m_compile.proofs.OneLaws.{no_valid_and_fault}
use Rattle.m_compile.proofs.laws.no_valid_and_fault.Goals as goal

pub returns : goal.returns
returns c = no_valid_and_fault
