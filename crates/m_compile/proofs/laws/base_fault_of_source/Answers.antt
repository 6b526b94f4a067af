use Rattle.m_compile.proofs.OneLaws.{base_fault_of_source}
use Rattle.m_compile.proofs.laws.base_fault_of_source.Goals as goal

pub returns : goal.returns
returns c = base_fault_of_source
