use Rattle.m_items.proofs.FaultLaws.{one_fault}
use Rattle.m_items.proofs.laws.one_fault.Goals as goal

pub returns : goal.returns
returns c = one_fault
