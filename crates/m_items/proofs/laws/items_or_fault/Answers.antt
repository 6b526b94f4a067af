use Rattle.m_items.proofs.FaultLaws.{list_or_fault}
use Rattle.m_items.proofs.laws.items_or_fault.Goals as goal

pub returns : goal.returns
returns c = list_or_fault
