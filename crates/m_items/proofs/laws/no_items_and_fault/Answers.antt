use Rattle.m_items.proofs.FaultLaws.{no_list_and_fault}
use Rattle.m_items.proofs.laws.no_items_and_fault.Goals as goal

pub returns : goal.returns
returns c = no_list_and_fault
