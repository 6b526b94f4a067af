use Rattle.m_items.proofs.OneLaws.{items_one}
use Rattle.m_items.proofs.laws.one_item_list.Goals as goal

pub returns : goal.returns
returns c = items_one
