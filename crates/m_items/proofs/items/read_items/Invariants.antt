use Rattle.std.proofs.Common.{length}
use Rattle.m_items.proofs.Manys.{Going}
use Rattle.m_items.specs.inner.Reading.{item_at, items_at}
use Rattle.m_items.proofs.items.read_items.Given as goal

abbrev pub invariant-items : goal.invariant-items
invariant-items l = Going item_at (items_at l.fn.cursor) l.items.items l.cursor

abbrev pub decreases-items : goal.decreases-items
decreases-items l = length l.cursor
