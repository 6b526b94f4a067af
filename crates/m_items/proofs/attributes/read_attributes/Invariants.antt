use Rattle.std.proofs.Common.{◌≤◌, length}
use Rattle.m_items.specs.inner.DeclarationReading.{lists}
use Rattle.m_items.proofs.Turns.{Sorting}
use Rattle.m_items.proofs.attributes.read_attributes.Given as goal

abbrev pub invariant-attributes : goal.invariant-attributes
invariant-attributes l = record {
  no_longer : length l.cursor ≤ length l.fn.cursor;
  sorting : Sorting l.fn.cursor (lists l.lists) l.cursor;
}

abbrev pub decreases-attributes : goal.decreases-attributes
decreases-attributes l = length l.cursor
