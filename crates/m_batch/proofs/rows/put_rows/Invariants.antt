use Rattle.std.proofs.Common.{◌≡◌, ℕ, ◌<◌, get_or, length}
use Rattle.household.specs.declared.table.Row.{Row}
use Rattle.household.specs.Household.{values_of}
use Rattle.m_batch.specs.inner.Rows.{row_at, row_inputs}
use Rattle.m_batch.specs.inner.Places.{AreRows}
use Rattle.m_batch.proofs.rows.put_rows.Given as goal

abbrev pub invariant-loop-r : goal.invariant-loop-r
invariant-loop-r l = record {
  many : length l.block ≡ length l.fn.block;
  width : AreRows (length l.places.inputs.items) l.block;
  values : (k : ℕ) (d : Row) → k < l.r → row_inputs l.places.of.items (row_at l.block k) ≡ values_of (get_or l.rows k d).household.pairs
      (length l.places.of.items);
}
