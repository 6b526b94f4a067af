use Rattle.std.proofs.Common.{◌≡◌, length}
use Rattle.m_batch.specs.inner.Places.{AreRows}
use Rattle.m_batch.proofs.blocks.new_rows.Given as goal

abbrev pub invariant-loop : goal.invariant-loop
invariant-loop l = record { so_many : length l.rows.items ≡ l.counter; wide : AreRows l.width l.rows.items }
