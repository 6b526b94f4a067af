use Rattle.std.proofs.Common.{◌≡◌, length}
use Rattle.m_batch.specs.inner.Rooms.{AreWide}
use Rattle.m_batch.proofs.room.new_columns.Given as goal

abbrev pub invariant-loop : goal.invariant-loop
invariant-loop l = record { so_many : length l.columns.items ≡ l.counter; wide : AreWide l.columns.items }
