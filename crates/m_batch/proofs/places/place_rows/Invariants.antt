use Rattle.std.proofs.Common.{take, length}
use Rattle.m_batch.specs.inner.Places.{ArePlaced}
use Rattle.m_batch.proofs.places.place_rows.Given as goal

abbrev pub invariant-loop-row : goal.invariant-loop-row
invariant-loop-row l = ArePlaced (length l.fn.places.of.items) l.places (take l.row-index l.rows)
