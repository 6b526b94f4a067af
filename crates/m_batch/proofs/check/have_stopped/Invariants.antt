use Rattle.std.proofs.Common.{ℕ, ◌<◌}
use Rattle.std.specs.Prelude.{slice_index_or, None, IsSome}
use Rattle.m_batch.proofs.check.have_stopped.Given as goal

abbrev pub invariant-loop-r : goal.invariant-loop-r
invariant-loop-r l = (k : ℕ) → k < l.r → IsSome (slice_index_or l.stops.items k None)
