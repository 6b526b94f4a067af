use Rattle.std.proofs.Common.{◌≡◌, ℕ, ◌<◌, ◌≤◌}
use Rattle.std.specs.Prelude.{slice_index_or, None}
use Rattle.reg_machine.specs.inner.Cells.{at}
use Rattle.m_batch.specs.inner.Rooms.{check_stop, kept}
use Rattle.m_batch.proofs.check.check_columns.Given as goal

abbrev pub invariant-loop-r : goal.invariant-loop-r
invariant-loop-r l = record {
  done : (k : ℕ) → k < l.r → slice_index_or l.stops k None ≡ kept (slice_index_or l.initial.stops k None)
      (check_stop (at l.guard k) (at l.condition k) l.over_only l.label);
  left : (k : ℕ) → l.r ≤ k → slice_index_or l.stops k None ≡ slice_index_or l.initial.stops k None;
}
