use Rattle.std.proofs.Common.{◌≡◌, ◌≤◌, length, drop}
use Rattle.m_batch.specs.inner.Places.{IsFilled}
use Rattle.m_batch.proofs.rows.put_pairs.Given as goal

abbrev pub invariant-loop-left : goal.invariant-loop-left
invariant-loop-left l = record {
  within : l.left ≤ length l.pairs;
  width : length l.row ≡ length l.fn.row;
  filled : IsFilled l.places l.row (drop l.left l.pairs);
}

abbrev pub decreases-loop-left : goal.decreases-loop-left
decreases-loop-left l = l.left
