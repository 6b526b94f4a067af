use Rattle.std.proofs.Common.{◌≤◌, drop, length}
use Rattle.loop_values.specs.Headers.{all_indexes}
use Rattle.loop_values.specs.inner.Kept.{AreKept}
use Rattle.loop_values.proofs.header.kept_indexes.Given as goal

abbrev pub invariant-loop-left : goal.invariant-loop-left
invariant-loop-left l = record {
  within : l.left ≤ length l.headers;
  kept : AreKept l.kept.items l.bound (all_indexes (drop l.left l.headers));
}

abbrev pub decreases-loop-left : goal.decreases-loop-left
decreases-loop-left l = l.left
