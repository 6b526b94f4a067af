use Rattle.std.proofs.Common.{◌≤◌, length}
use Rattle.dead_rules.specs.inner.Steps.{IsClosedFrom}
use Rattle.dead_rules.proofs.mark.mark_back.Given as goal

abbrev pub invariant-loop-p : goal.invariant-loop-p
invariant-loop-p l = record {
  within : l.p ≤ length l.flat.nodes;
  closed : IsClosedFrom l.flat l.p l.initial.live l.live;
}

abbrev pub decreases-loop-p : goal.decreases-loop-p
decreases-loop-p l = l.p
