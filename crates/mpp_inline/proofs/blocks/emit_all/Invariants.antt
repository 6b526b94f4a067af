use Rattle.std.proofs.Common.{◌+◌, ◌*◌, ◌≤◌, [], length}
use Rattle.driver_core.specs.Meaning.{called}
use Rattle.driver_core.specs.Weights.{weight_of}
use Rattle.mpp_inline.specs.Labelling.{with_body}
use Rattle.mpp_inline.specs.inner.Sizes.{load, left_weight, left_turns}
use Rattle.mpp_inline.specs.inner.Growth.{Ready, rules_in_turn}
use Rattle.mpp_inline.specs.inner.Work.{Moves, whole_of}
use Rattle.mpp_inline.proofs.CommandMoves.{main-point}
use Rattle.mpp_inline.proofs.blocks.emit_all.Given as goal

abbrev pub invariant-loop-work : goal.invariant-loop-work
invariant-loop-work l = record {
  step : Ready l.ordered.base.labels l.initial.b l.initial.env.items 2
      → Moves (whole_of l.core l.ordered) l.initial.b l.b l.env.items l.guard [] l.left.items
      (main-point l.initial.b l.initial.env.items (called (rules_in_turn l.ordered.base l.ordered.sequence) l.core.bodies (length l.core.bodies + 1)
      l.core.main) (with_body l.ordered.base l.core.bodies (length l.core.bodies + 1) l.core.main));
  size : load l.b + 6 * left_weight (whole_of l.core l.ordered) l.left.items ≤ load l.initial.b + 6 * weight_of l.core l.ordered.base;
}

abbrev pub decreases-loop-work : goal.decreases-loop-work
decreases-loop-work l = left_turns (whole_of l.core l.ordered) l.left.items
