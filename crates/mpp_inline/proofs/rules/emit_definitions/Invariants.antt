use Rattle.std.proofs.Common.{◌+◌, ◌*◌, ◌≤◌, drop}
use Rattle.rule_order.specs.Orders.{cells_at}
use Rattle.mpp_inline.specs.inner.Growth.{Sane, Known, Computed, SameButSome, computed}
use Rattle.mpp_inline.specs.inner.Sizes.{load, positions_weight}
use Rattle.mpp_inline.proofs.rules.emit_definitions.Given as goal

abbrev pub invariant-loop-position : goal.invariant-loop-position
invariant-loop-position l = record {
  step : Sane l.initial.b → Known l.initial.b l.initial.env
      → Computed l.initial.b l.b l.initial.env l.env (computed l.ordered.base (drop l.position-index l.position-items))
      (computed l.ordered.base l.ordered.sequence);
  frame : SameButSome (cells_at l.ordered.base (drop l.position-index l.position-items)) (cells_at l.ordered.base l.ordered.sequence) l.initial.env l.env;
  size : load l.b + l.position-index + 2 * positions_weight l.ordered.base (drop l.position-index l.position-items) ≤ load l.initial.b + 2 * positions_weight
      l.ordered.base l.ordered.sequence;
}
