use Rattle.std.proofs.Common.{◌≡◌, ◌++◌, drop}
use Rattle.rule_order.specs.Orders.{cells_at}
use Rattle.mpp_inline.specs.inner.Cells.{picked}
use Rattle.mpp_inline.proofs.rules.pick_defined.Given as goal

abbrev pub invariant-loop-position : goal.invariant-loop-position
invariant-loop-position l = l.entries.items ++ picked 0 (cells_at l.ordered.base (drop l.position-index l.position-items)) l.env ≡ picked 0
    (cells_at l.ordered.base l.ordered.sequence) l.env
