use Rattle.std.proofs.Common.{◌≡◌, ◌≤◌, length}
use Rattle.micro_m.specs.declared.base.Base.{Base}
use Rattle.driver_core.specs.Weights.{base_weight}
use Rattle.driver_core.specs.inner.Capped.{capped}
use Rattle.driver_core.specs.inner.WeightTable.{IsTable}
use Rattle.driver_core.proofs.weigh_driver.weigh_reached.Given as goal

abbrev pub invariant-loop-function : goal.invariant-loop-function
invariant-loop-function l = record {
  table : (base : Base) → l.rules ≡ capped (base_weight base) → l.cells ≡ base.cells
      → IsTable l.core base l.initial.table.weights.items l.initial.table.done.items l.initial.table.count
      → IsTable l.core base l.table.weights.items l.table.done.items l.table.count;
  few : l.table.count ≤ length l.core.bodies;
}

abbrev pub decreases-loop-function : goal.decreases-loop-function
decreases-loop-function l = l.turns
