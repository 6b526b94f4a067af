use Rattle.std.proofs.Common.{◌≡◌, ◌≤◌, ◌-◌, ℕ, length}
use Rattle.std.specs.Prelude.{slice_index_or}
use Rattle.micro_m.specs.declared.base.Base.{Base}
use Rattle.driver_core.specs.Weights.{base_weight}
use Rattle.driver_core.specs.inner.Capped.{capped}
use Rattle.driver_core.specs.inner.WeightTable.{weight_in}
use Rattle.driver_core.proofs.weigh_levels.weigh_by_levels.Given as goal

abbrev pub invariant-loop-level : goal.invariant-loop-level
invariant-loop-level l = record {
  within : l.level ≤ length l.core.bodies;
  weighed : (base : Base) → l.rules ≡ capped (base_weight base) → l.cells ≡ base.cells → (f : ℕ)
      → slice_index_or l.weights.items f 0 ≡ capped (weight_in l.core base l.level f);
}

abbrev pub decreases-loop-level : goal.decreases-loop-level
decreases-loop-level l = length l.core.bodies - l.level
