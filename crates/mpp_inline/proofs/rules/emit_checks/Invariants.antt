use Rattle.std.proofs.Common.{◌+◌, ◌*◌, ◌≤◌, ◌≡◌, drop}
use Rattle.mpp_inline.specs.Labelling.{with_checks, with_rules}
use Rattle.mpp_inline.specs.inner.Growth.{Ready, Stage, checked}
use Rattle.std.specs.List.{sum_by}
use Rattle.driver_core.specs.Weights.{check_weight}
use Rattle.mpp_inline.specs.inner.Labels.{labelling_by}
use Rattle.mpp_inline.specs.inner.Sizes.{load}
use Rattle.mpp_inline.proofs.rules.emit_checks.Given as goal

abbrev pub invariant-loop-condition : goal.invariant-loop-condition
invariant-loop-condition l = record {
  step : Ready l.base.labels l.initial.b l.env l.guard
      → Stage l.initial.b l.b l.guard l.env l.env (checked l.base.labels (drop l.condition-index l.condition-items)) (checked l.base.labels l.base.checks);
  labelling : Ready l.base.labels l.initial.b l.env l.guard
      → with_checks l.base.labels (drop l.condition-index l.condition-items) (labelling_by l.b) ≡ with_rules l.base (labelling_by l.initial.b);
  size : load l.b + 4 * sum_by check_weight (drop l.condition-index l.condition-items) ≤ load l.initial.b + 4 * sum_by check_weight l.base.checks;
}
