use Rattle.std.proofs.Common.{◌≡◌, ◌+◌, ◌<◌, ◌^◌, drop}
use Rattle.std.specs.List.{sum_by}
use Rattle.driver_core.specs.Weights.{definition_weight}
use Rattle.driver_core.specs.inner.Capped.{capped}
use Rattle.driver_core.proofs.weigh_base.weigh_definitions.Given as goal

abbrev pub invariant-loop-term : goal.invariant-loop-term
invariant-loop-term l = record {
  sum : capped (l.total + sum_by definition_weight (drop l.term-index l.term-items)) ≡ capped (sum_by definition_weight l.base.definitions);
  fits : l.total < 2 ^ 64;
}
