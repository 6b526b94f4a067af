use Rattle.std.proofs.Common.{◌≡◌, ◌+◌, ◌<◌, ◌^◌, drop}
use Rattle.std.specs.List.{sum_by}
use Rattle.driver_core.specs.Weights.{check_weight}
use Rattle.driver_core.specs.inner.Capped.{capped}
use Rattle.driver_core.proofs.weigh_base.weigh_checks.Given as goal

abbrev pub invariant-loop-condition : goal.invariant-loop-condition
invariant-loop-condition l = record {
  sum : capped (l.total + sum_by check_weight (drop l.condition-index l.condition-items)) ≡ capped (sum_by check_weight l.base.checks);
  fits : l.total < 2 ^ 64;
}
