use Rattle.std.proofs.Common.{◌≡◌, drop}
use Rattle.micro_m.specs.Values.{environment}
use Rattle.micro_m.specs.Failures.{failure_among}
use Rattle.micro_m.proofs.value.first_failing.Given as goal

abbrev pub invariant-loop-condition : goal.invariant-loop-condition
invariant-loop-condition l = failure_among l.base.labels (environment l.values) (drop l.condition-index l.condition-items) ≡ failure_among l.base.labels
    (environment l.values) l.base.checks
