use Rattle.std.proofs.Common.{◌≡◌, drop}
use Rattle.std.specs.List.{flat_map}
use Rattle.index_expand.specs.LoopFaults.{least, check_faults}
use Rattle.index_expand.proofs.items.with_checks.Given as goal

abbrev pub invariant-loop-check : goal.invariant-loop-check
invariant-loop-check l = least l.first (flat_map check_faults (drop l.check-index l.checks)) ≡ least l.initial.first (flat_map check_faults l.checks)
