use Rattle.std.proofs.Common.{◌≡◌, drop}
use Rattle.index_expand.specs.LoopFaults as spec
use Rattle.index_expand.proofs.faults.with_bad_ranges.Given as goal

abbrev pub invariant-loop-index : goal.invariant-loop-index
invariant-loop-index l = spec.least l.first (spec.bad_ranges l.indexes (drop l.index-index l.indexes)) ≡ spec.least l.initial.first
    (spec.bad_ranges l.indexes l.indexes)
