use Rattle.std.proofs.Common.{◌≡◌, drop}
use Rattle.loop_values.specs.Values.{is_nothing}
use Rattle.index_expand.specs.LoopFaults as spec
use Rattle.index_expand.proofs.faults.is_any_bad.Given as goal

abbrev pub invariant-loop-index : goal.invariant-loop-index
invariant-loop-index l = is_nothing (spec.bad_ranges l.indexes (drop l.index-index l.indexes)) ≡ is_nothing (spec.bad_ranges l.indexes l.indexes)
