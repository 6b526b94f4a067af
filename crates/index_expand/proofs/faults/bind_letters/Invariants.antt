use Rattle.std.proofs.Common.{◌≡◌, drop}
use Rattle.index_expand.specs.LoopFaults as spec
use Rattle.index_expand.proofs.faults.bind_letters.Given as goal

abbrev pub invariant-loop-index : goal.invariant-loop-index
invariant-loop-index l = spec.scope_within (drop l.index-index l.indexes) l.scope ≡ spec.scope_within l.indexes l.initial.scope
