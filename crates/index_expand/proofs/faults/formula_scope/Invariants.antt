use Rattle.std.proofs.Common.{◌≡◌, drop}
use Rattle.loop_values.specs.Headers.{all_indexes}
use Rattle.index_expand.specs.LoopFaults as spec
use Rattle.index_expand.proofs.faults.formula_scope.Given as goal

abbrev pub invariant-loop-header : goal.invariant-loop-header
invariant-loop-header l = spec.scope_within (all_indexes (drop l.header-index l.headers)) l.scope ≡ spec.scope_within (all_indexes l.headers) spec.no_scope
