use Rattle.std.proofs.Common.{◌≡◌, drop}
use Rattle.std.specs.List.{flat_map}
use Rattle.index_expand.specs.LoopFaults as spec
use Rattle.index_expand.proofs.faults.with_headers.Given as goal

abbrev pub invariant-loop-header : goal.invariant-loop-header
invariant-loop-header l = spec.least l.first (flat_map spec.header_faults (drop l.header-index l.headers)) ≡ spec.least l.initial.first
    (flat_map spec.header_faults l.headers)
