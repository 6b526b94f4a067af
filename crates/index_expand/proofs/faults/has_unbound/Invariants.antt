use Rattle.std.proofs.Common.{◌≡◌, drop}
use Rattle.std.specs.List.{list_any}
use Rattle.index_expand.specs.LoopFaults as spec
use Rattle.index_expand.proofs.faults.has_unbound.Given as goal

abbrev pub invariant-loop-byte : goal.invariant-loop-byte
invariant-loop-byte l = list_any (spec.is_unbound_letter l.scope) (drop l.byte-index l.word) ≡ list_any (spec.is_unbound_letter l.scope) l.word
