use Rattle.std.proofs.Common.{◌≡◌, map, take}
use Rattle.household.proofs.codes.kinds_of.Given as goal

abbrev pub invariant-loop-input : goal.invariant-loop-input
invariant-loop-input l = l.kinds.items ≡ map (λ input. input.kind) (take l.input-index l.inputs)
