use Rattle.std.proofs.Common.{◌≡◌, map, take}
use Rattle.input_ranges.specs.Ranges.{type_fact}
use Rattle.input_ranges.proofs.ranges.facts_of_types.Given as goal

abbrev pub invariant-loop-input : goal.invariant-loop-input
invariant-loop-input l = l.facts.items ≡ map (λ input. type_fact input.kind) (take l.input-index l.inputs)
