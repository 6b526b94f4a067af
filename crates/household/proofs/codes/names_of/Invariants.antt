use Rattle.std.proofs.Common.{◌≡◌, take}
use Rattle.observables.specs.Inputs.{codes_of}
use Rattle.household.proofs.codes.names_of.Given as goal

abbrev pub invariant-loop-input : goal.invariant-loop-input
invariant-loop-input l = l.names ≡ take l.input-index (codes_of l.inputs)
