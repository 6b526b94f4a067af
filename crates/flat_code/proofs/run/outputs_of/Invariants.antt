use Rattle.std.proofs.Common.{◌≡◌, take}
use Rattle.std.specs.Prelude.{map}
use Rattle.flat_code.specs.Runs.{value_at}
use Rattle.flat_code.proofs.run.outputs_of.Given as goal

abbrev pub invariant-loop-output : goal.invariant-loop-output
invariant-loop-output l = l.given.items ≡ map (value_at l.values) (take l.output-index l.outputs)
