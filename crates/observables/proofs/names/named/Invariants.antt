use Rattle.std.proofs.Common.{◌≡◌, map}
use Rattle.observables.specs.declared.face.FaceOutput.TheVariants.{Named}
use Rattle.observables.proofs.names.named.Given as goal

abbrev pub invariant-loop-name : goal.invariant-loop-name
invariant-loop-name l = l.outputs.items ≡ map Named l.yielded
