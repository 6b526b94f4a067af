use Rattle.std.proofs.Common.{◌≡◌, ◌++◌, map}
use Rattle.observables.specs.declared.face.FaceOutput.TheVariants.{Named}
use Rattle.m_compile.proofs.face.add_names.Given as goal

abbrev pub invariant-loop-name : goal.invariant-loop-name
invariant-loop-name l = l.outputs.items ≡ l.initial.outputs.items ++ map Named l.yielded
