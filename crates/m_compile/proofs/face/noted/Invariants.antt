use Rattle.std.proofs.Common.{◌≡◌, take, map}
use Rattle.observables.specs.declared.face.FaceOutput.TheVariants.{Noted}
use Rattle.m_compile.proofs.face.noted.Given as goal

abbrev pub invariant-loop-number : goal.invariant-loop-number
invariant-loop-number l = l.outputs.items ≡ map Noted (take l.number-index l.notes)
