use Rattle.std.proofs.Common.{◌≡◌, ◌++◌, drop, map}
use Rattle.observables.specs.declared.face.FaceLabel.TheVariants.{Verif}
use Rattle.mpp_inline.proofs.begin.first_labels.Given as goal

abbrev pub invariant-loop-label : goal.invariant-loop-label
invariant-loop-label l = l.faces.items ++ map Verif (drop l.label-index l.labels) ≡ map Verif l.labels
