use Rattle.std.proofs.Common.{◌∙◌, ap}
use Rattle.observables.specs.Outputs.{notes_stand_first}
use Rattle.observables.proofs.OutputLemmas.{named-first}
use Rattle.observables.proofs.names.named_face.Goals as goal

pub invariant_of-result : goal.invariant_of-result
invariant_of-result c = record { notes = ap (notes_stand_first c.args.labels) c.in_ok-outputs.ensures ∙ named-first c.args.labels c.args.names }
