use Rattle.std.proofs.Common.{◌∙◌, ap}
use Rattle.observables.specs.Outputs.{notes_stand_first}
use Rattle.m_compile.proofs.Noted.{noted_first}
use Rattle.m_compile.proofs.face.face_of.Goals as goal

pub invariant_of-result : goal.invariant_of-result
invariant_of-result c = record {
  notes = ap (notes_stand_first c.args.labels) c.in_ok-outputs.ensures
      ∙ noted_first c.args.labels c.args.notes.now _ c.requires.noted;
}
