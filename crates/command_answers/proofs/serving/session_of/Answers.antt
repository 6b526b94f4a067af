use Rattle.std.proofs.Common.{length, sym, ap, ◌∙◌}
use Rattle.flat_code.specs.declared.program.Flat.{Flat}
use Rattle.command_answers.proofs.serving.session_of.Goals as goal

pub read_given-requires-clause-count : goal.read_given-requires-clause-count
read_given-requires-clause-count c = ap (λ (f : Flat). f.inputs) c.flat.ensures.program ∙ sym c.requires.shown.inputs
    ∙ ap length (sym c.as_slice-inputs.ensures)
