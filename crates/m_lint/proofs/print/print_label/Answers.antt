use Rattle.std.proofs.Common.{◌∙◌, ap, [], ◌∷◌}
use Rattle.std.specs.Prelude.{codes}
use Rattle.m_text.specs.Pieces.{joined, new_line}
use Rattle.m_lint.proofs.PrintLemmas.{gives-text}
use Rattle.m_lint.proofs.print.print_label.Goals as goal

pub returns : goal.returns
returns g c =
    gives-text _ _ _ _ _ _ _
    (ap (λ verif. joined (codes "never stops " ∷ verif ∷ codes " " ∷ c.bytes-error.result.now ∷ new_line ∷ [])) c.bytes-verif.ensures
    ∙ ap (λ error. joined (codes "never stops " ∷ c.args.label.now.verif ∷ codes " " ∷ error ∷ new_line ∷ [])) c.bytes-error.ensures)
    c.give_pieces.ensures
