-- The lines of outputs and their values.
use Rattle.std.proofs.Common.{◌≡◌, ℕ, ◌+◌, ◌<◌, ◌≤◌, length, get_or, drop, List, [], ◌∷◌, ◌++◌, true, Option, None, Some, refl, sym, ◌∙◌, ap, append_assoc}
use Rattle.std.specs.Prelude.{codes}
use Rattle.std.specs.List.{cons_option}
use Rattle.std.specs.Option.{option_map_or}
use Rattle.std.proofs.Math.Seq.{drop-nil}
use Rattle.std.proofs.lemmas.Bool.{and_parts, false≢true}
use Rattle.std.proofs.lemmas.List.{drop_more, drop_all}
use Rattle.m_fixed.specs.declared.amount.Value.{Value}
use Rattle.m_places.specs.declared.verification.Label.{Label}
use Rattle.observables.specs.declared.face.FaceLabel.{FaceLabel}
use Rattle.observables.specs.declared.face.FaceOutput.{FaceOutput}
use Rattle.observables.specs.declared.face.FaceOutput.TheVariants.{Named, Noted}
use Rattle.observables.specs.Answers.{reported_note, reported_notes}
use Rattle.observables.specs.Outputs.{are_named, names_of, notes_of, notes_stand_first}
use Rattle.tax_print.specs.Lines.{label_lines, notes_lines, output_lines, outputs_lines, value_line, values_lines}

-- ---- from one output on

-- they begin with the lines of the output at this index
pub outputs_at : (labels : List FaceLabel) (outputs : List FaceOutput) (vs : List Value) (k : ℕ) (output e : FaceOutput) (v d : Value) → k < length outputs
    → k < length vs
    → output ≡ get_or outputs k e → v ≡ get_or vs k d
    → outputs_lines labels (drop k outputs) (drop k vs) ≡ output_lines labels v output ++ outputs_lines labels (drop (k + 1) outputs) (drop (k + 1) vs)
outputs_at labels outputs vs k output e v d outputs_in values_in is_output is_value =
    ap (λ left. outputs_lines labels left (drop k vs)) (drop_more outputs k e outputs_in)
    ∙ ap (λ left. outputs_lines labels (get_or outputs k e ∷ drop (k + 1) outputs) left) (drop_more vs k d values_in)
    ∙ ap (λ o. output_lines labels (get_or vs k d) o ++ outputs_lines labels (drop (k + 1) outputs) (drop (k + 1) vs)) (sym is_output)
    ∙ ap (λ w. output_lines labels w output ++ outputs_lines labels (drop (k + 1) outputs) (drop (k + 1) vs)) (sym is_value)

no_outputs : (labels : List FaceLabel) (outputs : List FaceOutput) → outputs_lines labels outputs [] ≡ []
no_outputs labels [] = refl
no_outputs labels (output ∷ outputs) = refl

-- after the last value they are empty
pub outputs_end : (labels : List FaceLabel) (outputs : List FaceOutput) (vs : List Value) (k : ℕ) → length vs ≤ k
    → outputs_lines labels (drop k outputs) (drop k vs) ≡ []
outputs_end labels outputs vs k h = ap (λ left. outputs_lines labels (drop k outputs) left) (drop_all k vs h) ∙ no_outputs labels (drop k outputs)

-- ---- outputs are notes, followed by names

no_values : (names : List (List ℕ)) → values_lines names [] ≡ []
no_values [] = refl
no_values (name ∷ names) = refl

named_lines : (labels : List FaceLabel) (outputs : List FaceOutput) (vs : List Value) → are_named outputs ≡ true
    → outputs_lines labels outputs vs ≡ values_lines (names_of outputs) vs
named_lines labels [] vs h = refl
named_lines labels (Named name ∷ outputs) [] h = refl
named_lines labels (Named name ∷ outputs) (v ∷ vs) h = ap (λ rest. value_line name v ++ rest) (named_lines labels outputs vs h)
named_lines labels (Noted number ∷ outputs) vs h = absurd (false≢true h)

no_notes : (outputs : List FaceOutput) → are_named outputs ≡ true → notes_of outputs ≡ []
no_notes [] h = refl
no_notes (Named name ∷ outputs) h = no_notes outputs h
no_notes (Noted number ∷ outputs) h = absurd (false≢true h)

one_note : (reported : Option Label) (labels : List Label) → notes_lines (cons_option reported labels) ≡ option_map_or (label_lines (codes "noted")) reported []
    ++ notes_lines labels
one_note None labels = refl
one_note (Some label) labels = refl

pub outputs_reported : (labels : List FaceLabel) (outputs : List FaceOutput) (vs : List Value) → notes_stand_first labels outputs ≡ true
    → outputs_lines labels outputs vs ≡ notes_lines (reported_notes labels (notes_of outputs) vs) ++ values_lines (names_of outputs)
    (drop (length (notes_of outputs)) vs)
outputs_reported labels [] vs h = refl
outputs_reported labels (Named name ∷ outputs) vs h =
    named_lines labels (Named name ∷ outputs) vs h
    ∙ ap (λ notes. notes_lines (reported_notes labels notes vs) ++ values_lines (name ∷ names_of outputs) (drop (length notes) vs)) (sym (no_notes outputs h))
outputs_reported labels (Noted number ∷ outputs) [] h =
    sym (ap (values_lines (names_of outputs)) (drop-nil (length (number ∷ notes_of outputs))) ∙ no_values (names_of outputs))
outputs_reported labels (Noted number ∷ outputs) (v ∷ vs) h =
    ap (λ rest. option_map_or (label_lines (codes "noted")) (reported_note labels number v) [] ++ rest) (outputs_reported labels outputs vs (and_parts _ _ h).1)
    ∙ sym (append_assoc (option_map_or (label_lines (codes "noted")) (reported_note labels number v) [])
    (notes_lines (reported_notes labels (notes_of outputs) vs)) (values_lines (names_of outputs) (drop (length (notes_of outputs)) vs)))
    ∙ ap (λ front. front ++ values_lines (names_of outputs) (drop (length (notes_of outputs)) vs))
    (sym (one_note (reported_note labels number v) (reported_notes labels (notes_of outputs) vs)))
