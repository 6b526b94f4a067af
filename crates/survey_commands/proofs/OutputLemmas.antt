-- The outputs of a face are its notes and its values.
use Rattle.std.proofs.Common.{◌≡◌, ℕ, ◌+◌, ◌<◌, ◌≤◌, length, get_or, drop, List, [], ◌∷◌, ◌++◌, Bool, true, false, Option, None, Some, refl, sym, ◌∙◌, ap}
use Rattle.std.specs.Prelude.{◌||◌, codes, is_some, option_map}
use Rattle.std.specs.List.{cons_option}
use Rattle.std.specs.Option.{option_map_or}
use Rattle.std.proofs.Math.Seq.{drop-nil}
use Rattle.std.proofs.lemmas.Bool.{and_parts, false≢true}
use Rattle.std.proofs.lemmas.List.{drop_more, drop_all}
use Rattle.m_text.specs.Pieces.{joined, new_line}
use Rattle.m_fixed.specs.declared.amount.Value.{Value}
use Rattle.m_places.specs.declared.verification.Label.{Label}
use Rattle.observables.specs.declared.answer.Stop.{Stop}
use Rattle.observables.specs.declared.face.FaceLabel.{FaceLabel}
use Rattle.observables.specs.declared.face.FaceOutput.{FaceOutput}
use Rattle.observables.specs.declared.face.FaceOutput.TheVariants.{Named, Noted}
use Rattle.observables.specs.Answers.{cause_of, reported_note, reported_notes, stopped}
use Rattle.observables.specs.Outputs.{are_named, names_of, notes_of, notes_stand_first}
use Rattle.survey_commands.specs.Records.{cause_field, empty_fields, more_notes, name_fields, observation_fields, value_field, value_fields}
use Rattle.survey_commands.specs.inner.Outputs.{note_text, output_fields, output_note, output_notes, output_value, output_values}

-- ---- from some output on

pub values_at : (outputs : List FaceOutput) (vs : List Value) (k : ℕ) (output e : FaceOutput) (v d : Value) → k < length outputs → k < length vs
    → output ≡ get_or outputs k e → v ≡ get_or vs k d
    → output_values (drop k outputs) (drop k vs) ≡ output_value output v ++ output_values (drop (k + 1) outputs) (drop (k + 1) vs)
values_at outputs vs k output e v d outputs_in values_in is_output is_value =
    ap (λ left. output_values left (drop k vs)) (drop_more outputs k e outputs_in)
    ∙ ap (λ left. output_values (get_or outputs k e ∷ drop (k + 1) outputs) left) (drop_more vs k d values_in)
    ∙ ap (λ o. output_value o (get_or vs k d) ++ output_values (drop (k + 1) outputs) (drop (k + 1) vs)) (sym is_output)
    ∙ ap (λ w. output_value output w ++ output_values (drop (k + 1) outputs) (drop (k + 1) vs)) (sym is_value)

no_values : (outputs : List FaceOutput) → output_values outputs [] ≡ []
no_values [] = refl
no_values (output ∷ outputs) = refl

pub values_end : (outputs : List FaceOutput) (vs : List Value) (k : ℕ) → length vs ≤ k → output_values (drop k outputs) (drop k vs) ≡ []
values_end outputs vs k h = ap (λ left. output_values (drop k outputs) left) (drop_all k vs h) ∙ no_values (drop k outputs)

pub notes_at : (some : Bool) (labels : List FaceLabel) (outputs : List FaceOutput) (vs : List Value) (k : ℕ) (output e : FaceOutput) (v d : Value)
    (reported : Option Label) → k < length outputs → k < length vs
    → output ≡ get_or outputs k e → v ≡ get_or vs k d → reported ≡ output_note labels output v
    → output_notes some labels (drop k outputs) (drop k vs) ≡ note_text some reported ++ output_notes (some || is_some reported) labels (drop (k + 1) outputs)
    (drop (k + 1) vs)
notes_at some labels outputs vs k output e v d reported outputs_in values_in is_output is_value is_note =
    let rest : Option Label → List ℕ = λ n. note_text some n ++ output_notes (some || is_some n) labels (drop (k + 1) outputs) (drop (k + 1) vs) in
    ap (λ left. output_notes some labels left (drop k vs)) (drop_more outputs k e outputs_in)
    ∙ ap (λ left. output_notes some labels (get_or outputs k e ∷ drop (k + 1) outputs) left) (drop_more vs k d values_in)
    ∙ ap (λ o. rest (output_note labels o (get_or vs k d))) (sym is_output)
    ∙ ap (λ w. rest (output_note labels output w)) (sym is_value)
    ∙ ap rest (sym is_note)

no_notes : (some : Bool) (labels : List FaceLabel) (outputs : List FaceOutput) → output_notes some labels outputs [] ≡ []
no_notes some labels [] = refl
no_notes some labels (output ∷ outputs) = refl

pub notes_end : (some : Bool) (labels : List FaceLabel) (outputs : List FaceOutput) (vs : List Value) (k : ℕ) → length vs ≤ k
    → output_notes some labels (drop k outputs) (drop k vs) ≡ []
notes_end some labels outputs vs k h = ap (λ left. output_notes some labels (drop k outputs) left) (drop_all k vs h) ∙ no_notes some labels (drop k outputs)

-- ---- names and empty fields

pub names_are : (outputs : List FaceOutput) → output_fields true outputs ≡ name_fields (names_of outputs)
names_are [] = refl
names_are (Named name ∷ outputs) = ap (λ rest. joined (codes "," ∷ name ∷ []) ++ rest) (names_are outputs)
names_are (Noted number ∷ outputs) = names_are outputs

pub empties_are : (outputs : List FaceOutput) → output_fields false outputs ≡ empty_fields (names_of outputs)
empties_are [] = refl
empties_are (Named name ∷ outputs) = ap (λ rest. codes "," ++ rest) (empties_are outputs)
empties_are (Noted number ∷ outputs) = empties_are outputs

-- ---- the outputs are notes first, then names

nothing_named : (names : List (List ℕ)) → value_fields names [] ≡ []
nothing_named [] = refl
nothing_named (name ∷ names) = refl

named_values : (outputs : List FaceOutput) (vs : List Value) → are_named outputs ≡ true → output_values outputs vs ≡ value_fields (names_of outputs) vs
named_values [] vs h = refl
named_values (Named name ∷ outputs) [] h = refl
named_values (Named name ∷ outputs) (v ∷ vs) h = ap (λ rest. joined (codes "," ∷ value_field v ∷ []) ++ rest) (named_values outputs vs h)
named_values (Noted number ∷ outputs) vs h = absurd (false≢true h)

none_noted : (outputs : List FaceOutput) → are_named outputs ≡ true → notes_of outputs ≡ []
none_noted [] h = refl
none_noted (Named name ∷ outputs) h = none_noted outputs h
none_noted (Noted number ∷ outputs) h = absurd (false≢true h)

pub values_are : (labels : List FaceLabel) (outputs : List FaceOutput) (vs : List Value) → notes_stand_first labels outputs ≡ true
    → output_values outputs vs ≡ value_fields (names_of outputs) (drop (length (notes_of outputs)) vs)
values_are labels [] vs h = refl
values_are labels (Named name ∷ outputs) vs h =
    named_values (Named name ∷ outputs) vs h ∙ ap (λ notes. value_fields (name ∷ names_of outputs) (drop (length notes) vs)) (sym (none_noted outputs h))
values_are labels (Noted number ∷ outputs) [] h =
    sym (ap (value_fields (names_of outputs)) (drop-nil (length (number ∷ notes_of outputs))) ∙ nothing_named (names_of outputs))
values_are labels (Noted number ∷ outputs) (v ∷ vs) h = values_are labels outputs vs (and_parts _ _ h).1

named_notes : (some : Bool) (labels : List FaceLabel) (outputs : List FaceOutput) (vs : List Value) → are_named outputs ≡ true
    → output_notes some labels outputs vs ≡ []
named_notes some labels [] vs h = refl
named_notes some labels (Named name ∷ outputs) [] h = refl
named_notes true labels (Named name ∷ outputs) (v ∷ vs) h = named_notes true labels outputs vs h
named_notes false labels (Named name ∷ outputs) (v ∷ vs) h = named_notes false labels outputs vs h
named_notes some labels (Noted number ∷ outputs) vs h = absurd (false≢true h)

one_note : (some : Bool) (reported : Option Label) (labels : List Label) → more_notes some (cons_option reported labels) ≡ note_text some reported
    ++ more_notes (some || is_some reported) labels
one_note true None labels = refl
one_note false None labels = refl
one_note true (Some label) labels = refl
one_note false (Some label) labels = refl

pub notes_are : (some : Bool) (labels : List FaceLabel) (outputs : List FaceOutput) (vs : List Value) → notes_stand_first labels outputs ≡ true
    → output_notes some labels outputs vs ≡ more_notes some (reported_notes labels (notes_of outputs) vs)
notes_are some labels [] vs h = refl
notes_are some labels (Named name ∷ outputs) vs h =
    named_notes some labels (Named name ∷ outputs) vs h ∙ ap (λ notes. more_notes some (reported_notes labels notes vs)) (sym (none_noted outputs h))
notes_are some labels (Noted number ∷ outputs) [] h = refl
notes_are some labels (Noted number ∷ outputs) (v ∷ vs) h =
    ap (λ rest. note_text some (reported_note labels number v) ++ rest) (notes_are (some || is_some (reported_note labels number v)) labels outputs vs
    (and_parts _ _ h).1)
    ∙ sym (one_note some (reported_note labels number v) (reported_notes labels (notes_of outputs) vs))

-- ---- stops

-- the fields of a stop that has a label
pub stop_fields : (names : List (List ℕ)) (labels : List FaceLabel) (stop : Stop) (found : Option FaceLabel) (label : FaceLabel) → found ≡ Some label
    → option_map_or (observation_fields names) (option_map (λ label. stopped (cause_of stop label)) found) []
    ≡ joined (codes "," ∷ option_map_or (λ label. cause_field (cause_of stop label)) found [] ∷ codes "," ∷ empty_fields names ∷ new_line ∷ [])
stop_fields names labels stop None label is = cc is
stop_fields names labels stop (Some found) label is = refl
