-- Notes and names among outputs.
use Rattle.std.proofs.Common.{◌≡◌, ℕ, suc, ◌+◌, ◌<◌, ◌≤◌, arith, get_or, drop, List, [], ◌∷◌, length, true, refl, sym, ap, ◌∙◌}
use Rattle.std.proofs.lemmas.Bool.{false≢true}
use Rattle.std.proofs.lemmas.List.{drop_more, drop_all}
use Rattle.observables.specs.declared.face.FaceOutput.{FaceOutput}
use Rattle.observables.specs.declared.face.FaceOutput.TheVariants.{Named, Noted}
use Rattle.observables.specs.Outputs.{are_named, names_of, notes_of}

pub no_notes : (outputs : List FaceOutput) → are_named outputs ≡ true → length (notes_of outputs) ≡ 0
no_notes [] h = refl
no_notes (Named name ∷ outputs) h = no_notes outputs h
no_notes (Noted number ∷ outputs) h = absurd (false≢true h)

-- each output is a note or has a name
pub counted : (outputs : List FaceOutput) → length (notes_of outputs) + length (names_of outputs) ≡ length outputs
counted [] = omega arith
counted (Named name ∷ outputs) = omega (arith, counted outputs)
counted (Noted number ∷ outputs) = omega (arith, counted outputs)

-- the notes from one output on
pub notes_at_name : (outputs : List FaceOutput) (i : ℕ) (output : FaceOutput) (name : List ℕ) → i < length outputs → output ≡ get_or outputs i output
    → output ≡ Named name
    → length (notes_of (drop i outputs)) ≡ length (notes_of (drop (i + 1) outputs))
notes_at_name outputs i output name h is named = ap (λ (l : List FaceOutput). length (notes_of l)) (drop_more outputs i output h)
    ∙ ap (λ o. length (notes_of (o ∷ drop (i + 1) outputs))) (sym is ∙ named)

pub notes_at_note : (outputs : List FaceOutput) (i : ℕ) (output : FaceOutput) (number : ℕ) → i < length outputs → output ≡ get_or outputs i output
    → output ≡ Noted number
    → length (notes_of (drop i outputs)) ≡ suc (length (notes_of (drop (i + 1) outputs)))
notes_at_note outputs i output number h is noted = ap (λ (l : List FaceOutput). length (notes_of l)) (drop_more outputs i output h)
    ∙ ap (λ o. length (notes_of (o ∷ drop (i + 1) outputs))) (sym is ∙ noted)

pub notes_end : (outputs : List FaceOutput) (i : ℕ) → length outputs ≤ i → length (notes_of (drop i outputs)) ≡ 0
notes_end outputs i h = ap (λ (l : List FaceOutput). length (notes_of l)) (drop_all i outputs h)
