-- Outputs: first notes of labels of verifications, then names.
use Rattle.std.proofs.Common.{◌≡◌, ◌<◌, ℕ, zero, suc, true, List, [], ◌∷◌, ◌++◌, take, map, length, refl, sym, ap, subst, arith}
use Rattle.std.specs.Prelude.{IsTrue, is_some}
use Rattle.std.specs.List.{AllByRecursion}
use Rattle.std.proofs.lemmas.Bool.{and_from}
use Rattle.m_places.specs.declared.verification.Label.{Label}
use Rattle.observables.specs.declared.face.FaceLabel.{FaceLabel}
use Rattle.observables.specs.declared.face.FaceLabel.TheVariants.{Verif}
use Rattle.observables.specs.declared.face.FaceOutput.TheVariants.{Named, Noted}
use Rattle.observables.specs.Outputs.{names_of, notes_of, notes_stand_first, verif_at}
use Rattle.observables.proofs.OutputLemmas.{named-first, names-named, notes-named}

-- they are in the order of a face
pub noted_first : (labels : List FaceLabel) (notes : List ℕ) (names : List (List ℕ)) → AllByRecursion (λ n. IsTrue (is_some (verif_at labels n))) notes
    → notes_stand_first labels (map Noted notes ++ map Named names) ≡ true
noted_first labels [] names h = named-first labels names
noted_first labels (n ∷ notes) names h = and_from (is_some (verif_at labels n)) (notes_stand_first labels (map Noted notes ++ map Named names)) h.0
    (noted_first labels notes names h.1)

-- their names
pub names_noted : (notes : List ℕ) (names : List (List ℕ)) → names_of (map Noted notes ++ map Named names) ≡ names
names_noted [] names = names-named names
names_noted (n ∷ notes) names = names_noted notes names

-- their notes
pub notes_noted : (notes : List ℕ) (names : List (List ℕ)) → notes_of (map Noted notes ++ map Named names) ≡ notes
notes_noted [] names = notes-named names
notes_noted (n ∷ notes) names = ap (λ rest. n ∷ rest) (notes_noted notes names)

-- a label of the base is one of a verification
verif_there : (labels : List FaceLabel) (first : List Label) (n : ℕ) → take (length first) labels ≡ map Verif first → n < length first
    → IsTrue (is_some (verif_at labels n))
verif_there labels [] n e h = absurd (omega (arith, h))
verif_there [] (l ∷ first) n e h = absurd (cc)
verif_there (x ∷ labels) (l ∷ first) zero e h = let s : x ≡ Verif l = cc in subst (λ (y : FaceLabel). IsTrue (is_some (verif_at (y ∷ labels) 0))) (sym s) refl
verif_there (x ∷ labels) (l ∷ first) (suc n) e h = let s : take (length first) labels ≡ map Verif first = cc in verif_there labels first n s (omega (arith, h))

pub verifs_there : (labels : List FaceLabel) (first : List Label) (notes : List ℕ) → take (length first) labels ≡ map Verif first
    → AllByRecursion (λ n. n < length first) notes → AllByRecursion (λ n. IsTrue (is_some (verif_at labels n))) notes
verifs_there labels first [] e h = tt
verifs_there labels first (n ∷ notes) e h = (verif_there labels first n e h.0, verifs_there labels first notes e h.1)
