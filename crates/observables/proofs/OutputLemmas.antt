-- Outputs that are all named.
use Rattle.std.proofs.Common.{◌≡◌, ℕ, true, List, [], ◌∷◌, refl, ap}
use Rattle.std.specs.Prelude.{map}
use Rattle.observables.specs.declared.face.FaceLabel.{FaceLabel}
use Rattle.observables.specs.declared.face.FaceOutput.TheVariants.{Named}
use Rattle.observables.specs.Outputs.{are_named, names_of, notes_of, notes_stand_first}

-- no output is a note
named-all : (names : List (List ℕ)) → are_named (map Named names) ≡ true
named-all [] = refl
named-all (name ∷ names) = named-all names

pub named-first : (labels : List FaceLabel) (names : List (List ℕ)) → notes_stand_first labels (map Named names) ≡ true
named-first labels [] = refl
named-first labels (name ∷ names) = named-all names

-- the names of the outputs
pub names-named : (names : List (List ℕ)) → names_of (map Named names) ≡ names
names-named [] = refl
names-named (name ∷ names) = ap (λ rest. name ∷ rest) (names-named names)

pub notes-named : (names : List (List ℕ)) → notes_of (map Named names) ≡ []
notes-named [] = refl
notes-named (name ∷ names) = notes-named names
