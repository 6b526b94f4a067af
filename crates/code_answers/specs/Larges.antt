-- What `large N` prints before its answer, and the pairs of its household.
use Rattle.std.specs.Prelude.{◌≡◌, ℕ, ℤ, List, [], ◌∷◌, Ok, codes, decimal}
use Rattle.m_text.specs.Pieces.{joined, new_line}
use Rattle.household.specs.Household.{household_of}
use Rattle.m_large.specs.Large.{household_text}
use Rattle.observables.specs.declared.face.Face.{Face}

-- the line before the answer: `large 3`
abbrev pub large_line : ℕ → List ℕ
large_line n = joined (codes "large " ∷ decimal n ∷ new_line ∷ [])

-- for the inputs of a face the generated household parses to these pairs
pub record ReadsLarge (n : ℕ) (face : Face) : Type 0 where
  pub pairs : List (ℕ × ℤ)
  pub given : household_of face.inputs (household_text n) ≡ Ok pairs
