-- The bound letters with their values.
use Rattle.std.specs.Prelude.{ℕ, ◌+◌, List, [], ◌∷◌, ◌++◌, Option, None, Some}
use Rattle.loop_values.specs.Letters.{Letters}

-- a letter with its value, if it is bound
abbrev pub bound : ℕ → Option (List ℕ) → List (ℕ × List ℕ)
bound letter None = []
bound letter (Some value) = (letter, value) ∷ []

-- The letters that are bound, where the first of the bindings is that of this letter.
abbrev pub bound_from : ℕ → Letters → List (ℕ × List ℕ)
bound_from letter [] = []
bound_from letter (value ∷ letters) = bound letter value ++ bound_from (letter + 1) letters
