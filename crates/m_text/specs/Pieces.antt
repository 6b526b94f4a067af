-- The concatenation of pieces.
use Rattle.std.specs.Prelude.{ℕ, List, [], ◌∷◌, ◌++◌}
use Rattle.std.specs.Borrow.{Bor}

-- the line feed of a printed line
abbrev pub new_line : List ℕ
new_line = 10 ∷ []

-- The pieces concatenated: `REV`, ` = ` and `1.5` are the text `REV = 1.5`.
abbrev pub joined : List (List ℕ) → List ℕ
joined [] = []
joined (piece ∷ pieces) = piece ++ joined pieces

-- the same, for borrowed pieces
abbrev pub text_of : List (Bor (List ℕ)) → List ℕ
text_of [] = []
text_of (piece ∷ pieces) = piece.now ++ text_of pieces
