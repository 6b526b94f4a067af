-- From one position of a line to a later one.
use Rattle.std.specs.Prelude.{◌≢◌, ℕ, ◌+◌, ◌<◌, List, [], ◌∷◌, ◌++◌, length, drop, slice_index}
use Rattle.mpp_lexer.specs.declared.piece.DriverSign.{DriverSign}
use Rattle.mpp_lexer.specs.declared.piece.DriverPiece.{DriverPiece}
use Rattle.mpp_lexer.specs.Tokens.{TokensOf, HasBadToken, sign_spelling}

-- The tokens from a position on are those between it and a later position, followed by those from
-- there on; and a bad token from there on is one from the earlier position on.
pub record GoesOn (line : List ℕ) (from : ℕ) (between : List DriverPiece) (to : ℕ) : Type 0 where
  pub lists : (tokens : List DriverPiece) → TokensOf (drop to line) tokens → TokensOf (drop from line) (between ++ tokens)
  pub bad : HasBadToken (drop to line) → HasBadToken (drop from line)

-- no sign begins at a position
pub record NoSign (line : List ℕ) (at : ℕ) : Type 0 where
  pub one : (s : DriverSign) → sign_spelling s ≢ slice_index line at ∷ []
  pub two : at + 1 < length line → (s : DriverSign) → sign_spelling s ≢ slice_index line at ∷ slice_index line (at + 1) ∷ []
