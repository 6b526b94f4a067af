-- The lines of a driver.
use Rattle.std.specs.Prelude.{ℕ, ◌+◌, List, [], ◌∷◌}
use Rattle.mpp_lexer.specs.declared.piece.DriverPiece.{DriverPiece}
use Rattle.mpp_lexer.specs.declared.piece.Line.{Line}
use Rattle.mpp_lexer.specs.declared.fault.DriverFault.{DriverFault}
use Rattle.mpp_lexer.specs.declared.fault.DriverFault.TheVariants.{DriverToken, DriverTooDeep, DriverSyntax, Memory}
use Rattle.mpp_lexer.specs.Tokens.{TokensOf, HasBadToken, spaces}

-- The lines of texts, of which the first has this number: for each text with a token its number,
-- its indentation in spaces, and its tokens. `main():`, `# note`, `  A = 1` have the lines 1 and 3,
-- with the indentations 0 and 2.
pub data Lexes : ℕ → List (List ℕ) → List Line → Type 0 where
  end : {n : ℕ} → Lexes n [] []
  without : {n : ℕ} {text : List ℕ} {texts : List (List ℕ)} {lines : List Line} → TokensOf text [] →
      Lexes (n + 1) texts lines → Lexes n (text ∷ texts) lines
  with : {n : ℕ} {text : List ℕ} {texts : List (List ℕ)} {p : DriverPiece} {ps : List DriverPiece} {lines : List Line} → TokensOf text (p ∷ ps) →
      Lexes (n + 1) texts lines → Lexes n (text ∷ texts) (record { number = n; indent = spaces text; tokens = p ∷ ps } ∷ lines)

-- the number of the first text with a bad token, where the first text has number n
pub data FirstBadToken : ℕ → List (List ℕ) → ℕ → Type 0 where
  here : {n : ℕ} {text : List ℕ} {texts : List (List ℕ)} → HasBadToken text → FirstBadToken n (text ∷ texts) n
  later : {n fault : ℕ} {text : List ℕ} {texts : List (List ℕ)} {tokens : List DriverPiece} → TokensOf text tokens →
      FirstBadToken (n + 1) texts fault → FirstBadToken n (text ∷ texts) fault

-- the error of tokens
abbrev pub IsTokenFault : List (List ℕ) → DriverFault → Type 0
IsTokenFault texts (DriverToken n) = FirstBadToken 1 texts n
IsTokenFault texts (DriverTooDeep n) = ⊥
IsTokenFault texts (DriverSyntax n) = ⊥
IsTokenFault texts Memory = ⊥
