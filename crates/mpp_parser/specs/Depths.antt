-- The nesting level of each line of a driver, and its open brackets.
use Rattle.std.specs.Prelude.{◌≡◌, ℕ, ◌+◌, ◌-◌, nat_lt, Bool, true, false, ◌||◌, if◌then◌else◌, List, [], ◌∷◌, length}
use Rattle.m_places.specs.declared.limits.TheConstants.{BRACKET_DEPTH, DRIVER_LEVEL}
use Rattle.mpp_lexer.specs.declared.piece.Line.{Line}
use Rattle.mpp_lexer.specs.declared.piece.DriverPiece.{DriverPiece}
use Rattle.mpp_lexer.specs.declared.piece.DriverPiece.TheVariants.{Sign}
use Rattle.mpp_lexer.specs.declared.piece.DriverSign.TheVariants.{OpenParen, CloseParen, OpenBracket, CloseBracket}

-- The indentations of the outer lines of a line with the indentation i, innermost first, where the
-- earlier lines are given nearest first. The outer line of a line is the nearest earlier one with
-- less indentation.
abbrev pub outer_indents : List Line → ℕ → List ℕ
outer_indents [] i = []
outer_indents (l ∷ earlier) i = if nat_lt l.indent i then l.indent ∷ outer_indents earlier l.indent else outer_indents earlier i

-- The number of a line's outer lines. Under `main():` and `  if A:` the line `    B = 1` has level
-- 2.
abbrev pub level_of : List Line → ℕ → ℕ
level_of earlier i = length (outer_indents earlier i)

-- the number of open brackets after a token; a closing bracket without an open one closes none
abbrev pub open_behind : ℕ → DriverPiece → ℕ
open_behind n (Sign OpenParen) = n + 1
open_behind n (Sign OpenBracket) = n + 1
open_behind n (Sign CloseParen) = n - 1
open_behind n (Sign CloseBracket) = n - 1
open_behind n _ = n

-- whether more than 256 brackets are open after some token, with n open before the first
abbrev pub opens_too_many : ℕ → List DriverPiece → Bool
opens_too_many n [] = false
opens_too_many n (t ∷ ts) = nat_lt BRACKET_DEPTH (open_behind n t) || opens_too_many (open_behind n t) ts

-- whether a line is too deep, where the earlier lines are given nearest first
abbrev pub is_too_deep : List Line → Line → Bool
is_too_deep earlier l = nat_lt DRIVER_LEVEL (level_of earlier l.indent) || opens_too_many 0 l.tokens

-- The number of the first line that is too deep, where the earlier lines are given nearest first.
pub data FirstTooDeep : List Line → List Line → ℕ → Type 0 where
  here : {earlier : List Line} {l : Line} {ls : List Line} → is_too_deep earlier l ≡ true → FirstTooDeep earlier (l ∷ ls) l.number
  later : {earlier : List Line} {l : Line} {ls : List Line} {n : ℕ} → is_too_deep earlier l ≡ false → FirstTooDeep (l ∷ earlier) ls n
      → FirstTooDeep earlier (l ∷ ls) n

-- no line is too deep
pub data Shallow : List Line → List Line → Type 0 where
  none : {earlier : List Line} → Shallow earlier []
  next : {earlier : List Line} {l : Line} {ls : List Line} → is_too_deep earlier l ≡ false → Shallow (l ∷ earlier) ls → Shallow earlier (l ∷ ls)
