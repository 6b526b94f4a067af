-- Lines in sequence; the first line of a text is no longer than the text.
use Rattle.std.proofs.Common.{◌≡◌, ℕ, suc, ◌+◌, ◌≤◌, Bool, true, false, cond, eqb, List, [], ◌∷◌, length, arith, subst, refl, sym}
use mathlib.Core.Bool.{◌&&◌}
use Rattle.mpp_lexer.specs.declared.piece.DriverPiece.{DriverPiece}
use Rattle.mpp_lexer.specs.declared.piece.Line.{Line}
use Rattle.mpp_lexer.specs.Tokens.{TokensOf, spaces}
use Rattle.mpp_lexer.specs.Lines.{Lexes, without, with}
use Rattle.m_text.specs.Lines.{lines_of, onto_first, begins_with_feed}

-- the first of the lines has at most n bytes
abbrev FirstAtMost : ℕ → List (List ℕ) → Type 0
FirstAtMost n [] = Unit {0}
FirstAtMost n (line ∷ lines) = length line ≤ n

weaker : (n : ℕ) (lines : List (List ℕ)) → FirstAtMost n lines → FirstAtMost (suc n) lines
weaker n [] h = tt
weaker n (line ∷ lines) h = omega arith

onto : (n byte : ℕ) (lines : List (List ℕ)) → FirstAtMost n lines → FirstAtMost (suc n) (onto_first byte lines)
onto n byte [] h = omega arith
onto n byte (line ∷ lines) h = omega arith

either : (b : Bool) (n : ℕ) (xs ys : List (List ℕ)) → FirstAtMost n xs → FirstAtMost n ys → FirstAtMost n (cond b xs ys)
either true n xs ys h k = h
either false n xs ys h k = k

first_at_most : (bytes : List ℕ) → FirstAtMost (length bytes) (lines_of bytes)
first_at_most [] = tt
first_at_most (byte ∷ bytes) =
    let h = first_at_most bytes in
    either (eqb byte 10) (suc (length bytes)) ([] ∷ lines_of bytes) _ (omega arith)
    (either (eqb byte 13 && begins_with_feed bytes) (suc (length bytes)) (lines_of bytes) _ (weaker (length bytes) (lines_of bytes) h)
    (onto (length bytes) byte (lines_of bytes) h))

pub first_within : (bytes line : List ℕ) (lines : List (List ℕ)) → lines_of bytes ≡ line ∷ lines → length line ≤ length bytes
first_within bytes line lines e = subst (FirstAtMost (length bytes)) e (first_at_most bytes)

pub without_line : (n : ℕ) (text : List ℕ) (texts : List (List ℕ)) (tokens : List DriverPiece) (lines : List Line) → TokensOf text tokens → length tokens ≡ 0
    → Lexes (n + 1) texts lines → Lexes n (text ∷ texts) lines
without_line n text texts [] lines t e d = without t d
without_line n text texts (p ∷ ps) lines t e d = absurd (omega arith)

pub with_line : (n indent : ℕ) (text : List ℕ) (texts : List (List ℕ)) (tokens : List DriverPiece) (lines : List Line) → TokensOf text tokens
    → (length tokens ≡ 0 → ⊥) → indent ≡ spaces text → Lexes (n + 1) texts lines
    → Lexes n (text ∷ texts) (record { number = n; indent = indent; tokens = tokens } ∷ lines)
with_line n indent text texts [] lines t some e d = absurd (some refl)
with_line n indent text texts (p ∷ ps) lines t some e d = subst (λ i. Lexes n (text ∷ texts) (record { number = n; indent = i; tokens = p ∷ ps } ∷ lines))
    (sym e) (with t d)
