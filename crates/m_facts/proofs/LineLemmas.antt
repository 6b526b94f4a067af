-- The parts of the line of a fact.
use Rattle.std.proofs.Common.{◌≡◌, ℕ, ℤ, Bool, true, false, cond, List, [], ◌∷◌, ◌++◌, Some, None, refl, ap, sym, ◌∙◌, append_assoc, append-nil}
use Rattle.std.specs.Prelude.{codes}
use Rattle.std.specs.Ordering.{int_eq}
use Rattle.m_fixed.specs.Text.{printed}
use Rattle.m_text.specs.Pieces.{joined, new_line}
use Rattle.definedness.specs.Facts.{Possible}
use Rattle.m_facts.specs.Lines.{range_text, numbers_text, words_text, joined_by_or, fact_line}
use Rattle.m_facts.specs.inner.Parts.{words_alone, words_after}

alone : (undef over : Bool) → joined_by_or (words_text undef over) ≡ words_alone undef over
alone true true = refl
alone true false = refl
alone false true = refl
alone false false = refl

after : (text : List ℕ) (undef over : Bool) → joined_by_or (text ∷ words_text undef over) ≡ text ++ words_after undef over
after text true true = refl
after text true false = refl
after text false true = refl
after text false false = sym (append-nil text)

-- no number is possible
pub alone-line : (name words : List ℕ) (fact : Possible) → fact.range ≡ None → words ≡ words_alone fact.undef fact.over
    → joined (name ∷ codes " " ∷ words ∷ new_line ∷ []) ≡ fact_line name fact
alone-line name words fact none is =
    ap (λ text. joined (name ∷ codes " " ∷ text ∷ new_line ∷ [])) (is ∙ sym (alone fact.undef fact.over))
    ∙ ap (λ range. joined (name ∷ codes " " ∷ joined_by_or (numbers_text range ++ words_text fact.undef fact.over) ∷ new_line ∷ [])) (sym none)

-- the numbers have this text
numbers-line : (name text words : List ℕ) (fact : Possible) (r : ℤ × ℤ) → fact.range ≡ Some r → text ≡ range_text r → words ≡ words_after fact.undef fact.over
    → name ++ (codes " " ++ (text ++ (words ++ (new_line ++ [])))) ≡ fact_line name fact
numbers-line name text words fact r some has is =
    ap (λ rest. name ++ (codes " " ++ rest)) (sym (append_assoc text words (new_line ++ []))
    ∙ ap (λ t. t ++ (new_line ++ [])) (ap (λ w. text ++ w) is ∙ sym (after text fact.undef fact.over)))
    ∙ ap (λ t. joined (name ∷ codes " " ∷ joined_by_or (t ∷ words_text fact.undef fact.over) ∷ new_line ∷ [])) has
    ∙ ap (λ range. joined (name ∷ codes " " ∷ joined_by_or (numbers_text range ++ words_text fact.undef fact.over) ∷ new_line ∷ [])) (sym some)

-- one number
pub number-line : (name words : List ℕ) (fact : Possible) (r : ℤ × ℤ) → fact.range ≡ Some r → int_eq r.0 r.1 ≡ true → words ≡ words_after fact.undef fact.over
    → joined (name ∷ codes " " ∷ printed r.0 ∷ words ∷ new_line ∷ []) ≡ fact_line name fact
number-line name words fact r some equal is = numbers-line name (printed r.0) words fact r some
    (sym (ap (λ b. cond b (printed r.0) (joined (printed r.0 ∷ codes " to " ∷ printed r.1 ∷ []))) equal)) is

-- an interval of several numbers
pub interval-line : (name words : List ℕ) (fact : Possible) (r : ℤ × ℤ) → fact.range ≡ Some r → int_eq r.0 r.1 ≡ false
    → words ≡ words_after fact.undef fact.over
    → joined (name ∷ codes " " ∷ printed r.0 ∷ codes " to " ∷ printed r.1 ∷ words ∷ new_line ∷ []) ≡ fact_line name fact
interval-line name words fact r some apart is =
    ap (λ rest. name ++ (codes " " ++ rest))
    (ap (λ rest. printed r.0 ++ (codes " to " ++ rest)) (ap (λ q. q ++ (words ++ (new_line ++ []))) (sym (append-nil (printed r.1))))
    ∙ three (printed r.0) (codes " to ") (printed r.1 ++ []) (words ++ (new_line ++ [])))
    ∙ numbers-line name (joined (printed r.0 ∷ codes " to " ∷ printed r.1 ∷ [])) words fact r some
    (sym (ap (λ b. cond b (printed r.0) (joined (printed r.0 ∷ codes " to " ∷ printed r.1 ∷ []))) apart)) is
  where
    three : (a b c rest : List ℕ) → a ++ (b ++ (c ++ rest)) ≡ (a ++ (b ++ c)) ++ rest
    three a b c rest = ap (λ t. a ++ t) (sym (append_assoc b c rest)) ∙ sym (append_assoc a (b ++ c) rest)
