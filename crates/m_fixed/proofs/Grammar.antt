-- A text has a value exactly if it parses, and the value is the one that the grammar assigns.
use Rattle.std.proofs.Common.{◌≡◌, ℕ, List, [], ◌∷◌, ◌++◌, Bool, true, false, Option, Some, None, ℤ, refl, sym, ap, ◌∙◌, ⊎_elim}
use Rattle.std.proofs.lemmas.Bool.{eqb-true, cases_Bool}
use Rattle.std.specs.Prelude.{IsTrue, ◌==◌, ◌&&◌, drop, option_map}
use Rattle.std.specs.Str.Parse.{starts_with_minus}
use Rattle.m_fixed.specs.Rounding.{signed}
use Rattle.m_fixed.specs.Text.{is_digits, before_point, behind_point, point, minus, millionths_of, parts_value, number_value, text_value}
use Rattle.m_fixed.specs.Laws.{SpellsNumber, whole, decimal, SpellsAmount, plain, below_zero}
use Rattle.m_fixed.proofs.Numbers.{number_value-digits, number_value-decimals, text_value-number, text_value-minus}

-- the text of the two parts
abbrev glued : List ℕ → Option (List ℕ) → List ℕ
glued ds None = ds
glued ds (Some fs) = ds ++ point ∷ fs

glued_cons : (c : ℕ) (ds : List ℕ) (o : Option (List ℕ)) → c ∷ glued ds o ≡ glued (c ∷ ds) o
glued_cons c ds None = refl
glued_cons c ds (Some fs) = refl

parts_of : (text : List ℕ) → text ≡ glued (before_point text) (behind_point text)
parts_of [] = refl
parts_of (c ∷ cs) = ⊎_elim
    (λ (at : (c == point) ≡ true). rw (at, eqb-true c point at) refl)
    (λ (other : (c == point) ≡ false). rw other (ap (λ xs. c ∷ xs) (parts_of cs) ∙ glued_cons c (before_point cs) (behind_point cs)))
    (cases_Bool (c == point))

both_true : (a b : Bool) → (a && b) ≡ true → IsTrue a × IsTrue b
both_true true b h = (refl, h)
both_true false b h = (cc, cc)

spelled_parts : (text ds : List ℕ) (o : Option (List ℕ)) (n : ℕ) → text ≡ glued ds o → parts_value ds o ≡ Some n → SpellsNumber text n
spelled_parts text ds None n et e = ⊎_elim
    (λ (good : is_digits ds ≡ true). let value : Some (millionths_of ds []) ≡ Some n = rw good at e in let same : millionths_of ds [] ≡ n = cc in whole ds good
    et (sym same))
    (λ (bad : is_digits ds ≡ false). let none : None ≡ Some n = rw bad at e in absurd (cc))
    (cases_Bool (is_digits ds))
spelled_parts text ds (Some fs) n et e = ⊎_elim
    (λ (good : (is_digits ds && is_digits fs) ≡ true).
    let value : Some (millionths_of ds fs) ≡ Some n = rw good at e in
    let same : millionths_of ds fs ≡ n = cc in
    decimal ds fs (both_true _ _ good).0 (both_true _ _ good).1 et (sym same))
    (λ (bad : (is_digits ds && is_digits fs) ≡ false). let none : None ≡ Some n = rw bad at e in absurd (cc))
    (cases_Bool (is_digits ds && is_digits fs))

pub number_spelled : (text : List ℕ) (n : ℕ) → number_value text ≡ Some n → SpellsNumber text n
unfolding number_value
number_spelled text n e = spelled_parts text (before_point text) (behind_point text) n (parts_of text) e

pub number_read_off : (text : List ℕ) (n : ℕ) → SpellsNumber text n → number_value text ≡ Some n
number_read_off text n (whole ds h et en) = rw (et, en) (number_value-digits ds h)
number_read_off text n (decimal ds fs h k et en) = rw (et, en) (number_value-decimals ds fs h k)

-- ---- with a sign

minus_and_rest : (text : List ℕ) → starts_with_minus text ≡ true → text ≡ minus ∷ drop 1 text
minus_and_rest [] h = cc
minus_and_rest (c ∷ cs) h = rw (eqb-true c minus h) refl

spelled_signed : (text number : List ℕ) (b : Bool) (o : Option ℕ) (z : ℤ) → o ≡ number_value number → option_map (signed b) o ≡ Some z
    → (n : ℕ) × (number_value number ≡ Some n) × (z ≡ signed b n)
spelled_signed text number b None z eo e = absurd (cc)
spelled_signed text number b (Some n) z eo e = let same : signed b n ≡ z = cc in (n, sym eo, sym same)

pub amount_spelled : (text : List ℕ) (z : ℤ) → text_value text ≡ Some z → SpellsAmount text z
unfolding text_value
amount_spelled text z e = ⊎_elim
    (λ (at : starts_with_minus text ≡ true).
    let found : option_map (signed true) (number_value (drop 1 text)) ≡ Some z = rw at at e in
    let s = spelled_signed text (drop 1 text) true (number_value (drop 1 text)) z refl found in
    below_zero (drop 1 text) s.0 (minus_and_rest text at) (number_spelled (drop 1 text) s.0 s.1) s.2)
    (λ (other : starts_with_minus text ≡ false).
    let found : option_map (signed false) (number_value text) ≡ Some z = rw other at e in
    let s = spelled_signed text text false (number_value text) z refl found in
    plain s.0 (number_spelled text s.0 s.1) s.2)
    (cases_Bool (starts_with_minus text))

pub amount_read_off : (text : List ℕ) (z : ℤ) → SpellsAmount text z → text_value text ≡ Some z
amount_read_off text z (plain n s ez) = text_value-number text n (number_read_off text n s) ∙ ap (λ x. Some x) (sym ez)
amount_read_off text z (below_zero number n et s ez) = ap text_value et ∙ text_value-minus number n (number_read_off number n s) ∙ ap (λ x. Some x) (sym ez)
