-- The value of a number's text: digits alone, and digits with decimals after a point.
use Rattle.std.proofs.Common.{◌≡◌, ℕ, List, [], ◌∷◌, ◌++◌, true, false, Some, None, refl, ap, ◌∙◌, arith, ⊎_elim, neg_ℤ}
use Rattle.std.proofs.lemmas.Bool.{ne_eqb, eqb-true, cases_Bool}
use Rattle.std.specs.Prelude.{IsTrue, ◌==◌, pos}
use Rattle.std.specs.Char.{is_ascii_digit}
use Rattle.std.specs.Str.Parse.{starts_with_minus}
use Rattle.m_fixed.specs.Text.{only_digits, is_digits, before_point, behind_point, point, millionths_of, parts_value, number_value, text_value}
use Rattle.m_fixed.proofs.Decimals.{both, digit_from_test}

not_point : (c : ℕ) → IsTrue (is_ascii_digit c) → (c == point) ≡ false
not_point c h = let r = digit_from_test c h in ne_eqb c 46 (λ e. absurd (omega (arith, r.0, r.1)))

before_digits : (ds : List ℕ) → IsTrue (only_digits ds) → before_point ds ≡ ds
before_digits [] h = refl
before_digits (c ∷ cs) h = rw (not_point c (both _ _ h).0) (ap (λ xs. c ∷ xs) (before_digits cs (both _ _ h).1))

behind_digits : (ds : List ℕ) → IsTrue (only_digits ds) → behind_point ds ≡ None
behind_digits [] h = refl
behind_digits (c ∷ cs) h = rw (not_point c (both _ _ h).0) (behind_digits cs (both _ _ h).1)

before_decimals : (ds fs : List ℕ) → IsTrue (only_digits ds) → before_point (ds ++ point ∷ fs) ≡ ds
before_decimals [] fs h = refl
before_decimals (c ∷ cs) fs h = rw (not_point c (both _ _ h).0) (ap (λ xs. c ∷ xs) (before_decimals cs fs (both _ _ h).1))

behind_decimals : (ds fs : List ℕ) → IsTrue (only_digits ds) → behind_point (ds ++ point ∷ fs) ≡ Some fs
behind_decimals [] fs h = refl
behind_decimals (c ∷ cs) fs h = rw (not_point c (both _ _ h).0) (behind_decimals cs fs (both _ _ h).1)

pub only_from_digits : (ds : List ℕ) → IsTrue (is_digits ds) → IsTrue (only_digits ds)
only_from_digits ds h = (both _ _ h).0

-- `12` is 12 units
pub number_value-digits : (ds : List ℕ) → IsTrue (is_digits ds) → number_value ds ≡ Some (millionths_of ds [])
unfolding number_value
number_value-digits ds h = rw (before_digits ds (only_from_digits ds h), behind_digits ds (only_from_digits ds h), h) refl

-- `12.5` is 12 units and a half
pub number_value-decimals : (ds fs : List ℕ) → IsTrue (is_digits ds) → IsTrue (is_digits fs) → number_value (ds ++ point ∷ fs) ≡ Some (millionths_of ds fs)
unfolding number_value
number_value-decimals ds fs h k = rw (before_decimals ds fs (only_from_digits ds h), behind_decimals ds fs (only_from_digits ds h), h, k) refl

minus_first : (text : List ℕ) → number_value (45 ∷ text) ≡ None
unfolding number_value
minus_first text = elim (behind_point text) as (λ o. parts_value (45 ∷ before_point text) o ≡ None) [ None ↦ refl | Some ds ↦ refl ]

not_a_number : (c : ℕ) (cs : List ℕ) (n : ℕ) → (c == 45) ≡ true → number_value (c ∷ cs) ≡ Some n → ⊥
not_a_number c cs n minus e = let none = ap (λ x. number_value (x ∷ cs)) (eqb-true c 45 minus) ∙ minus_first cs in cc

-- a number's text has no sign
pub no_sign : (text : List ℕ) (n : ℕ) → number_value text ≡ Some n → starts_with_minus text ≡ false
no_sign [] n e = refl
no_sign (c ∷ cs) n e = ⊎_elim
    (λ (minus : (c == 45) ≡ true). absurd (not_a_number c cs n minus e))
    (λ (other : (c == 45) ≡ false). other)
    (cases_Bool (c == 45))

pub text_value-number : (text : List ℕ) (n : ℕ) → number_value text ≡ Some n → text_value text ≡ Some (pos n)
unfolding text_value
text_value-number text n e = rw (no_sign text n e, e) refl

-- a minus negates the value
pub text_value-minus : (text : List ℕ) (n : ℕ) → number_value text ≡ Some n → text_value (45 ∷ text) ≡ Some (neg_ℤ (pos n))
unfolding text_value
text_value-minus text n e = rw e refl
