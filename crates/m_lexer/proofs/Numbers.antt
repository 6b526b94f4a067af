-- A number of M has the form of an amount.
use Rattle.std.proofs.Common.{◌≡◌, ℕ, ℤ, pos, Bool, true, false, cond, List, [], ◌∷◌, Option, Some, None, Ok, Err, nat_le, unsigned_abs, length, refl, sym, ap}
use Rattle.std.proofs.Common.{◌∙◌, arith, inl, inr}
use Rattle.std.specs.Char.{is_ascii_digit}
use Rattle.std.specs.List.{AllByRecursion}
use Rattle.std.proofs.lemmas.Bool.{and_from, le-leb, lt-ltb}
use Rattle.m_fixed.specs.Amounts.{most}
use Rattle.m_fixed.specs.Text.{is_digits, only_digits, millionths_of, number_value, text_value, amount_read}
use Rattle.m_fixed.specs.declared.read.AmountFault.{AmountFault}
use Rattle.m_fixed.specs.declared.read.AmountFault.TheVariants.{NotAnAmount, TooGreat}
use Rattle.m_fixed.proofs.Numbers.{number_value-digits, number_value-decimals, text_value-number}
use Rattle.m_text.specs.Bytes.{IsDigit}
use Rattle.m_text.specs.Words.{AreDigits, IsNumber}

only_digits_test : (t : List ℕ) → AllByRecursion IsDigit t → only_digits t ≡ true
only_digits_test [] h = refl
only_digits_test (b ∷ t) h = and_from (is_ascii_digit b) (only_digits t) (and_from _ _ (le-leb 48 b h.0.0) (le-leb b 57 h.0.1)) (only_digits_test t h.1)

digits_test : (t : List ℕ) → AreDigits t → is_digits t ≡ true
digits_test [] h = absurd (h.0 refl)
digits_test (b ∷ t) h = and_from (only_digits (b ∷ t)) _ (only_digits_test (b ∷ t) h.1) (lt-ltb 0 (length (b ∷ t)) (omega arith))

number_some : (t : List ℕ) → IsNumber t → (n : ℕ) × (number_value t ≡ Some n)
number_some t (inl h) = (millionths_of t [], number_value-digits t (digits_test t h))
number_some t (inr h) = (millionths_of h.0 h.1, ap number_value h.4 ∙ number_value-decimals h.0 h.1 (digits_test h.0 h.2) (digits_test h.1 h.3))

read_some : (v : Option ℤ) (z : ℤ) → v ≡ Some z → Err NotAnAmount ≡ amount_read v → ⊥
read_some None z e f = cc
read_some (Some y) z e f = either (nat_le (unsigned_abs y) most) f
  where
    either : (b : Bool) → Err NotAnAmount ≡ cond b (Ok y) (Err TooGreat) → ⊥
    either true g = cc
    either false g = cc

-- a number that isn't read as an amount is too great
pub too_great_only : (t : List ℕ) (f : AmountFault) → IsNumber t → Err f ≡ amount_read (text_value t) → amount_read (text_value t) ≡ Err TooGreat
too_great_only t NotAnAmount h e = absurd (let n = number_some t h in read_some (text_value t) (pos n.0) (text_value-number t n.0 n.1) e)
too_great_only t TooGreat h e = sym e
