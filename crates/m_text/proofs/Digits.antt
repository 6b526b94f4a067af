-- The value of at most nine digits.
use Rattle.std.proofs.Common.{◌≡◌, ℕ, ◌+◌, ◌-◌, ◌*◌, ◌<◌, ◌≤◌, Bool, true, false, ◌&&◌, nat_le, List, length, take, get_or, refl, arith}
use Rattle.std.proofs.lemmas.Bool.{le-leb}
use Rattle.std.proofs.lemmas.Int.Digits.{digits_value_more}
use Rattle.std.proofs.lemmas.Str.{digit_value_digit}
use Rattle.std.proofs.lemmas.Str.Parse.{IsDigitsTest, IsNumeralModel, digit_at, digits_value-take-le, digits_value_short, numerals_by_value}
use Rattle.std.specs.Prelude.{IsTrue}
use Rattle.std.specs.Int.{IsInRange}
use Rattle.std.specs.List.{list_all}
use Rattle.std.specs.Str.Parse.{digits_value}
use borrow.Author.Tests.{leb-true}
use Rattle.m_text.specs.Bytes.{is_digit}

both : (a b : Bool) → IsTrue (a && b) → IsTrue a × IsTrue b
both true b h = (refl, h)
both false b h = (cc, cc)

and_true : (a b : Bool) → IsTrue a → IsTrue b → IsTrue (a && b)
and_true a b p q = rw (p, q) refl

digit_from_test : (c : ℕ) → IsTrue (is_digit c) → IsInRange 48 57 c
digit_from_test c h = let k = both (nat_le 48 c) (nat_le c 57) h in (leb-true 48 c k.0, leb-true c 57 k.1)

digit_test : (c : ℕ) → IsInRange 48 57 c → IsTrue (is_digit c)
digit_test c h = rw (le-leb 48 c h.0, le-leb c 57 h.1) refl

holds_digits : IsDigitsTest (λ ds. IsTrue (list_all is_digit ds))
holds_digits = record {
  empty = refl;
  parts = λ c cs h. (digit_from_test c (both (is_digit c) (list_all is_digit cs) h).0, (both (is_digit c) (list_all is_digit cs) h).1);
  more = λ c cs h k. and_true (is_digit c) (list_all is_digit cs) (digit_test c h) k;
}

own : IsNumeralModel (λ ds. IsTrue (list_all is_digit ds)) (digits_value 10)
own = numerals_by_value (λ ds. IsTrue (list_all is_digit ds)) holds_digits

-- one more digit
pub value_more : (ds : List ℕ) (i : ℕ) → IsTrue (list_all is_digit ds) → i < length ds
    → digits_value 10 (take (i + 1) ds) ≡ digits_value 10 (take i ds) * 10 + (get_or ds i 0 - 48)
value_more ds i h below =
    let more = digits_value_more 10 ds i below in
    let digit = digit_value_digit (get_or ds i 0) (digit_at ds i (own.to ds h) below) in
    omega (arith, more, digit)

pub value_below : (ds : List ℕ) (i : ℕ) → IsTrue (list_all is_digit ds) → length ds ≤ 9 → digits_value 10 (take i ds) < 1000000000
value_below ds i h short =
    let front = digits_value-take-le 10 ds i (omega arith) in
    let all = digits_value_short own ds 9 h short in
    omega (arith, front, all)
