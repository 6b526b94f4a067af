-- The value of one to nine digits.
use Rattle.std.proofs.Common.{◌≡◌, ℕ, zero, suc, ◌+◌, ◌-◌, ◌*◌, ◌^◌, ◌<◌, ◌≤◌, List, [], ◌∷◌, length, take, get_or, arith, lit<}
use Rattle.std.proofs.Math.Nat.{pow-le-pow_right}
use Rattle.std.specs.Prelude.{IsTrue, ◌&&◌, nat_le, nat_lt}
use Rattle.std.specs.List.{list_all}
use Rattle.std.specs.Char.{is_ascii_digit}
use Rattle.std.specs.Str.Parse.{digits_value}
use Rattle.std.proofs.lemmas.Int.Digits.{digits_value_more}
use Rattle.std.proofs.lemmas.Str.Parse.{digits_value-take-le}
use borrow.Author.Tests.{leb-true}
use Rattle.m_text.specs.Bytes.{is_digit}
use Rattle.m_fixed.specs.Text.{only_digits}
use Rattle.m_fixed.proofs.Decimals.{both, digit_is, digits_below}
use Rattle.m_terms.specs.Tokens.{is_whole}

pub record IsShort (n : List ℕ) : Type 0 where
  pub digits : IsTrue (only_digits n)
  pub short : length n ≤ 9

pub short_of : (n : List ℕ) → IsTrue (is_whole n) → IsShort n
short_of n h =
    let digits = both (nat_lt 0 (length n) && nat_le (length n) 9) (list_all is_digit n) h in
    let short = both (nat_lt 0 (length n)) (nat_le (length n) 9) digits.0 in
    record { digits = digits.1; short = leb-true _ _ short.1 }

digit_at : (ds : List ℕ) (i : ℕ) → IsTrue (only_digits ds) → i < length ds → IsTrue (is_ascii_digit (get_or ds i 0))
digit_at [] i h below = absurd (omega arith)
digit_at (c ∷ cs) zero h below = (both _ _ h).0
digit_at (c ∷ cs) (suc i) h below = digit_at cs i (both _ _ h).1 (omega arith)

-- one more digit
pub value_more : (ds : List ℕ) (i : ℕ) → IsShort ds → i < length ds
    → digits_value 10 (take (i + 1) ds) ≡ digits_value 10 (take i ds) * 10 + (get_or ds i 0 - 48)
value_more ds i h below =
    let more = digits_value_more 10 ds i below in
    let digit = digit_is (get_or ds i 0) (digit_at ds i h.digits below) in
    omega (arith, more, digit)

pub value_below : (ds : List ℕ) (i : ℕ) → IsShort ds → digits_value 10 (take i ds) < 1000000000
value_below ds i h =
    let front = digits_value-take-le 10 ds i (omega arith) in
    let all = digits_below ds h.digits in
    let power : 10 ^ length ds ≤ 10 ^ 9 = pow-le-pow_right (lit< tt) h.short in
    omega (arith, front, all, power)
