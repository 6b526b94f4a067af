-- The digits that `decimal` writes.
use Rattle.std.proofs.Common.{◌≡◌, ◌≢◌, ℕ, ◌<◌, ◌≤◌, ◌^◌, List, [], ◌∷◌, length, decimal, codes, append-nil, ap, ◌∙◌, sym, subst, lit≤, ◌*◌, ◌++◌, arith}
use Rattle.std.specs.List.{AllByRecursion}
use Rattle.std.specs.Str.Parse.{AllDigits, digits_value}
use Rattle.std.proofs.lemmas.Fmt.{decimal_is_IsNumeral, length-decimal-le}
use Rattle.std.proofs.lemmas.Str.Parse.{digit_from_value}
use Rattle.m_text.specs.Bytes.{IsDigit}
use Rattle.m_text.specs.Words.{AreDigits}
use Rattle.m_fixed.specs.Rounding.{nearest}
use Rattle.m_fixed.specs.Amounts.{most, unit}
use Rattle.m_fixed.specs.Text.{millionths_of}

all_digits : (ds : List ℕ) → AllDigits 10 ds → AllByRecursion IsDigit ds
all_digits [] h = tt
all_digits (c ∷ cs) h = let k = digit_from_value c h.0 in ((k.0, k.1), all_digits cs h.1)

some_digits : (ds : List ℕ) → 0 < length ds → ds ≢ []
some_digits [] h = absurd (omega arith)
some_digits (c ∷ cs) h = λ e. cc

-- a number's digits
pub decimal_digits : (n : ℕ) → n < 2 ^ 64 → AreDigits (decimal n)
decimal_digits n h = let k = decimal_is_IsNumeral n h in (some_digits (decimal n) k.0.0, all_digits (decimal n) k.0.1)

-- ---- digits of an amount

pub record IsWhole (d : List ℕ) : Type 0 where
  pub are : AreDigits d
  pub most : millionths_of d [] ≤ most

near_one : (n m : ℕ) → n ≤ m → nearest n 1 ≤ m
near_one n m h = omega arith

pub whole_value : (n : ℕ) → n < 2 ^ 64 → digits_value 10 (decimal n ++ []) ≡ n
whole_value n h = ap (digits_value 10) (append-nil (decimal n)) ∙ (decimal_is_IsNumeral n h).1

pub whole_decimal : (n : ℕ) → n ≤ 100000 → IsWhole (decimal n)
whole_decimal n h = record {
  are = decimal_digits n (omega arith);
  most = subst (λ v. nearest (v * unit) 1 ≤ most) (sym (whole_value n (omega arith))) (near_one (n * unit) most (omega arith));
}

pub zero_digit : AllByRecursion IsDigit (codes "0")
zero_digit = ((lit≤ tt, lit≤ tt), tt)

pub one_digit : AllByRecursion IsDigit (codes "1")
one_digit = ((lit≤ tt, lit≤ tt), tt)

pub whole_zero : IsWhole (codes "0")
whole_zero = record { are = (some_digits (codes "0") (lit≤ tt), zero_digit); most = lit≤ tt }

pub whole_one : IsWhole (codes "1")
whole_one = record { are = (some_digits (codes "1") (lit≤ tt), one_digit); most = lit≤ tt }

pub whole_thousand : IsWhole (codes "1000")
whole_thousand = record {
  are = (some_digits (codes "1000") (lit≤ tt), ((lit≤ tt, lit≤ tt), ((lit≤ tt, lit≤ tt), ((lit≤ tt, lit≤ tt), ((lit≤ tt, lit≤ tt), tt)))));
  most = lit≤ tt;
}

-- few digits
pub short_decimal : (n : ℕ) → n ≤ 100000 → length (decimal n) ≤ 9
short_decimal n h = length-decimal-le 9 n (omega arith) (omega arith) (omega arith)
