-- Intervals of integers, which count millionths. An interval is its least and its greatest number;
-- `None` has no number.
use Rattle.std.specs.Prelude.{Bool, false, ◌&&◌, ◌||◌, ℤ, pos, neg_ℤ, ◌≤ℤ◌, int_lt, int_le, Option, Some, None, if◌then◌else◌}
use Rattle.std.specs.Int.{int_min, int_max}
use Rattle.m_fixed.specs.Amounts.{IsAmount, most}

-- x is a number of the interval
abbrev pub InRange : ℤ × ℤ → ℤ → Type 0
InRange r x = (r.0 ≤ℤ x) × (x ≤ℤ r.1)

-- x is a number of the interval, if there is one
abbrev pub InSome : Option (ℤ × ℤ) → ℤ → Type 0
InSome None x = ⊥
InSome (Some r) x = InRange r x

-- the interval has a number, and its ends are amounts
pub record IsInterval (r : ℤ × ℤ) : Type 0 where
  pub low : IsAmount r.0
  pub ordered : r.0 ≤ℤ r.1
  pub high : IsAmount r.1

-- the same of an interval that may not exist
abbrev pub IsWithin : Option (ℤ × ℤ) → Type 0
IsWithin None = Unit {0}
IsWithin (Some r) = IsInterval r

-- the interval of one number
abbrev pub alone : ℤ → ℤ × ℤ
alone x = (x, x)

-- the least interval that contains two
abbrev pub hull : ℤ × ℤ → ℤ × ℤ → ℤ × ℤ
hull r s = (int_min r.0 s.0, int_max r.1 s.1)

-- the least interval that contains those that exist
abbrev pub join : Option (ℤ × ℤ) → Option (ℤ × ℤ) → Option (ℤ × ℤ)
join None s = s
join (Some r) None = Some r
join (Some r) (Some s) = Some (hull r s)

abbrev pub has_zero : ℤ × ℤ → Bool
has_zero r = int_le r.0 (pos 0) && int_le (pos 0) r.1

-- it contains a number other than 0
abbrev pub has_other : ℤ × ℤ → Bool
has_other r = int_lt r.0 (pos 0) || int_lt (pos 0) r.1

-- the same of an interval that may not exist
abbrev pub may_be_zero : Option (ℤ × ℤ) → Bool
may_be_zero None = false
may_be_zero (Some r) = has_zero r

abbrev pub may_be_other : Option (ℤ × ℤ) → Bool
may_be_other None = false
may_be_other (Some r) = has_other r

-- the least amount and the greatest
abbrev pub lowest_amount : ℤ
lowest_amount = neg_ℤ (pos most)

abbrev pub highest_amount : ℤ
highest_amount = pos most

-- the numbers of the interval that are amounts
abbrev pub cut_to_amounts : ℤ × ℤ → Option (ℤ × ℤ)
cut_to_amounts r =
    if int_lt r.1 lowest_amount || int_lt highest_amount r.0
    then None
    else Some (int_max lowest_amount r.0, int_min r.1 highest_amount)

-- some of its numbers are beyond the greatest amount, or below the least
abbrev pub leaves_amounts : ℤ × ℤ → Bool
leaves_amounts r = int_lt r.0 lowest_amount || int_lt highest_amount r.1
