-- Bounds of an operator's results for numbers of intervals, from the ends of the intervals.
use Rattle.std.specs.Prelude.{◌≡◌, Bool, true, not, ◌&&◌, ◌||◌, ℤ, pos, neg_ℤ, ◌*ℤ◌, int_lt, int_le, if◌then◌else◌}
use Rattle.std.specs.Int.{int_min, int_max}
use Rattle.m_fixed.specs.declared.operator.Op.{Op}
use Rattle.m_fixed.specs.declared.operator.Op.TheVariants.{Add, Sub, Mul, Div, Neg, Eq, Ne, Lt, Le, Gt, Ge, And, Or, Not, Present, Abs, Positive}
use Rattle.m_fixed.specs.declared.operator.Op.TheVariants.{PositiveOrNull, Null, Arr, Inf, Max, Min, Truth, Choose, At}
use Rattle.m_fixed.specs.Amounts.{unit}
use Rattle.m_fixed.specs.Operators.{result_of, truth, cut}
use Rattle.definedness.specs.Ranges.{InRange, alone, has_zero, has_other}

-- ---- tests

-- the truth of a test that may pass, and that may fail: 1, 0, or 0 to 1
abbrev pub truths : Bool → Bool → ℤ × ℤ
truths passes fails = (truth (not fails), truth passes)

-- some number of the first interval is below one of the second
abbrev pub may_be_less : ℤ × ℤ → ℤ × ℤ → Bool
may_be_less r s = int_lt r.0 s.1

-- some number of the first interval is at most one of the second
abbrev pub may_be_at_most : ℤ × ℤ → ℤ × ℤ → Bool
may_be_at_most r s = int_le r.0 s.1

-- the intervals have a common number
abbrev pub may_be_equal : ℤ × ℤ → ℤ × ℤ → Bool
may_be_equal r s = may_be_at_most r s && may_be_at_most s r

-- two numbers of the intervals can differ
abbrev pub may_differ : ℤ × ℤ → ℤ × ℤ → Bool
may_differ r s = may_be_less r s || may_be_less s r

-- the integer parts of its numbers
abbrev pub cut_range : ℤ × ℤ → ℤ × ℤ
cut_range r = (cut r.0, cut r.1)

-- ---- numbers

unfoldable pub least_of : ℤ → ℤ → ℤ → ℤ → ℤ
least_of p q r s = int_min (int_min p q) (int_min r s)

unfoldable pub greatest_of : ℤ → ℤ → ℤ → ℤ → ℤ
greatest_of p q r s = int_max (int_max p q) (int_max r s)

-- from the least to the greatest result of the operator on the ends
abbrev pub corners : Op → ℤ × ℤ → ℤ × ℤ → ℤ × ℤ
corners op r s = (
  least_of (result_of op r.0 s.0) (result_of op r.0 s.1) (result_of op r.1 s.0) (result_of op r.1 s.1),
  greatest_of (result_of op r.0 s.0)
      (result_of op r.0 s.1) (result_of op r.1 s.0) (result_of op r.1 s.1),
)

-- the greatest absolute value of its numbers
abbrev pub greatest_size : ℤ × ℤ → ℤ
greatest_size r = int_max (neg_ℤ r.0) r.1

-- the least absolute value of its numbers
abbrev pub least_size : ℤ × ℤ → ℤ
least_size r = int_max (int_max r.0 (neg_ℤ r.1)) (pos 0)

-- the absolute values of its numbers
abbrev pub sizes : ℤ × ℤ → ℤ × ℤ
sizes r = (least_size r, greatest_size r)

-- quotients: for divisors other than 0 the corners, and for 0 alone 0. If 0 is one of several
-- divisors, the bound is the quotient by one millionth
unfoldable pub quotients : ℤ × ℤ → ℤ × ℤ → ℤ × ℤ
quotients r s =
    if has_zero s
    then (if has_other s then (neg_ℤ (greatest_size r *ℤ pos unit), greatest_size r *ℤ pos unit) else alone (pos 0))
    else corners Div r s

-- From the least to the greatest result of the operator on numbers of the two intervals, without
-- overflow; an operator of one argument uses the first. It isn't used for the operators that
-- select.
abbrev pub results_of : Op → ℤ × ℤ → ℤ × ℤ → ℤ × ℤ
results_of Add r s = (result_of Add r.0 s.0, result_of Add r.1 s.1)
results_of Sub r s = (result_of Sub r.0 s.1, result_of Sub r.1 s.0)
results_of Mul r s = corners Mul r s
results_of Div r s = quotients r s
results_of Neg r _ = (neg_ℤ r.1, neg_ℤ r.0)
results_of Eq r s = truths (may_be_equal r s) (may_differ r s)
results_of Ne r s = truths (may_differ r s) (may_be_equal r s)
results_of Lt r s = truths (may_be_less r s) (may_be_at_most s r)
results_of Le r s = truths (may_be_at_most r s) (may_be_less s r)
results_of Gt r s = truths (may_be_less s r) (may_be_at_most r s)
results_of Ge r s = truths (may_be_at_most s r) (may_be_less r s)
results_of And r s = truths (has_other r && has_other s) (has_zero r || has_zero s)
results_of Or r s = truths (has_other r || has_other s) (has_zero r && has_zero s)
results_of Not r _ = truths (has_zero r) (has_other r)
results_of Present _ _ = alone (pos unit)
results_of Abs r _ = sizes r
results_of Positive r _ = truths (may_be_less (alone (pos 0)) r) (may_be_at_most r (alone (pos 0)))
results_of PositiveOrNull r _ = truths (may_be_at_most (alone (pos 0)) r) (may_be_less r (alone (pos 0)))
results_of Null r _ = truths (has_zero r) (has_other r)
results_of Arr r _ = (result_of Arr r.0 (pos 0), result_of Arr r.1 (pos 0))
results_of Inf r _ = (result_of Inf r.0 (pos 0), result_of Inf r.1 (pos 0))
results_of Max r s = (int_max r.0 s.0, int_max r.1 s.1)
results_of Min r s = (int_min r.0 s.0, int_min r.1 s.1)
results_of Truth r _ = truths (has_other r) (has_zero r)
results_of Choose _ s = s
results_of At r s = truths (may_be_equal (cut_range r) (cut_range s)) (may_differ (cut_range r) (cut_range s))

-- z is a result of the operator on some number of each interval
pub record IsResult (op : Op) (r s : ℤ × ℤ) (z : ℤ) : Type 0 where
  pub first : ℤ
  pub second : ℤ
  pub in_first : InRange r first
  pub in_second : InRange s second
  pub is : result_of op first second ≡ z

-- the least and the greatest result are exact: for all operators except quotients with 0 among the
-- divisors
abbrev pub is_exact : Op → ℤ × ℤ → Bool
is_exact Div s = not (has_zero s && has_other s)
is_exact _ s = true
