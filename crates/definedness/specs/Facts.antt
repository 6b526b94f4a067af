-- Facts: which values a node of a program may have.
use Rattle.std.specs.Prelude.{◌≡◌, Bool, true, false, not, ◌&&◌, ◌||◌, ◌==◌, ℤ, pos, Option, Some, None, is_some, is_none, IsTrue, if◌then◌else◌}
use Rattle.std.specs.Ordering.{int_eq}
use Rattle.std.specs.Option.{option_and_then, option_map_or}
use Rattle.m_fixed.specs.declared.amount.Value.{Value}
use Rattle.m_fixed.specs.declared.amount.Value.TheVariants.{Undef, Num, Over}
use Rattle.m_fixed.specs.declared.operator.Op.{Op}
use Rattle.m_fixed.specs.declared.operator.Op.TheVariants.{Present, Truth, Choose}
use Rattle.m_fixed.specs.Operators.{arity_of, counts_undefined_as_zero}
use Rattle.definedness.specs.Ranges.{InSome, IsWithin, alone, join, has_zero, has_other, may_be_zero, may_be_other, lowest_amount, highest_amount}
use Rattle.definedness.specs.Ranges.{cut_to_amounts, leaves_amounts}
use Rattle.definedness.specs.Results.{truths, results_of}

-- the possible values: undefined, Over, and the numbers of an interval
pub record Possible : Type 0 where
  pub undef : Bool
  pub over : Bool
  pub range : Option (ℤ × ℤ)

-- the value is possible
abbrev pub Holds : Possible → Value → Type 0
Holds f Undef = f.undef ≡ true
Holds f Over = f.over ≡ true
Holds f (Num x) = InSome f.range x

-- at least one value is possible, the interval has a number, and its ends are amounts
pub record IsFact (f : Possible) : Type 0 where
  pub some : IsTrue (f.undef || f.over || is_some f.range)
  pub within : IsWithin f.range

-- ---- what follows from a fact

-- the number of an interval that has only one
abbrev pub one_number : Option (ℤ × ℤ) → Option Value
one_number range = option_and_then (λ r. if int_eq r.0 r.1 then Some (Num r.0) else None) range

-- the only possible value, if there is only one: undefined, Over, or the number of an interval of
-- one number
abbrev pub one_of : Bool → Bool → Option (ℤ × ℤ) → Option Value
one_of true false None = Some Undef
one_of false true None = Some Over
one_of false false r = one_number r
one_of _ _ _ = None

abbrev pub one_value : Possible → Option Value
one_value f = one_of f.undef f.over f.range

-- only numbers are possible
abbrev pub is_number : Possible → Bool
is_number f = not f.undef && not f.over

-- numbers are possible, and none of them is 0
abbrev pub lacks_zero : Possible → Bool
lacks_zero f = is_some f.range && not (may_be_zero f.range)

-- only Over is possible
abbrev pub is_over_alone : Possible → Bool
is_over_alone f = not f.undef && is_none f.range

-- ---- literals and inputs

abbrev pub over_alone : Possible
over_alone = record { undef = false; over = true; range = None }

abbrev pub fact_of_value : Value → Possible
fact_of_value Undef = record { undef = true; over = false; range = None }
fact_of_value Over = over_alone
fact_of_value (Num x) = record { undef = false; over = false; range = Some (alone x) }

-- undefined, or any amount
abbrev pub fact_of_input : Possible
fact_of_input = record { undef = true; over = false; range = Some (lowest_amount, highest_amount) }

-- ---- operators

-- the fact of the numbers of an interval as values: those beyond the amounts are Over
abbrev pub bounded_fact : Bool → Bool → ℤ × ℤ → Possible
bounded_fact undef over r = record { undef = undef; over = over || leaves_amounts r; range = cut_to_amounts r }

-- the fact of the operator on numbers of two intervals, with undefined and Over as given; no number
-- is possible if an argument has none
abbrev pub fact_of_ranges : Op → Bool → Bool → Option (ℤ × ℤ) → Option (ℤ × ℤ) → Possible
fact_of_ranges op undef over (Some r) (Some s) = bounded_fact undef over (results_of op r s)
fact_of_ranges op undef over _ _ = record { undef = undef; over = over; range = None }

-- Present: without 0 if the argument is never undefined, without 1 if it is never a number
abbrev pub presence : Bool → Option (ℤ × ℤ) → ℤ × ℤ
presence undef range = option_map_or (λ r. truths true undef) range (alone (pos 0))

abbrev pub fact_of_one : Op → Possible → Possible
fact_of_one Present a = record { undef = false; over = a.over; range = Some (presence a.undef a.range) }
fact_of_one op a = fact_of_ranges op a.undef a.over a.range (Some (alone (pos 0)))

-- the possible numbers, if undefined counts as 0
abbrev pub widened : Possible → Option (ℤ × ℤ)
widened f = if f.undef then join (Some (alone (pos 0))) f.range else f.range

-- of two arguments, where undefined counts as 0 if the other is a number; no number is possible if
-- neither has one
abbrev pub fact_of_two_widened : Op → Possible → Possible → Possible
fact_of_two_widened op a b =
    if is_none a.range && is_none b.range
    then record { undef = a.undef && b.undef; over = a.over || b.over; range = None }
    else fact_of_ranges op (a.undef && b.undef) (a.over || b.over) (widened a) (widened b)

abbrev pub fact_of_two : Op → Possible → Possible → Possible
fact_of_two op a b =
    if counts_undefined_as_zero op
    then fact_of_two_widened op a b
    else fact_of_ranges op (a.undef || b.undef) (a.over || b.over) a.range b.range

-- a truth, of an argument that may be no number: only 0 if it is never a number other than 0, only
-- 1 if it always is one
abbrev pub truths_of : Bool → Option (ℤ × ℤ) → ℤ × ℤ
truths_of other range = option_map_or (λ r. truths (has_other r) (other || has_zero r)) range (alone (pos 0))

abbrev pub truth_fact : Possible → Possible
truth_fact a = record { undef = false; over = false; range = Some (truths_of (a.undef || a.over) a.range) }

-- the value is one or the other
abbrev pub either : Possible → Possible → Possible
either a b = record { undef = a.undef || b.undef; over = a.over || b.over; range = join a.range b.range }

-- the values of a branch, none if it is never taken
abbrev pub if_taken : Bool → Possible → Possible
if_taken true f = f
if_taken false f = record { undef = false; over = false; range = None }

-- a choice: undefined and Over if the condition may be, the values of the first branch if it may be
-- a number other than 0, and those of the second if it may be 0
abbrev pub choice : Possible → Possible → Possible → Possible
choice c a b = either (record c { range = None }) (either (if_taken (may_be_other c.range) a) (if_taken (may_be_zero c.range) b))

-- The fact of an operator's value, from the facts of its arguments. Except for the two operators
-- that select, only Over is possible if that is so of an argument that the operator uses.
unfoldable pub fact_of : Op → Possible → Possible → Possible → Possible
fact_of Choose a b c = choice a b c
fact_of Truth a b c = truth_fact a
fact_of op a b c =
    if arity_of op == 1
    then (if is_over_alone a then over_alone else fact_of_one op a)
    else (if is_over_alone a || is_over_alone b then over_alone else fact_of_two op a b)
