-- The operators of M over unbounded whole numbers of millionths.
use Rattle.std.specs.Prelude.{ℕ, Bool, true, false, not, ◌&&◌, ◌||◌, ◌==◌, nat_le, if◌then◌else◌, ℤ, pos, negsuc, ◌+ℤ◌, ◌-ℤ◌, ◌*ℤ◌, neg_ℤ, unsigned_abs, int_lt}
use Rattle.std.specs.Prelude.{int_le, int_div}
use Rattle.std.specs.Int.{is_negative, int_min, int_max, int_div_euclid}
use Rattle.std.specs.Ordering.{int_eq}
use Rattle.m_fixed.specs.declared.operator.Op.{Op}
use Rattle.m_fixed.specs.declared.operator.Op.TheVariants.{Add, Sub, Mul, Div, Neg, Eq, Ne, Lt, Le, Gt, Ge, And, Or, Not, Present, Abs, Positive}
use Rattle.m_fixed.specs.declared.operator.Op.TheVariants.{PositiveOrNull, Null, Arr, Inf, Max, Min, Truth, Choose, At}
use Rattle.m_fixed.specs.declared.amount.Value.{Value}
use Rattle.m_fixed.specs.declared.amount.Value.TheVariants.{Undef, Num, Over}
use Rattle.m_fixed.specs.Amounts.{unit, most}
use Rattle.m_fixed.specs.Rounding.{rounded}

-- ---- the columns of the table

-- the number of arguments that an operator uses
abbrev pub arity_of : Op → ℕ
arity_of Neg = 1
arity_of Not = 1
arity_of Present = 1
arity_of Abs = 1
arity_of Positive = 1
arity_of PositiveOrNull = 1
arity_of Null = 1
arity_of Arr = 1
arity_of Inf = 1
arity_of Truth = 1
arity_of Choose = 3
arity_of _ = 2

-- How an undefined argument counts in an operator of two arguments, where the other is a number: as
-- 0 if true, and else the result is undefined. Without meaning for other operators. Two undefined
-- arguments always give undefined.
abbrev pub counts_undefined_as_zero : Op → Bool
counts_undefined_as_zero Add = true
counts_undefined_as_zero Sub = true
counts_undefined_as_zero Or = true
counts_undefined_as_zero Max = true
counts_undefined_as_zero Min = true
counts_undefined_as_zero _ = false

-- 1 or 0 as an amount, in millionths
abbrev pub truth : Bool → ℤ
truth b = if b then pos unit else pos 0

abbrev pub is_zero : ℤ → Bool
is_zero (pos n) = n == 0
is_zero (negsuc n) = false

-- whole units, cut toward zero: 1.9 gives 1, and -1.9 gives -1
abbrev pub cut : ℤ → ℤ
cut x = int_div x (pos unit)

-- whole units, rounded down: 1.9 gives 1, and -1.9 gives -2
abbrev pub floor : ℤ → ℤ
floor x = int_div_euclid x (pos unit)

-- the shift of `arr` away from zero before truncation, in millionths: 0.50005
abbrev pub arr_shift : ℕ
arr_shift = 500_050

-- n whole units, in millionths
abbrev pub units : ℤ → ℤ
units n = n *ℤ pos unit

-- a quotient; 0 if the divisor is 0: 2 / 3 gives 0.666667, and 5 / 0 gives 0
abbrev pub quotient : ℤ → ℤ → ℤ
quotient x y = if is_zero y then pos 0 else rounded (x *ℤ pos unit) y

-- The result of an operator on numbers, in millionths and without a bound. An operator of one
-- argument uses the first. For `Choose` it covers only a condition other than 0, whose result is
-- the first branch.
abbrev pub result_of : Op → ℤ → ℤ → ℤ
result_of Add x y = x +ℤ y
result_of Sub x y = x -ℤ y
result_of Mul x y = rounded (x *ℤ y) (pos unit)
result_of Div x y = quotient x y
result_of Neg x _ = neg_ℤ x
result_of Eq x y = truth (int_eq x y)
result_of Ne x y = truth (not (int_eq x y))
result_of Lt x y = truth (int_lt x y)
result_of Le x y = truth (int_le x y)
result_of Gt x y = truth (int_lt y x)
result_of Ge x y = truth (int_le y x)
result_of And x y = truth (not (is_zero x) && not (is_zero y))
result_of Or x y = truth (not (is_zero x) || not (is_zero y))
result_of Not x _ = truth (is_zero x)
result_of Present _ _ = pos unit
result_of Abs x _ = pos (unsigned_abs x)
result_of Positive x _ = truth (int_lt (pos 0) x)
result_of PositiveOrNull x _ = truth (int_le (pos 0) x)
result_of Null x _ = truth (is_zero x)
result_of Arr x _ = units (cut (if is_negative x then x -ℤ pos arr_shift else x +ℤ pos arr_shift))
result_of Inf x _ = units (floor (x +ℤ pos 1))
result_of Max x y = int_max x y
result_of Min x y = int_min x y
result_of At x y = truth (int_eq (cut x) (cut y))
result_of Truth x _ = truth (not (is_zero x))
result_of Choose _ y = y

-- ---- the rules

-- a number as a value: Over if its absolute value is above the greatest
abbrev pub bounded : ℤ → Value
bounded z = if nat_le (unsigned_abs z) most then Num z else Over

-- an operator of one argument
abbrev pub of_one : Op → Value → Value
of_one op Over = Over
of_one Present Undef = Num (pos 0)
of_one op Undef = Undef
of_one op (Num x) = bounded (result_of op x (pos 0))

-- an operator of two arguments: Over takes precedence over undefined
abbrev pub of_two : Op → Value → Value → Value
of_two op Over b = Over
of_two op a Over = Over
of_two op Undef Undef = Undef
of_two op Undef (Num y) = if counts_undefined_as_zero op then bounded (result_of op (pos 0) y) else Undef
of_two op (Num x) Undef = if counts_undefined_as_zero op then bounded (result_of op x (pos 0)) else Undef
of_two op (Num x) (Num y) = bounded (result_of op x y)

-- the choice between two values: only the selected branch counts
abbrev pub chosen : Value → Value → Value → Value
chosen Undef a b = Undef
chosen Over a b = Over
chosen (Num x) a b = if is_zero x then b else a

-- whether a condition holds: only a number other than 0 does
abbrev pub truth_of : Value → Value
truth_of (Num x) = Num (truth (not (is_zero x)))
truth_of _ = Num (pos 0)

-- the result of an operator on any values; the two that select have rules of their own
unfoldable pub op_value : Op → Value → Value → Value → Value
op_value Choose a b c = chosen a b c
op_value Truth a b c = truth_of a
op_value op a b c = if arity_of op == 1 then of_one op a else of_two op a b
