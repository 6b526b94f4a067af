-- Laws of the operator table.
use Rattle.std.proofs.Common.{◌≡◌, ◌≢◌, zero, suc, ◌≤◌, true, false, ℤ, pos, negsuc, ◌+ℤ◌, ◌-ℤ◌, unsigned_abs, refl, ap, ◌∙◌, arith, ⊎_elim, ◌⊎◌, inl, inr}
use Rattle.std.proofs.lemmas.Bool.{le-leb, cases_Bool}
use Rattle.std.proofs.Math.Dec.{eqb-suc-zero}
use Rattle.std.proofs.lemmas.Int.{ints}
use Rattle.std.specs.Prelude.{IsFalse, int_lt}
use Rattle.std.specs.Int.{int_max, int_min}
use Rattle.m_fixed.specs.declared.amount.Value.{Value}
use Rattle.m_fixed.specs.declared.amount.Value.TheVariants.{Undef, Num, Over}
use Rattle.m_fixed.specs.declared.operator.Op.{Op}
use Rattle.m_fixed.specs.declared.operator.Op.TheVariants.{Add, Sub, Neg, Not, Present, Abs, Positive, PositiveOrNull, Null, Arr, Inf, Max, Min, Truth, Choose}
use Rattle.m_fixed.specs.Amounts.{IsAmount, most}
use Rattle.m_fixed.specs.Laws.{IsValue, is_selecting}
use Rattle.m_fixed.specs.Operators.{op_value, bounded, arity_of, is_zero}
use Rattle.m_fixed.proofs.Products.{size_of_amount}

bounded_amount : (z : ℤ) → IsAmount z → bounded z ≡ Num z
bounded_amount z h = rw (le-leb (unsigned_abs z) most (size_of_amount z h)) refl

plus_zero : (z : ℤ) → z +ℤ pos 0 ≡ z
plus_zero z = omega (arith, ints)

zero_plus : (z : ℤ) → pos 0 +ℤ z ≡ z
zero_plus z = omega (arith, ints)

minus_zero : (z : ℤ) → z -ℤ pos 0 ≡ z
minus_zero z = omega (arith, ints)

pub sum_first : (a c : Value) → IsValue a → op_value Add a Undef c ≡ a
unfolding op_value
sum_first Undef c h = refl
sum_first (Num z) c h = ap bounded (plus_zero z) ∙ bounded_amount z h
sum_first Over c h = refl

pub sum_second : (a c : Value) → IsValue a → op_value Add Undef a c ≡ a
unfolding op_value
sum_second Undef c h = refl
sum_second (Num z) c h = ap bounded (zero_plus z) ∙ bounded_amount z h
sum_second Over c h = refl

pub difference_first : (a c : Value) → IsValue a → op_value Sub a Undef c ≡ a
unfolding op_value
difference_first Undef c h = refl
difference_first (Num z) c h = ap bounded (minus_zero z) ∙ bounded_amount z h
difference_first Over c h = refl

pub zero_to_undefined : (c : Value) → op_value Add Undef (Num (pos 0)) c ≡ Num (pos 0)
unfolding op_value
zero_to_undefined c = refl

pub zero_is_not_undefined : (c : Value) → op_value Add Undef (Num (pos 0)) c ≡ Undef → ⊥
zero_is_not_undefined c e = let z = zero_to_undefined c in cc

pub over_first : (op : Op) (b c : Value) → IsFalse (is_selecting op) → op_value op Over b c ≡ Over
unfolding op_value
over_first Truth b c h = cc
over_first Choose b c h = refl
over_first _ b c h = refl

pub over_second : (op : Op) (a c : Value) → arity_of op ≡ 2 → op_value op a Over c ≡ Over
unfolding op_value
over_second Neg a c h = absurd (omega arith)
over_second Not a c h = absurd (omega arith)
over_second Present a c h = absurd (omega arith)
over_second Abs a c h = absurd (omega arith)
over_second Positive a c h = absurd (omega arith)
over_second PositiveOrNull a c h = absurd (omega arith)
over_second Null a c h = absurd (omega arith)
over_second Arr a c h = absurd (omega arith)
over_second Inf a c h = absurd (omega arith)
over_second Truth a c h = absurd (omega arith)
over_second Choose a c h = absurd (omega arith)
over_second _ Undef c h = refl
over_second _ (Num x) c h = refl
over_second _ Over c h = refl

pub third_is_ignored : (op : Op) (a b c d : Value) → arity_of op ≤ 2 → op_value op a b c ≡ op_value op a b d
unfolding op_value
third_is_ignored Choose a b c d h = absurd (omega arith)
third_is_ignored _ a b c d h = refl

pub second_is_ignored : (op : Op) (a b c d e : Value) → arity_of op ≡ 1 → op_value op a b c ≡ op_value op a d e
unfolding op_value
second_is_ignored Neg a b c d e h = refl
second_is_ignored Not a b c d e h = refl
second_is_ignored Present a b c d e h = refl
second_is_ignored Abs a b c d e h = refl
second_is_ignored Positive a b c d e h = refl
second_is_ignored PositiveOrNull a b c d e h = refl
second_is_ignored Null a b c d e h = refl
second_is_ignored Arr a b c d e h = refl
second_is_ignored Inf a b c d e h = refl
second_is_ignored Truth a b c d e h = refl
second_is_ignored _ a b c d e h = absurd (omega arith)

-- ---- the greater and the lesser

pub greater_is : (x y : ℤ) → (int_max x y ≡ x) ⊎ (int_max x y ≡ y)
greater_is x y = ⊎_elim (λ (h : int_lt y x ≡ true). inl (rw h refl)) (λ (h : int_lt y x ≡ false). inr (rw h refl)) (cases_Bool (int_lt y x))

pub lesser_is : (x y : ℤ) → (int_min x y ≡ x) ⊎ (int_min x y ≡ y)
lesser_is x y = ⊎_elim (λ (h : int_lt y x ≡ true). inr (rw h refl)) (λ (h : int_lt y x ≡ false). inl (rw h refl)) (cases_Bool (int_lt y x))

one_of_amounts : (m x y : ℤ) → IsAmount x → IsAmount y → (m ≡ x) ⊎ (m ≡ y) → IsAmount m
one_of_amounts m x y p q e = ⊎_elim (λ (h : m ≡ x). rw h p) (λ (h : m ≡ y). rw h q) e

pub greater_value : (x y : ℤ) (c : Value) → IsAmount x → IsAmount y → op_value Max (Num x) (Num y) c ≡ Num (int_max x y)
unfolding op_value
greater_value x y c p q = bounded_amount (int_max x y) (one_of_amounts (int_max x y) x y p q (greater_is x y))

pub lesser_value : (x y : ℤ) (c : Value) → IsAmount x → IsAmount y → op_value Min (Num x) (Num y) c ≡ Num (int_min x y)
unfolding op_value
lesser_value x y c p q = bounded_amount (int_min x y) (one_of_amounts (int_min x y) x y p q (lesser_is x y))

-- ---- the choice and the truth

not_zero_test : (x : ℤ) → x ≢ pos 0 → is_zero x ≡ false
not_zero_test (pos zero) h = absurd (h refl)
not_zero_test (pos (suc n)) h = eqb-suc-zero n
not_zero_test (negsuc n) h = refl

pub branch_taken : (x : ℤ) (a b : Value) → x ≢ pos 0 → op_value Choose (Num x) a b ≡ a
unfolding op_value
branch_taken x a b h = rw (not_zero_test x h) refl

pub branch_otherwise : (a b : Value) → op_value Choose (Num (pos 0)) a b ≡ b
unfolding op_value
branch_otherwise a b = refl

pub truth_of_over : (b c : Value) → op_value Truth Over b c ≡ Num (pos 0)
unfolding op_value
truth_of_over b c = refl
