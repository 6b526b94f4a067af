-- Rounding to whole units is monotone, and maps amounts to amounts.
use Rattle.std.proofs.Common.{◌≡◌, ◌⊎◌, ℤ, pos, negsuc, neg_ℤ, ◌+ℤ◌, ◌-ℤ◌, ◌≤ℤ◌, sym, ◌∙◌, arith, ⊎_elim}
use Rattle.std.proofs.lemmas.Int.{ints}
use Rattle.std.specs.Int.{is_negative}
use Rattle.std.specs.Prelude.{if◌then◌else◌}
use Rattle.m_fixed.specs.declared.amount.Value.{Value}
use Rattle.m_fixed.specs.declared.amount.Value.TheVariants.{Undef, Num, Over}
use Rattle.m_fixed.specs.declared.operator.Op.{Op}
use Rattle.m_fixed.specs.declared.operator.Op.TheVariants.{Arr, Inf}
use Rattle.m_fixed.specs.Amounts.{IsAmount, most}
use Rattle.m_fixed.specs.Operators.{op_value, result_of, cut, floor, units, arr_shift}
use Rattle.definedness.proofs.Beyond.{bounded_amount, num_same, num_undef, num_over}

pub cut_grows : (x y : ℤ) → x ≤ℤ y → cut x ≤ℤ cut y
cut_grows (pos m) (pos n) h = omega (arith, ints)
cut_grows (negsuc m) (pos n) h = omega (arith, ints)
cut_grows (negsuc m) (negsuc n) h = omega (arith, ints)
cut_grows (pos m) (negsuc n) h = omega (arith, ints)

floor_grows : (x y : ℤ) → x ≤ℤ y → floor x ≤ℤ floor y
floor_grows (pos m) (pos n) h = omega (arith, ints)
floor_grows (negsuc m) (pos n) h = omega (arith, ints)
floor_grows (negsuc m) (negsuc n) h = omega (arith, ints)
floor_grows (pos m) (negsuc n) h = omega (arith, ints)

units_grow : (x y : ℤ) → x ≤ℤ y → units x ≤ℤ units y
units_grow x y h = omega (arith, ints)

-- moved away from zero by what `arr` adds
abbrev moved : ℤ → ℤ
moved x = if is_negative x then x -ℤ pos arr_shift else x +ℤ pos arr_shift

moved_grows : (x y : ℤ) → x ≤ℤ y → moved x ≤ℤ moved y
moved_grows x y h = grind (arith, ints)

pub arr_grows : (x y : ℤ) → x ≤ℤ y → result_of Arr x (pos 0) ≤ℤ result_of Arr y (pos 0)
arr_grows x y h = units_grow (cut (moved x)) (cut (moved y)) (cut_grows (moved x) (moved y) (moved_grows x y h))

pub inf_grows : (x y : ℤ) → x ≤ℤ y → result_of Inf x (pos 0) ≤ℤ result_of Inf y (pos 0)
inf_grows x y h = units_grow (floor (x +ℤ pos 1)) (floor (y +ℤ pos 1)) (floor_grows (x +ℤ pos 1) (y +ℤ pos 1) (omega (arith, ints)))

pub arr_is_amount : (x : ℤ) → IsAmount x → IsAmount (result_of Arr x (pos 0))
arr_is_amount x h = record { low = arr_grows (neg_ℤ (pos most)) x h.low; high = arr_grows x (pos most) h.high }

pub inf_is_amount : (x : ℤ) → IsAmount x → IsAmount (result_of Inf x (pos 0))
inf_is_amount x h = record { low = inf_grows (neg_ℤ (pos most)) x h.low; high = inf_grows x (pos most) h.high }

pub whole_value : (op : Op) (x : ℤ) → (op ≡ Arr) ⊎ (op ≡ Inf) → IsAmount x → op_value op (Num x) Undef Undef ≡ Num (result_of op x (pos 0))
unfolding op_value
whole_value op x e h = ⊎_elim
    (λ (a : op ≡ Arr). rw a (bounded_amount (result_of Arr x (pos 0)) (arr_is_amount x h)))
    (λ (i : op ≡ Inf). rw i (bounded_amount (result_of Inf x (pos 0)) (inf_is_amount x h)))
    e

pub whole_number : (op : Op) (x z : ℤ) (v : Value) → (op ≡ Arr) ⊎ (op ≡ Inf) → IsAmount x → v ≡ op_value op (Num x) Undef Undef → v ≡ Num z
    → z ≡ result_of op x (pos 0)
whole_number op x z v e h is num = num_same z (result_of op x (pos 0)) (sym num ∙ is ∙ whole_value op x e h)

pub whole_is_number : (op : Op) (x : ℤ) (v : Value) → (op ≡ Arr) ⊎ (op ≡ Inf) → IsAmount x → v ≡ op_value op (Num x) Undef Undef → (v ≡ Undef) ⊎ (v ≡ Over) → ⊥
whole_is_number op x v e h is none = ⊎_elim
    (λ (u : v ≡ Undef). num_undef (result_of op x (pos 0)) (sym (is ∙ whole_value op x e h) ∙ u))
    (λ (o : v ≡ Over). num_over (result_of op x (pos 0)) (sym (is ∙ whole_value op x e h) ∙ o))
    none
