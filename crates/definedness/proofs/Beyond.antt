-- Numbers beyond the amounts.
use Rattle.std.proofs.Common.{◌≡◌, ℕ, zero, suc, ◌+◌, ◌*◌, ◌<◌, ◌≤◌, Bool, true, false, ℤ, pos, negsuc, neg_ℤ, ◌-ℤ◌, ◌*ℤ◌, ◌≤ℤ◌, ◌<ℤ◌, ◌⊎◌, unsigned_abs, refl}
use Rattle.std.proofs.Common.{ap, sym, ◌∙◌, inl, inr, ⊎_elim, arith}
use Rattle.std.proofs.lemmas.Bool.{le-leb, lt-leb, cases_lt}
use Rattle.std.proofs.lemmas.Int.{ints, clamps, to_z-of_z}
use Rattle.std.specs.Int.{is_negative, int_min, int_max, w128, cast_unsigned, cast_signed}
use Rattle.std.specs.Prelude.{FitsSigned}
use Rattle.m_fixed.specs.declared.amount.Value.{Value}
use Rattle.m_fixed.specs.declared.amount.Value.TheVariants.{Undef, Num, Over}
use Rattle.m_fixed.specs.declared.operator.Op.{Op}
use Rattle.m_fixed.specs.declared.operator.Op.TheVariants.{Mul, Div}
use Rattle.m_fixed.specs.Amounts.{IsAmount, unit, most}
use Rattle.m_fixed.specs.Rounding.{signed, differ, nearest}
use Rattle.m_fixed.specs.Operators.{op_value, bounded, result_of, is_zero}
use Rattle.definedness.specs.Ranges.{has_zero, has_other}
use Rattle.definedness.specs.Results.{least_of, greatest_of, corners, quotients, greatest_size}
use Rattle.definedness.specs.inner.Limits.{limited, limited_range, signed_beyond}

limited_min : (x y : ℤ) → int_min (limited x) (limited y) ≡ limited (int_min x y)
unfolding limited
limited_min x y = omega (arith, ints, clamps)

limited_max : (x y : ℤ) → int_max (limited x) (limited y) ≡ limited (int_max x y)
unfolding limited
limited_max x y = omega (arith, ints, clamps)

pub limited_least : (p q r s : ℤ) → least_of (limited p) (limited q) (limited r) (limited s) ≡ limited (least_of p q r s)
unfolding least_of
limited_least p q r s = rw (limited_min p q, limited_min r s) (limited_min (int_min p q) (int_min r s))

pub limited_greatest : (p q r s : ℤ) → greatest_of (limited p) (limited q) (limited r) (limited s) ≡ limited (greatest_of p q r s)
unfolding greatest_of
limited_greatest p q r s = rw (limited_max p q, limited_max r s) (limited_max (int_max p q) (int_max r s))

limited_twice : (z : ℤ) → limited (limited z) ≡ limited z
unfolding limited
limited_twice z = omega (arith, ints, clamps)

pub range_limited_twice : (r : ℤ × ℤ) → limited_range (limited_range r) ≡ limited_range r
unfolding limited_range
range_limited_twice r = rw (limited_twice r.0, limited_twice r.1) refl

limited_grows : (x y : ℤ) → x ≤ℤ y → limited x ≤ℤ limited y
unfolding limited
limited_grows x y h = omega (arith, ints, clamps)

-- ---- sizes

pub size_of_signed : (b : Bool) (n : ℕ) → unsigned_abs (signed b n) ≡ n
size_of_signed true zero = refl
size_of_signed true (suc n) = refl
size_of_signed false n = refl

limited_small : (z : ℤ) → unsigned_abs z ≤ most → limited z ≡ z
unfolding limited
limited_small (pos n) h = omega (arith, ints, clamps)
limited_small (negsuc n) h = omega (arith, ints, clamps)

limited_signed : (b : Bool) (n : ℕ) → most < n → limited (signed b n) ≡ signed b (most + 1)
unfolding limited
limited_signed true n h = omega (arith, ints, clamps)
limited_signed false n h = omega (arith, ints, clamps)

over_num : (z : ℤ) → Over ≡ Num z → ⊥
over_num z e = cc

pub num_over : (z : ℤ) → Num z ≡ Over → ⊥
num_over z e = cc

pub num_undef : (z : ℤ) → Num z ≡ Undef → ⊥
num_undef z e = cc

over_undef : Over ≡ Undef → ⊥
over_undef e = cc

pub num_same : (y z : ℤ) → Num y ≡ Num z → y ≡ z
num_same y z e = cc

bounded_small : (z : ℤ) → unsigned_abs z ≤ most → bounded z ≡ Num z
bounded_small z h = rw (le-leb (unsigned_abs z) most h) refl

bounded_great : (z : ℤ) → most < unsigned_abs z → bounded z ≡ Over
bounded_great z h = rw (lt-leb (unsigned_abs z) most h) refl

pub size_of_amount : (z : ℤ) → IsAmount z → unsigned_abs z ≤ most
size_of_amount (pos n) h = let u = h.high in omega (arith, ints)
size_of_amount (negsuc n) h = let l = h.low in omega (arith, ints)

pub bounded_amount : (z : ℤ) → IsAmount z → bounded z ≡ Num z
bounded_amount z h = bounded_small z (size_of_amount z h)

-- a number that no value has is beyond the amounts
pub bounded_is_num : (z w : ℤ) → bounded z ≡ Num w → (w ≡ z) × (unsigned_abs z ≤ most)
bounded_is_num z w e = ⊎_elim
    (λ (h : most < unsigned_abs z). absurd (over_num w (sym (bounded_great z h) ∙ e)))
    (λ (h : unsigned_abs z ≤ most). (num_same w z (sym e ∙ bounded_small z h), h))
    (cases_lt most (unsigned_abs z))

pub bounded_is_over : (z : ℤ) → bounded z ≡ Over → most < unsigned_abs z
bounded_is_over z e = ⊎_elim
    (λ (h : most < unsigned_abs z). h)
    (λ (h : unsigned_abs z ≤ most). absurd (num_over z (sym (bounded_small z h) ∙ e)))
    (cases_lt most (unsigned_abs z))

pub never_undefined : (z : ℤ) → bounded z ≡ Undef → ⊥
never_undefined z e = ⊎_elim
    (λ (h : most < unsigned_abs z). over_undef (sym (bounded_great z h) ∙ e))
    (λ (h : unsigned_abs z ≤ most). num_undef z (sym (bounded_small z h) ∙ e))
    (cases_lt most (unsigned_abs z))

-- ---- signs

not_below : (n : ℕ) → is_negative (pos n) ≡ false
not_below n = grind (arith, ints)

opposite_sign : (n : ℕ) → (is_negative (neg_ℤ (pos n)) ≡ true) ⊎ (neg_ℤ (pos n) ≡ pos 0)
opposite_sign zero = inr refl
opposite_sign (suc n) = inl refl

sign_of_product : (x y : ℤ) → (is_negative (x *ℤ y) ≡ differ (is_negative x) (is_negative y)) ⊎ (x *ℤ y ≡ pos 0)
sign_of_product (pos m) (pos n) = inl (rw (not_below m, not_below n, not_below (m * n)) refl)
sign_of_product (pos m) (negsuc n) = rw (not_below m) (opposite_sign (m * suc n))
sign_of_product (negsuc m) (pos n) = rw (not_below n) (opposite_sign (suc m * n))
sign_of_product (negsuc m) (negsuc n) = inl (not_below (suc m * suc n))

sign_of_units : (x : ℤ) → is_negative (x *ℤ pos unit) ≡ is_negative x
sign_of_units x = grind (arith, ints)

differ_false : (b : Bool) → differ b false ≡ b
differ_false true = refl
differ_false false = refl

nearest_to_zero : nearest 0 unit ≡ 0
nearest_to_zero = refl

pub product_beyond : (x y : ℤ) → most < unsigned_abs (result_of Mul x y) → limited (result_of Mul x y) ≡ signed_beyond x y
product_beyond x y h =
    let b = differ (is_negative (x *ℤ y)) (is_negative (pos unit)) in
    let n = nearest (unsigned_abs (x *ℤ y)) unit in
    let great : most < n = omega (arith, h, size_of_signed b n) in
    ⊎_elim
    (λ (e : is_negative (x *ℤ y) ≡ differ (is_negative x) (is_negative y)). limited_signed b n great
    ∙ ap (λ s. signed s (most + 1)) (differ_false (is_negative (x *ℤ y)) ∙ e))
    (λ (e : x *ℤ y ≡ pos 0). absurd (none e great))
    (sign_of_product x y)
  where
    none : x *ℤ y ≡ pos 0 → most < nearest (unsigned_abs (x *ℤ y)) unit → ⊥
    none e g = let z = ap (λ z. nearest (unsigned_abs z) unit) e in omega (arith, z, g, nearest_to_zero)

pub quotient_beyond : (x y : ℤ) → most < unsigned_abs (result_of Div x y) → limited (result_of Div x y) ≡ signed_beyond x y
quotient_beyond x y h = go (is_zero y) refl
  where
    go : (z : Bool) → is_zero y ≡ z → limited (result_of Div x y) ≡ signed_beyond x y
    go true e = absurd (none (rw e at h))
      where
        none : most < 0 → ⊥
        none g = omega (arith, g)
    go false e =
        let b = differ (is_negative (x *ℤ pos unit)) (is_negative y) in
        let n = nearest (unsigned_abs (x *ℤ pos unit)) (unsigned_abs y) in
        let great : most < n = omega (arith, rw e at h, size_of_signed b n) in
        rw e (limited_signed b n great ∙ ap (λ s. signed (differ s (is_negative y)) (most + 1)) (sign_of_units x))

-- ---- products and quotients as values

pub numbers_value : (op : Op) (x y : ℤ) → (op ≡ Mul) ⊎ (op ≡ Div) → op_value op (Num x) (Num y) Undef ≡ bounded (result_of op x y)
unfolding op_value
numbers_value op x y e = ⊎_elim (λ (h : op ≡ Mul). rw h refl) (λ (h : op ≡ Div). rw h refl) e

pub is_beyond : (op : Op) (x y : ℤ) → (op ≡ Mul) ⊎ (op ≡ Div) → most < unsigned_abs (result_of op x y) → limited (result_of op x y) ≡ signed_beyond x y
is_beyond op x y e h = ⊎_elim
    (λ (m : op ≡ Mul). rw m (product_beyond x y (rw m at h)))
    (λ (d : op ≡ Div). rw d (quotient_beyond x y (rw d at h)))
    e

pub corner_number : (op : Op) (x y z : ℤ) (v : Value) → (op ≡ Mul) ⊎ (op ≡ Div) → v ≡ op_value op (Num x) (Num y) Undef → v ≡ Num z
    → z ≡ limited (result_of op x y)
corner_number op x y z v e is num =
    let b = bounded_is_num (result_of op x y) z (sym (numbers_value op x y e) ∙ sym is ∙ num) in
    b.0 ∙ sym (limited_small (result_of op x y) b.1)

pub corner_beyond : (op : Op) (x y : ℤ) (v : Value) → (op ≡ Mul) ⊎ (op ≡ Div) → v ≡ op_value op (Num x) (Num y) Undef → (v ≡ Undef) ⊎ (v ≡ Over)
    → signed_beyond x y ≡ limited (result_of op x y)
corner_beyond op x y v e is none =
    let b : v ≡ bounded (result_of op x y) = is ∙ numbers_value op x y e in
    ⊎_elim
    (λ (h : v ≡ Undef). absurd (never_undefined (result_of op x y) (sym b ∙ h)))
    (λ (h : v ≡ Over). sym (is_beyond op x y e (bounded_is_over (result_of op x y) (sym b ∙ h))))
    none

-- ---- numbers in the code

-- a number as the code stores it is that number
pub kept : (r z : ℤ) → FitsSigned w128 r → r ≡ z → cast_signed w128 (cast_unsigned w128 r) ≡ z
kept r z f e = to_z-of_z w128 r f ∙ e

pub pair_kept : (q r y z : ℤ) → FitsSigned w128 q → FitsSigned w128 r → q ≡ y → r ≡ z
    → ◌≡◌ {A = ℤ × ℤ} (cast_signed w128 (cast_unsigned w128 q), cast_signed w128 (cast_unsigned w128 r)) (y, z)
pair_kept q r y z f g d e = rw (kept q y f d, kept r z g e) refl

pub range_kept : (q r : ℤ) (s : ℤ × ℤ) → FitsSigned w128 q → FitsSigned w128 r → q ≡ limited s.0 → r ≡ limited s.1
    → ◌≡◌ {A = ℤ × ℤ} (cast_signed w128 (cast_unsigned w128 q), cast_signed w128 (cast_unsigned w128 r)) (limited_range s)
unfolding limited_range
range_kept q r s f g d e = pair_kept q r (limited s.0) (limited s.1) f g d e

pub least_kept : (p q r s i j k l : ℤ) → FitsSigned w128 p → FitsSigned w128 q → FitsSigned w128 r → FitsSigned w128 s → p ≡ limited i → q ≡ limited j
    → r ≡ limited k → s ≡ limited l → least_of (cast_signed w128 (cast_unsigned w128 p)) (cast_signed w128 (cast_unsigned w128 q))
    (cast_signed w128 (cast_unsigned w128 r)) (cast_signed w128 (cast_unsigned w128 s)) ≡ limited (least_of i j k l)
least_kept p q r s i j k l e f g h a b c d = rw (kept p (limited i) e a, kept q (limited j) f b, kept r (limited k) g c, kept s (limited l) h d)
    (limited_least i j k l)

pub greatest_kept : (p q r s i j k l : ℤ) → FitsSigned w128 p → FitsSigned w128 q → FitsSigned w128 r → FitsSigned w128 s → p ≡ limited i → q ≡ limited j
    → r ≡ limited k → s ≡ limited l → greatest_of (cast_signed w128 (cast_unsigned w128 p)) (cast_signed w128 (cast_unsigned w128 q))
    (cast_signed w128 (cast_unsigned w128 r)) (cast_signed w128 (cast_unsigned w128 s)) ≡ limited (greatest_of i j k l)
greatest_kept p q r s i j k l e f g h a b c d = rw (kept p (limited i) e a, kept q (limited j) f b, kept r (limited k) g c, kept s (limited l) h d)
    (limited_greatest i j k l)

opposite_kept : (z : ℤ) → unsigned_abs z ≤ most * unit → cast_signed w128 (cast_unsigned w128 (pos 0 -ℤ z)) ≡ neg_ℤ z
opposite_kept (pos n) h = omega (arith, ints)
opposite_kept (negsuc n) h = omega (arith, ints)

pub opposites_kept : (g z : ℤ) → FitsSigned w128 g → unsigned_abs g ≤ most * unit → g ≡ z
    → ◌≡◌ {A = ℤ × ℤ} (cast_signed w128 (cast_unsigned w128 (pos 0 -ℤ cast_signed w128 (cast_unsigned w128 g))), cast_signed w128 (cast_unsigned w128 g))
    (neg_ℤ z, z)
opposites_kept g z f h e = rw (kept g g f refl, opposite_kept g h) (rw e refl)

-- ---- quotients, by the possible divisors

pub quotients_by_others : (r s : ℤ × ℤ) → has_zero s ≡ false → quotients r s ≡ corners Div r s
unfolding quotients
quotients_by_others r s h = rw h refl

pub quotients_by_zero : (r s : ℤ × ℤ) → has_zero s ≡ true → has_other s ≡ false → quotients r s ≡ (pos 0, pos 0)
unfolding quotients
quotients_by_zero r s h k = rw (h, k) refl

pub quotients_by_both : (r s : ℤ × ℤ) → has_zero s ≡ true → has_other s ≡ true
    → quotients r s ≡ (neg_ℤ (greatest_size r *ℤ pos unit), greatest_size r *ℤ pos unit)
unfolding quotients
quotients_by_both r s h k = rw (h, k) refl

-- ---- numbers that are Over

pub is_over_below : (z : ℤ) → z <ℤ neg_ℤ (pos most) → bounded z ≡ Over
is_over_below (pos n) h = absurd (omega (arith, ints))
is_over_below (negsuc n) h = bounded_great (negsuc n) (omega (arith, ints))

pub is_over_above : (z : ℤ) → pos most <ℤ z → bounded z ≡ Over
is_over_above (pos n) h = bounded_great (pos n) (omega (arith, ints))
is_over_above (negsuc n) h = absurd (omega (arith, ints))
