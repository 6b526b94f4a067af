-- Products of amounts, and tests for zero.
use Rattle.std.proofs.Common.{ap, sym, cond, ◌∙◌, ◌≡◌, ◌^◌, ◌≤◌, ℤ, pos, negsuc, ◌*ℤ◌, unsigned_abs, false, refl, suc, zero, arith, lit<}
use Rattle.std.proofs.Math.Dec.{eqb-suc-zero}
use Rattle.std.proofs.lemmas.Int.{ints, to_z-of_z, unsigned_abs-mul, fits_signed_mul}
use Rattle.std.proofs.lemmas.Nat.{mul-le}
use Rattle.std.specs.Int.{w128, cast_unsigned, cast_signed}
use Rattle.std.specs.Prelude.{FitsSigned}
use Rattle.m_fixed.specs.Amounts.{IsAmount, unit, most}
use Rattle.m_fixed.specs.Operators.{is_zero, quotient}
use Rattle.m_fixed.specs.Rounding.{rounded}

pub size_of_amount : (z : ℤ) → IsAmount z → unsigned_abs z ≤ most
size_of_amount (pos n) h = omega (arith, ints)
size_of_amount (negsuc n) h = omega (arith, ints)

pub size_of_product : (x y : ℤ) → IsAmount x → IsAmount y → unsigned_abs (x *ℤ y) ≤ 10 ^ 38
size_of_product x y p q = rw (unsigned_abs-mul x y) (mul-le _ _ most most (size_of_amount x p) (size_of_amount y q))

pub product_fits : (x y : ℤ) → IsAmount x → IsAmount y → FitsSigned w128 (x *ℤ y)
product_fits x y p q = fits_signed_mul w128 x y most most (size_of_amount x p) (size_of_amount y q) (lit< tt)

pub product_is : (x y : ℤ) → FitsSigned w128 x → FitsSigned w128 y → IsAmount x → IsAmount y
    → cast_signed w128 (cast_unsigned w128 (cast_signed w128 (cast_unsigned w128 x) *ℤ cast_signed w128 (cast_unsigned w128 y))) ≡ x *ℤ y
product_is x y f g p q = rw (to_z-of_z w128 x f, to_z-of_z w128 y g, to_z-of_z w128 (x *ℤ y) (product_fits x y p q)) refl

pub not_zero : (y : ℤ) → (cast_unsigned w128 y ≡ 0 → ⊥) → is_zero y ≡ false
not_zero (pos zero) h = absurd (h refl)
not_zero (pos (suc n)) h = eqb-suc-zero n
not_zero (negsuc n) h = refl

pub quotient_is : (x y p r : ℤ) → FitsSigned w128 x → FitsSigned w128 y → FitsSigned w128 p → FitsSigned w128 r
    → p ≡ cast_signed w128 (cast_unsigned w128 x) *ℤ pos unit → r ≡ rounded (cast_signed w128 (cast_unsigned w128 p)) (cast_signed w128 (cast_unsigned w128 y))
    → (cast_unsigned w128 y ≡ 0 → ⊥) → cast_signed w128 (cast_unsigned w128 r) ≡ quotient x y
quotient_is x y p r fx fy fp fr ep er h =
    to_z-of_z w128 r fr ∙ er ∙ ap (λ n. rounded n (cast_signed w128 (cast_unsigned w128 y))) (to_z-of_z w128 p fp ∙ ep
    ∙ ap (λ n. n *ℤ pos unit) (to_z-of_z w128 x fx))
    ∙ ap (λ d. rounded (x *ℤ pos unit) d) (to_z-of_z w128 y fy) ∙ sym (ap (λ b. cond b (pos 0) (rounded (x *ℤ pos unit) y)) (not_zero y h))
