-- The values of operators in the seven forms.
use Rattle.std.proofs.Common.{◌≡◌, ◌≢◌, ℕ, zero, suc, Bool, true, false, not, eqb, ℤ, pos, negsuc, ◌+ℤ◌, ◌-ℤ◌, ◌*ℤ◌, neg_ℤ, unsigned_abs, refl, ap, sym, ◌∙◌}
use Rattle.std.proofs.Common.{subst, arith}
use Rattle.std.specs.Prelude.{if◌then◌else◌}
use Rattle.std.proofs.lemmas.Bool.{eqb-true, true≢false, le-leb}
use Rattle.std.proofs.lemmas.Bool.Decides.{Decides-int_eq}
use Rattle.std.proofs.lemmas.Int.{ints}
use Rattle.m_fixed.specs.declared.amount.Value.{Value}
use Rattle.m_fixed.specs.declared.amount.Value.TheVariants.{Undef, Num, Over}
use Rattle.m_fixed.specs.declared.operator.Op.{Op}
use Rattle.m_fixed.specs.declared.operator.Op.TheVariants.{Add, Sub, Mul, Neg, Eq, Ne, Lt, Le, Gt, Ge, And, Or, Not, Present, Positive, PositiveOrNull, Null}
use Rattle.m_fixed.specs.declared.operator.Op.TheVariants.{Truth, Choose, At}
use Rattle.m_fixed.specs.Amounts.{IsAmount, most, unit}
use Rattle.m_fixed.specs.Rounding.{rounded}
use Rattle.m_fixed.specs.Operators.{op_value, bounded, truth, is_zero, of_one, of_two, result_of, chosen, counts_undefined_as_zero}
use Rattle.m_fixed.specs.Laws.{IsValue}
use Rattle.m_fixed.proofs.Products.{size_of_amount}
use Rattle.m_fixed.proofs.Nearest.{nearest_is_rounded}
use Rattle.flat_code.specs.Runs.{is_one}
use Rattle.flat_code.specs.Tidy.{is_null, is_test}

bounded-amount : (z : ℤ) → IsAmount z → bounded z ≡ Num z
bounded-amount z h = rw (le-leb (unsigned_abs z) most (size_of_amount z h)) refl

suc≢zero : (n : ℕ) → eqb (suc n) 0 ≡ true → ⊥
suc≢zero n e = let z = eqb-true (suc n) 0 e in omega arith

pub null-value : (v : Value) → is_null v ≡ true → v ≡ Num (pos 0)
null-value Undef e = absurd (true≢false (sym e))
null-value Over e = absurd (true≢false (sym e))
null-value (Num (pos zero)) e = refl
null-value (Num (pos (suc n))) e = absurd (suc≢zero n e)
null-value (Num (negsuc n)) e = absurd (true≢false (sym e))

pub one-value : (v : Value) → is_one v ≡ true → v ≡ Num (pos 1_000_000)
one-value Undef e = absurd (true≢false (sym e))
one-value Over e = absurd (true≢false (sym e))
one-value (Num z) e = ap Num ((Decides-int_eq z (pos 1_000_000)).0 e)

plus-zero : (x : ℤ) → x +ℤ pos 0 ≡ x
plus-zero x = omega (arith, ints)

minus-zero : (x : ℤ) → x -ℤ pos 0 ≡ x
minus-zero x = omega (arith, ints)

zero-plus : (x : ℤ) → pos 0 +ℤ x ≡ x
zero-plus x = omega (arith, ints)

neg-neg : (x : ℤ) → neg_ℤ (neg_ℤ x) ≡ x
neg-neg x = omega (arith, ints)

-- ---- sums and differences

pub same-sum : (v c : Value) → IsValue v → v ≢ Undef → op_value Add v (Num (pos 0)) c ≡ v
unfolding op_value
same-sum Undef c h some = absurd (some refl)
same-sum Over c h some = refl
same-sum (Num x) c h some = ap bounded (plus-zero x) ∙ bounded-amount x h

pub same-sum-left : (v c : Value) → IsValue v → v ≢ Undef → op_value Add (Num (pos 0)) v c ≡ v
unfolding op_value
same-sum-left Undef c h some = absurd (some refl)
same-sum-left Over c h some = refl
same-sum-left (Num x) c h some = ap bounded (zero-plus x) ∙ bounded-amount x h

pub same-difference : (v c : Value) → IsValue v → v ≢ Undef → op_value Sub v (Num (pos 0)) c ≡ v
unfolding op_value
same-difference Undef c h some = absurd (some refl)
same-difference Over c h some = refl
same-difference (Num x) c h some = ap bounded (minus-zero x) ∙ bounded-amount x h

-- ---- products

times-unit : (x : ℤ) → rounded (x *ℤ pos 1_000_000) (pos 1_000_000) ≡ x
times-unit x = sym (nearest_is_rounded (x *ℤ pos 1_000_000) (pos 1_000_000) x (λ e. cc) (record {
  near = omega (arith, ints);
  farthest = λ p h. omega (arith, ints, h);
}))

unit-times : (x : ℤ) → pos 1_000_000 *ℤ x ≡ x *ℤ pos 1_000_000
unit-times x = omega (arith, ints)

pub same-product : (v c : Value) → IsValue v → op_value Mul v (Num (pos 1_000_000)) c ≡ v
unfolding op_value
same-product Undef c h = refl
same-product Over c h = refl
same-product (Num x) c h = ap bounded (times-unit x) ∙ bounded-amount x h

pub same-product-left : (v c : Value) → IsValue v → op_value Mul (Num (pos 1_000_000)) v c ≡ v
unfolding op_value
same-product-left Undef c h = refl
same-product-left Over c h = refl
same-product-left (Num x) c h = ap (λ z. bounded (rounded z (pos unit))) (unit-times x) ∙ ap bounded (times-unit x) ∙ bounded-amount x h

-- ---- opposites

opposite-amount : (x : ℤ) → IsAmount x → IsAmount (neg_ℤ x)
opposite-amount x h = record { low = omega (arith, ints, h.high); high = omega (arith, ints, h.low) }

pub twice-opposite : (v b c d e : Value) → IsValue v → op_value Neg (op_value Neg v b c) d e ≡ v
unfolding op_value
twice-opposite Undef b c d e h = refl
twice-opposite Over b c d e h = refl
twice-opposite (Num x) b c d e h =
    ap (λ v. of_one Neg v) (bounded-amount (neg_ℤ x) (opposite-amount x h)) ∙ ap bounded (neg-neg x) ∙ bounded-amount x h

-- ---- truths

-- if a test is a number, it is 0 or 1
truth-bit : (t : Bool) (b c : Value) → op_value Truth (Num (truth t)) b c ≡ Num (truth t)
unfolding op_value
truth-bit true b c = refl
truth-bit false b c = refl

bounded-truth : (t : Bool) → bounded (truth t) ≡ Num (truth t)
bounded-truth true = refl
bounded-truth false = refl

-- a value that is undefined, Over, 0 or 1
data IsTruth : Value → Type 0 where
  undef : IsTruth Undef
  over : IsTruth Over
  bit : (t : Bool) → IsTruth (Num (truth t))

bounded-bit : (t : Bool) → IsTruth (bounded (truth t))
bounded-bit t = subst IsTruth (sym (bounded-truth t)) (bit t)

-- a test of numbers has such a value
abbrev Bits : Op → Type 0
Bits op = (x y : ℤ) → (t : Bool) × (result_of op x y ≡ truth t)

one-truth : (op : Op) (a : Value) → Bits op → IsTruth (of_one op a)
one-truth op Over h = over
one-truth Present Undef h = bit false
one-truth op Undef h = undef
one-truth op (Num x) h = let r = h x (pos 0) in subst (λ z. IsTruth (bounded z)) (sym r.1) (bounded-bit r.0)

two-truth : (op : Op) (a b : Value) → Bits op → IsTruth (of_two op a b)
two-truth op Over b h = over
two-truth op Undef Over h = over
two-truth op (Num x) Over h = over
two-truth op Undef Undef h = undef
two-truth op Undef (Num y) h = go (counts_undefined_as_zero op)
  where
    go : (t : Bool) → IsTruth (if t then bounded (result_of op (pos 0) y) else Undef)
    go true = let r = h (pos 0) y in subst (λ z. IsTruth (bounded z)) (sym r.1) (bounded-bit r.0)
    go false = undef
two-truth op (Num x) Undef h = go (counts_undefined_as_zero op)
  where
    go : (t : Bool) → IsTruth (if t then bounded (result_of op x (pos 0)) else Undef)
    go true = let r = h x (pos 0) in subst (λ z. IsTruth (bounded z)) (sym r.1) (bounded-bit r.0)
    go false = undef
two-truth op (Num x) (Num y) h = let r = h x y in subst (λ z. IsTruth (bounded z)) (sym r.1) (bounded-bit r.0)

test-truth : (op : Op) (a b c : Value) → is_test op ≡ true → IsTruth (op_value op a b c)
unfolding op_value
test-truth Eq a b c t = two-truth Eq a b (λ x y. (_, refl))
test-truth Ne a b c t = two-truth Ne a b (λ x y. (_, refl))
test-truth Lt a b c t = two-truth Lt a b (λ x y. (_, refl))
test-truth Le a b c t = two-truth Le a b (λ x y. (_, refl))
test-truth Gt a b c t = two-truth Gt a b (λ x y. (_, refl))
test-truth Ge a b c t = two-truth Ge a b (λ x y. (_, refl))
test-truth And a b c t = two-truth And a b (λ x y. (_, refl))
test-truth Or a b c t = two-truth Or a b (λ x y. (_, refl))
test-truth At a b c t = two-truth At a b (λ x y. (_, refl))
test-truth Not a b c t = one-truth Not a (λ x y. (_, refl))
test-truth Present a b c t = one-truth Present a (λ x y. (true, refl))
test-truth Positive a b c t = one-truth Positive a (λ x y. (_, refl))
test-truth PositiveOrNull a b c t = one-truth PositiveOrNull a (λ x y. (_, refl))
test-truth Null a b c t = one-truth Null a (λ x y. (_, refl))
test-truth Truth Undef b c t = bit false
test-truth Truth Over b c t = bit false
test-truth Truth (Num x) b c t = bit (not (is_zero x))
test-truth _ a b c t = absurd (true≢false (sym t))

truth-same : (v b c : Value) → IsTruth v → v ≢ Undef → v ≢ Over → op_value Truth v b c ≡ v
truth-same Undef b c undef u o = absurd (u refl)
truth-same Over b c over u o = absurd (o refl)
truth-same v b c (bit t) u o = truth-bit t b c

pub truth-of-test : (op : Op) (a b c v d e : Value) → is_test op ≡ true → v ≡ op_value op a b c → v ≢ Undef → v ≢ Over → op_value Truth v d e ≡ v
truth-of-test op a b c v d e t is u o = truth-same v d e (subst IsTruth (sym is) (test-truth op a b c t)) u o

-- ---- choices

pub chosen-first : (x y : Value) (z : ℤ) → is_zero z ≡ false → op_value Choose (Num z) x y ≡ x
unfolding op_value
chosen-first x y z e = ap (λ t. if t then y else x) e

pub chosen-same : (x : Value) (z : ℤ) → op_value Choose (Num z) x x ≡ x
unfolding op_value
chosen-same x z = go (is_zero z)
  where
    go : (t : Bool) → (if t then x else x) ≡ x
    go true = refl
    go false = refl

pub choice-is : (w x y : Value) → op_value Choose w x y ≡ chosen w x y
unfolding op_value
choice-is w x y = refl
