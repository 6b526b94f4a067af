-- Intervals that are cut to the amounts.
use Rattle.std.proofs.Common.{◌≡◌, Bool, true, false, ℤ, ◌≤ℤ◌, ◌<ℤ◌, is_some, refl, ap, sym, ◌∙◌, subst, arith, ◌⊎◌, inl, inr, ⊎_elim}
use mathlib.Core.Bool.{◌||◌}
use Rattle.std.proofs.lemmas.Bool.{or_left, or_right}
use Rattle.std.proofs.lemmas.Int.{ints, clamps, by_lt_z, to_z-of_z}
use Rattle.std.specs.Int.{int_min, int_max, w128, cast_unsigned, cast_signed}
use Rattle.std.specs.Prelude.{int_lt, IsTrue, FitsSigned}
use Rattle.definedness.specs.Ranges.{IsInterval, lowest_amount, highest_amount, cut_to_amounts, leaves_amounts}
use Rattle.definedness.specs.Facts.{bounded_fact}
use Rattle.definedness.specs.inner.Limits.{limited, limited_range}

pub below : (x y : ℤ) → x <ℤ y → int_lt x y ≡ true
below x y h = grind (arith, ints)

pub not_below : (x y : ℤ) → y ≤ℤ x → int_lt x y ≡ false
not_below x y h = grind (arith, ints)

limited_lt_least : (z : ℤ) → int_lt (limited z) lowest_amount ≡ int_lt z lowest_amount
unfolding limited
limited_lt_least z = by_lt_z z lowest_amount
    (λ h. below (limited z) lowest_amount (omega (arith, ints, clamps)) ∙ sym (below z lowest_amount h))
    (λ h. not_below (limited z) lowest_amount (omega (arith, ints, clamps)) ∙ sym (not_below z lowest_amount h))

limited_gt_most : (z : ℤ) → int_lt highest_amount (limited z) ≡ int_lt highest_amount z
unfolding limited
limited_gt_most z = by_lt_z highest_amount z
    (λ h. below highest_amount (limited z) (omega (arith, ints, clamps)) ∙ sym (below highest_amount z h))
    (λ h. not_below highest_amount (limited z) (omega (arith, ints, clamps)) ∙ sym (not_below highest_amount z h))

limited_max_least : (z : ℤ) → z ≤ℤ highest_amount → int_max lowest_amount (limited z) ≡ int_max lowest_amount z
unfolding limited
limited_max_least z h = omega (arith, ints, clamps)

limited_min_most : (z : ℤ) → lowest_amount ≤ℤ z → int_min (limited z) highest_amount ≡ int_min z highest_amount
unfolding limited
limited_min_most z h = omega (arith, ints, clamps)

leaves_limited : (r : ℤ × ℤ) → leaves_amounts (limited_range r) ≡ leaves_amounts r
unfolding limited_range
leaves_limited r = rw (limited_lt_least r.0, limited_gt_most r.1) refl

cut_limited : (r : ℤ × ℤ) → cut_to_amounts (limited_range r) ≡ cut_to_amounts r
unfolding limited_range
cut_limited r = by_lt_z r.1 lowest_amount
    (λ h. rw (limited_lt_least r.1, below r.1 lowest_amount h) refl)
    (λ a. by_lt_z highest_amount r.0
    (λ h. rw (limited_lt_least r.1, limited_gt_most r.0, not_below r.1 lowest_amount a, below highest_amount r.0 h) refl)
    (λ b. rw (limited_lt_least r.1, limited_gt_most r.0, limited_max_least r.0 b, limited_min_most r.1 a) refl))

bounded_limited : (u o : Bool) (r : ℤ × ℤ) → bounded_fact u o (limited_range r) ≡ bounded_fact u o r
bounded_limited u o r = rw (leaves_limited r, cut_limited r) refl

-- intervals that differ only in how far beyond the amounts they are have the same fact
pub bounded_same : (u o : Bool) (r s : ℤ × ℤ) → limited_range r ≡ limited_range s → bounded_fact u o r ≡ bounded_fact u o s
bounded_same u o r s e = sym (bounded_limited u o r) ∙ ap (bounded_fact u o) e ∙ bounded_limited u o s

limited_grows : (x y : ℤ) → x ≤ℤ y → limited x ≤ℤ limited y
unfolding limited
limited_grows x y h = omega (arith, ints, clamps)

pub ordered_same : (r s : ℤ × ℤ) → limited_range r ≡ limited_range s → s.0 ≤ℤ s.1 → limited r.0 ≤ℤ limited r.1
unfolding limited_range
ordered_same r s e h = subst (λ p. p.0 ≤ℤ p.1) (sym e) (limited_grows s.0 s.1 h)

pub cut_ordered : (low high : ℤ) → limited low ≤ℤ limited high → lowest_amount ≤ℤ high → low ≤ℤ highest_amount
    → int_max lowest_amount low ≤ℤ int_min high highest_amount
unfolding limited
cut_ordered low high h a b = omega (arith, ints, clamps)

pub cut_is_interval : (low high : ℤ) → limited low ≤ℤ limited high → lowest_amount ≤ℤ high → low ≤ℤ highest_amount
    → IsInterval (int_max lowest_amount low, int_min high highest_amount)
cut_is_interval low high h a b = record {
  low = record { low = omega (arith, ints, clamps); high = omega (arith, ints, clamps) };
  ordered = cut_ordered low high h a b;
  high = record { low = omega (arith, ints, clamps); high = omega (arith, ints, clamps) };
}

within_is_some : (low high : ℤ) → limited low ≤ℤ limited high → int_lt low lowest_amount ≡ false → int_lt highest_amount high ≡ false
    → is_some (cut_to_amounts (low, high)) ≡ true
unfolding limited
within_is_some low high h a b =
    let l : lowest_amount ≤ℤ low = grind (arith, ints) in
    let u : high ≤ℤ highest_amount = grind (arith, ints) in
    rw (not_below high lowest_amount (omega (arith, ints, clamps)), not_below highest_amount low (omega (arith, ints, clamps))) refl

-- a number is Over, or some number is left
leaves_or_some : (low high : ℤ) → limited low ≤ℤ limited high → (leaves_amounts (low, high) ≡ true) ⊎ (is_some (cut_to_amounts (low, high)) ≡ true)
leaves_or_some low high h = go (int_lt low lowest_amount) (int_lt highest_amount high) refl refl
  where
    go : (p q : Bool) → int_lt low lowest_amount ≡ p → int_lt highest_amount high ≡ q
        → (leaves_amounts (low, high) ≡ true) ⊎ (is_some (cut_to_amounts (low, high)) ≡ true)
    go true q d e = inl (or_left _ _ d)
    go false true d e = inl (or_right (int_lt low lowest_amount) _ e)
    go false false d e = inr (within_is_some low high h d e)

pub some_value : (u o n : Bool) (low high : ℤ) → limited low ≤ℤ limited high → n ≡ (o || leaves_amounts (low, high))
    → IsTrue (u || n || is_some (cut_to_amounts (low, high)))
some_value u o n low high h e = ⊎_elim
    (λ (l : leaves_amounts (low, high) ≡ true). or_left (u || n) _ (or_right u n (e ∙ or_right o _ l)))
    (λ (s : is_some (cut_to_amounts (low, high)) ≡ true). or_right (u || n) _ s)
    (leaves_or_some low high h)

-- a pair as the code stores it is that pair
pub range_is_kept : (r : ℤ × ℤ) → FitsSigned w128 r.0 → FitsSigned w128 r.1
    → ◌≡◌ {A = ℤ × ℤ} (cast_signed w128 (cast_unsigned w128 r.0), cast_signed w128 (cast_unsigned w128 r.1)) r
range_is_kept r f g = rw (to_z-of_z w128 r.0 f, to_z-of_z w128 r.1 g) refl

pub kept_ordered : (r s : ℤ × ℤ) → FitsSigned w128 r.0 → FitsSigned w128 r.1 → limited_range r ≡ limited_range s → s.0 ≤ℤ s.1
    → limited (cast_signed w128 (cast_unsigned w128 r.0)) ≤ℤ limited (cast_signed w128 (cast_unsigned w128 r.1))
kept_ordered r s f g e h = rw (to_z-of_z w128 r.0 f, to_z-of_z w128 r.1 g) (ordered_same r s e h)
