-- The results of an operator on numbers of two intervals are within the bounds.
use Rattle.std.proofs.Common.{◌≡◌, ℕ, zero, suc, eqb, Bool, true, false, not, ℤ, pos, negsuc, ◌+ℤ◌, ◌-ℤ◌, neg_ℤ, ◌≤ℤ◌, unsigned_abs, refl, sym, ⊎_elim, arith}
use mathlib.Core.Bool.{◌&&◌, ◌||◌}
use Rattle.std.proofs.lemmas.Bool.{true≢false, or_left, or_right, eqb-true, cases_Bool}
use Rattle.std.proofs.lemmas.Int.{ints, clamps}
use Rattle.std.specs.Int.{int_min, int_max}
use Rattle.std.specs.Ordering.{int_eq}
use Rattle.std.specs.Prelude.{int_lt, int_le}
use Rattle.m_fixed.specs.declared.operator.Op.{Op}
use Rattle.m_fixed.specs.declared.operator.Op.TheVariants.{Add, Sub, Mul, Div, Neg, Eq, Ne, Lt, Le, Gt, Ge, And, Or, Not, Present, Abs, Positive}
use Rattle.m_fixed.specs.declared.operator.Op.TheVariants.{PositiveOrNull, Null, Arr, Inf, Max, Min, Truth, Choose, At}
use Rattle.m_fixed.specs.Amounts.{unit}
use Rattle.m_fixed.specs.Operators.{result_of, truth, is_zero, cut}
use Rattle.definedness.specs.Ranges.{InRange, alone, has_zero, has_other}
use Rattle.definedness.specs.Results.{truths, may_be_less, may_be_at_most, may_be_equal, may_differ, cut_range, sizes, results_of}
use Rattle.definedness.proofs.Between.{products_hold}
use Rattle.definedness.proofs.Quotients.{quotients_hold}
use Rattle.definedness.proofs.Wholes.{cut_grows, arr_grows, inf_grows}

-- ---- tests

-- the truth of a test that passes only where it may, and fails only where it may
pub in_truths : (p f b : Bool) → (b ≡ true → p ≡ true) → (b ≡ false → f ≡ true) → InRange (truths p f) (truth b)
in_truths p f true g h = rw (g refl) (ones f)
  where
    ones : (f : Bool) → InRange (truths true f) (pos unit)
    ones true = (omega (arith, ints), omega (arith, ints))
    ones false = (omega (arith, ints), omega (arith, ints))
in_truths p f false g h = rw (h refl) (zeros p)
  where
    zeros : (p : Bool) → InRange (truths p true) (pos 0)
    zeros true = (omega (arith, ints), omega (arith, ints))
    zeros false = (omega (arith, ints), omega (arith, ints))

pub not_true : (b : Bool) → not b ≡ true → b ≡ false
not_true true e = absurd (true≢false (sym e))
not_true false e = refl

pub not_false : (b : Bool) → not b ≡ false → b ≡ true
not_false true e = refl
not_false false e = absurd (true≢false e)

is_less : (r s : ℤ × ℤ) (x y : ℤ) → InRange r x → InRange s y → int_lt x y ≡ true → may_be_less r s ≡ true
is_less r s x y h i e =
    let l : r.0 ≤ℤ x = h.0 in
    let u : y ≤ℤ s.1 = i.1 in
    grind (arith, ints)

is_at_most : (r s : ℤ × ℤ) (x y : ℤ) → InRange r x → InRange s y → int_le x y ≡ true → may_be_at_most r s ≡ true
is_at_most r s x y h i e =
    let l : r.0 ≤ℤ x = h.0 in
    let u : y ≤ℤ s.1 = i.1 in
    grind (arith, ints)

not_less : (x y : ℤ) → int_lt x y ≡ false → int_le y x ≡ true
not_less x y e = grind (arith, ints)

not_at_most : (x y : ℤ) → int_le x y ≡ false → int_lt y x ≡ true
not_at_most x y e = grind (arith, ints)

equal_below : (x y : ℤ) → int_eq x y ≡ true → int_le x y ≡ true
equal_below x y e = grind (arith, ints)

equal_above : (x y : ℤ) → int_eq x y ≡ true → int_le y x ≡ true
equal_above x y e = grind (arith, ints)

other_less : (x y : ℤ) → int_eq x y ≡ false → int_lt x y ≡ false → int_lt y x ≡ true
other_less x y e d = grind (arith, ints)

is_equal : (r s : ℤ × ℤ) (x y : ℤ) → InRange r x → InRange s y → int_eq x y ≡ true → may_be_equal r s ≡ true
is_equal r s x y h i e = rw (is_at_most r s x y h i (equal_below x y e), is_at_most s r y x i h (equal_above x y e)) refl

is_other : (r s : ℤ × ℤ) (x y : ℤ) → InRange r x → InRange s y → int_eq x y ≡ false → may_differ r s ≡ true
is_other r s x y h i e = ⊎_elim
    (λ (d : int_lt x y ≡ true). or_left (may_be_less r s) (may_be_less s r) (is_less r s x y h i d))
    (λ (d : int_lt x y ≡ false). or_right (may_be_less r s) (may_be_less s r) (is_less s r y x i h (other_less x y e d)))
    (cases_Bool (int_lt x y))

pub zero_in : (r : ℤ × ℤ) (x : ℤ) → InRange r x → is_zero x ≡ true → has_zero r ≡ true
zero_in r (pos zero) h e =
    let l : r.0 ≤ℤ pos 0 = h.0 in
    let u : pos 0 ≤ℤ r.1 = h.1 in
    grind (arith, ints)
zero_in r (pos (suc n)) h e = absurd (suc_zero n e)
  where
    suc_zero : (n : ℕ) → eqb (suc n) 0 ≡ true → ⊥
    suc_zero n e = let z = eqb-true (suc n) 0 e in omega arith
zero_in r (negsuc n) h e = absurd (true≢false (sym e))

pub other_in : (r : ℤ × ℤ) (x : ℤ) → InRange r x → is_zero x ≡ false → has_other r ≡ true
other_in r (pos zero) h e = absurd (true≢false e)
other_in r (pos (suc n)) h e = let u : pos (suc n) ≤ℤ r.1 = h.1 in or_right (int_lt r.0 (pos 0)) (int_lt (pos 0) r.1) (grind (arith, ints))
other_in r (negsuc n) h e = let l : r.0 ≤ℤ negsuc n = h.0 in or_left (int_lt r.0 (pos 0)) (int_lt (pos 0) r.1) (grind (arith, ints))

and_both : (a b p q : Bool) → (a ≡ true → p ≡ true) → (b ≡ true → q ≡ true) → (a && b) ≡ true → (p && q) ≡ true
and_both true true p q g h e = rw (g refl, h refl) refl
and_both true false p q g h e = absurd (true≢false (sym e))
and_both false b p q g h e = absurd (true≢false (sym e))

and_one : (a b p q : Bool) → (a ≡ false → p ≡ true) → (b ≡ false → q ≡ true) → (a && b) ≡ false → (p || q) ≡ true
and_one true true p q g h e = absurd (true≢false e)
and_one true false p q g h e = or_right p q (h refl)
and_one false b p q g h e = or_left p q (g refl)

or_one : (a b p q : Bool) → (a ≡ true → p ≡ true) → (b ≡ true → q ≡ true) → (a || b) ≡ true → (p || q) ≡ true
or_one true b p q g h e = or_left p q (g refl)
or_one false true p q g h e = or_right p q (h refl)
or_one false false p q g h e = absurd (true≢false (sym e))

or_both : (a b p q : Bool) → (a ≡ false → p ≡ true) → (b ≡ false → q ≡ true) → (a || b) ≡ false → (p && q) ≡ true
or_both true b p q g h e = absurd (true≢false e)
or_both false true p q g h e = absurd (true≢false e)
or_both false false p q g h e = rw (g refl, h refl) refl

equal_holds : (r s : ℤ × ℤ) (x y : ℤ) → InRange r x → InRange s y → InRange (truths (may_be_equal r s) (may_differ r s)) (truth (int_eq x y))
equal_holds r s x y h i = in_truths (may_be_equal r s) (may_differ r s) (int_eq x y) (is_equal r s x y h i) (is_other r s x y h i)

cut_in : (r : ℤ × ℤ) (x : ℤ) → InRange r x → InRange (cut_range r) (cut x)
cut_in r x h = (cut_grows r.0 x h.0, cut_grows x r.1 h.1)

pub in_alone : (z : ℤ) → InRange (alone z) z
in_alone z = (omega (arith, ints), omega (arith, ints))

-- ---- numbers

sum_holds : (r s : ℤ × ℤ) (x y : ℤ) → InRange r x → InRange s y → InRange (results_of Add r s) (x +ℤ y)
sum_holds r s x y h i =
    let a : r.0 ≤ℤ x = h.0 in
    let b : x ≤ℤ r.1 = h.1 in
    let c : s.0 ≤ℤ y = i.0 in
    let d : y ≤ℤ s.1 = i.1 in
    (omega (arith, ints), omega (arith, ints))

difference_holds : (r s : ℤ × ℤ) (x y : ℤ) → InRange r x → InRange s y → InRange (results_of Sub r s) (x -ℤ y)
difference_holds r s x y h i =
    let a : r.0 ≤ℤ x = h.0 in
    let b : x ≤ℤ r.1 = h.1 in
    let c : s.0 ≤ℤ y = i.0 in
    let d : y ≤ℤ s.1 = i.1 in
    (omega (arith, ints), omega (arith, ints))

opposite_holds : (r s : ℤ × ℤ) (x : ℤ) → InRange r x → InRange (results_of Neg r s) (neg_ℤ x)
opposite_holds r s x h =
    let a : r.0 ≤ℤ x = h.0 in
    let b : x ≤ℤ r.1 = h.1 in
    (omega (arith, ints), omega (arith, ints))

greater_holds : (r s : ℤ × ℤ) (x y : ℤ) → InRange r x → InRange s y → InRange (results_of Max r s) (int_max x y)
greater_holds r s x y h i =
    let a : r.0 ≤ℤ x = h.0 in
    let b : x ≤ℤ r.1 = h.1 in
    let c : s.0 ≤ℤ y = i.0 in
    let d : y ≤ℤ s.1 = i.1 in
    (omega (arith, ints, clamps), omega (arith, ints, clamps))

lesser_holds : (r s : ℤ × ℤ) (x y : ℤ) → InRange r x → InRange s y → InRange (results_of Min r s) (int_min x y)
lesser_holds r s x y h i =
    let a : r.0 ≤ℤ x = h.0 in
    let b : x ≤ℤ r.1 = h.1 in
    let c : s.0 ≤ℤ y = i.0 in
    let d : y ≤ℤ s.1 = i.1 in
    (omega (arith, ints, clamps), omega (arith, ints, clamps))

size_holds : (r : ℤ × ℤ) (x : ℤ) → InRange r x → InRange (sizes r) (pos (unsigned_abs x))
size_holds r (pos n) h =
    let a : r.0 ≤ℤ pos n = h.0 in
    let b : pos n ≤ℤ r.1 = h.1 in
    (omega (arith, ints, clamps), omega (arith, ints, clamps))
size_holds r (negsuc n) h =
    let a : r.0 ≤ℤ negsuc n = h.0 in
    let b : negsuc n ≤ℤ r.1 = h.1 in
    (omega (arith, ints, clamps), omega (arith, ints, clamps))

-- ---- all operators

pub results_hold : (op : Op) (r s : ℤ × ℤ) (x y : ℤ) → InRange r x → InRange s y → InRange (results_of op r s) (result_of op x y)
results_hold Add r s x y h i = sum_holds r s x y h i
results_hold Sub r s x y h i = difference_holds r s x y h i
results_hold Mul r s x y h i = products_hold r s x y h i
results_hold Div r s x y h i = quotients_hold r s x y h i
results_hold Neg r s x y h i = opposite_holds r s x h
results_hold Eq r s x y h i = equal_holds r s x y h i
results_hold Ne r s x y h i = in_truths (may_differ r s) (may_be_equal r s) (not (int_eq x y)) (λ e. is_other r s x y h i (not_true (int_eq x y) e))
    (λ e. is_equal r s x y h i (not_false (int_eq x y) e))
results_hold Lt r s x y h i = in_truths (may_be_less r s) (may_be_at_most s r) (int_lt x y) (is_less r s x y h i) (λ e. is_at_most s r y x i h (not_less x y e))
results_hold Le r s x y h i = in_truths (may_be_at_most r s) (may_be_less s r) (int_le x y) (is_at_most r s x y h i)
    (λ e. is_less s r y x i h (not_at_most x y e))
results_hold Gt r s x y h i = in_truths (may_be_less s r) (may_be_at_most r s) (int_lt y x) (is_less s r y x i h) (λ e. is_at_most r s x y h i (not_less y x e))
results_hold Ge r s x y h i = in_truths (may_be_at_most s r) (may_be_less r s) (int_le y x) (is_at_most s r y x i h)
    (λ e. is_less r s x y h i (not_at_most y x e))
results_hold And r s x y h i = in_truths (has_other r && has_other s) (has_zero r || has_zero s) (not (is_zero x) && not (is_zero y))
    (and_both (not (is_zero x)) (not (is_zero y)) (has_other r) (has_other s) (λ e. other_in r x h (not_true (is_zero x) e))
    (λ e. other_in s y i (not_true (is_zero y) e)))
    (and_one (not (is_zero x)) (not (is_zero y)) (has_zero r) (has_zero s) (λ e. zero_in r x h (not_false (is_zero x) e))
    (λ e. zero_in s y i (not_false (is_zero y) e)))
results_hold Or r s x y h i = in_truths (has_other r || has_other s) (has_zero r && has_zero s) (not (is_zero x) || not (is_zero y))
    (or_one (not (is_zero x)) (not (is_zero y)) (has_other r) (has_other s) (λ e. other_in r x h (not_true (is_zero x) e))
    (λ e. other_in s y i (not_true (is_zero y) e)))
    (or_both (not (is_zero x)) (not (is_zero y)) (has_zero r) (has_zero s) (λ e. zero_in r x h (not_false (is_zero x) e))
    (λ e. zero_in s y i (not_false (is_zero y) e)))
results_hold Not r s x y h i = in_truths (has_zero r) (has_other r) (is_zero x) (zero_in r x h) (other_in r x h)
results_hold Present r s x y h i = in_alone (pos unit)
results_hold Abs r s x y h i = size_holds r x h
results_hold Positive r s x y h i = in_truths (may_be_less (alone (pos 0)) r) (may_be_at_most r (alone (pos 0))) (int_lt (pos 0) x)
    (is_less (alone (pos 0)) r (pos 0) x (in_alone (pos 0)) h) (λ e. is_at_most r (alone (pos 0)) x (pos 0) h (in_alone (pos 0)) (not_less (pos 0) x e))
results_hold PositiveOrNull r s x y h i = in_truths (may_be_at_most (alone (pos 0)) r) (may_be_less r (alone (pos 0))) (int_le (pos 0) x)
    (is_at_most (alone (pos 0)) r (pos 0) x (in_alone (pos 0)) h) (λ e. is_less r (alone (pos 0)) x (pos 0) h (in_alone (pos 0)) (not_at_most (pos 0) x e))
results_hold Null r s x y h i = in_truths (has_zero r) (has_other r) (is_zero x) (zero_in r x h) (other_in r x h)
results_hold Arr r s x y h i = (arr_grows r.0 x h.0, arr_grows x r.1 h.1)
results_hold Inf r s x y h i = (inf_grows r.0 x h.0, inf_grows x r.1 h.1)
results_hold Max r s x y h i = greater_holds r s x y h i
results_hold Min r s x y h i = lesser_holds r s x y h i
results_hold Truth r s x y h i = in_truths (has_other r) (has_zero r) (not (is_zero x)) (λ e. other_in r x h (not_true (is_zero x) e))
    (λ e. zero_in r x h (not_false (is_zero x) e))
results_hold Choose r s x y h i = i
results_hold At r s x y h i = equal_holds (cut_range r) (cut_range s) (cut x) (cut y) (cut_in r x h) (cut_in s y i)

-- the bounds for nonempty intervals are ordered
pub results_ordered : (op : Op) (r s : ℤ × ℤ) → r.0 ≤ℤ r.1 → s.0 ≤ℤ s.1 → (results_of op r s).0 ≤ℤ (results_of op r s).1
results_ordered op r s h i =
    let b = results_hold op r s r.0 s.0 (same r.0, h) (same s.0, i) in
    through (results_of op r s).0 (results_of op r s).1 (result_of op r.0 s.0) b.0 b.1
  where
    same : (z : ℤ) → z ≤ℤ z
    same z = omega (arith, ints)

    through : (l u z : ℤ) → l ≤ℤ z → z ≤ℤ u → l ≤ℤ u
    through l u z a b = omega (arith, ints)
