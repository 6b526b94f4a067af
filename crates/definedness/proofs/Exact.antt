-- The bounds of an operator's results are results for numbers of the intervals.
use Rattle.std.proofs.Common.{◌≡◌, ℕ, ◌<◌, Bool, true, false, not, ℤ, pos, negsuc, neg_ℤ, ◌≤ℤ◌, ◌<ℤ◌, ◌⊎◌, unsigned_abs, refl, ap, sym, ◌∙◌, subst, inl, inr}
use Rattle.std.proofs.Common.{⊎_elim, arith}
use mathlib.Core.Bool.{◌&&◌, ◌||◌}
use Rattle.std.proofs.lemmas.Bool.{true≢false, ne_eqb}
use Rattle.std.proofs.lemmas.Int.{ints, clamps, by_lt_z}
use Rattle.std.specs.Int.{int_min, int_max}
use Rattle.std.specs.Ordering.{int_eq}
use Rattle.std.specs.Prelude.{int_lt, int_le, IsTrue}
use Rattle.m_fixed.specs.declared.operator.Op.{Op}
use Rattle.m_fixed.specs.declared.operator.Op.TheVariants.{Add, Sub, Mul, Div, Neg, Eq, Ne, Lt, Le, Gt, Ge, And, Or, Not, Present, Abs, Positive}
use Rattle.m_fixed.specs.declared.operator.Op.TheVariants.{PositiveOrNull, Null, Arr, Inf, Max, Min, Truth, Choose, At}
use Rattle.m_fixed.specs.Amounts.{unit}
use Rattle.m_fixed.specs.Operators.{result_of, truth, is_zero, cut, quotient}
use Rattle.definedness.specs.Ranges.{InRange, alone, has_zero, has_other}
use Rattle.definedness.specs.Results.{truths, may_be_less, may_be_at_most, may_be_equal, may_differ, cut_range, least_of, greatest_of, corners, quotients}
use Rattle.definedness.specs.Results.{least_size, greatest_size, results_of, IsResult, is_exact}
use Rattle.definedness.proofs.Beyond.{quotients_by_others, quotients_by_zero}
use Rattle.definedness.proofs.Holding.{results_hold}
use Rattle.definedness.proofs.Wholes.{cut_grows}

-- both ends are results
pub record HasEnds (op : Op) (r s e : ℤ × ℤ) : Type 0 where
  pub least : IsResult op r s e.0
  pub greatest : IsResult op r s e.1

at : (op : Op) (r s : ℤ × ℤ) (x y z : ℤ) → InRange r x → InRange s y → result_of op x y ≡ z → IsResult op r s z
at op r s x y z h i e = record { first = x; second = y; in_first = h; in_second = i; is = e }

low : (r : ℤ × ℤ) → r.0 ≤ℤ r.1 → InRange r r.0
low r h = (omega (arith, ints), h)

high : (r : ℤ × ℤ) → r.0 ≤ℤ r.1 → InRange r r.1
high r h = (h, omega (arith, ints))

-- ---- corners

one_of_four : (P : ℤ → Type 0) (p q r s z : ℤ) → (z ≡ p) ⊎ (z ≡ q) ⊎ (z ≡ r) ⊎ (z ≡ s) → P p → P q → P r → P s → P z
one_of_four P p q r s z e a b c d =
    ⊎_elim (λ (h : z ≡ p). subst P (sym h) a)
    (λ h. ⊎_elim (λ (i : z ≡ q). subst P (sym i) b)
    (λ i. ⊎_elim (λ (j : z ≡ r). subst P (sym j) c) (λ (j : z ≡ s). subst P (sym j) d) i) h) e

lesser_is : (x y : ℤ) → (int_min x y ≡ x) ⊎ (int_min x y ≡ y)
lesser_is x y = by_lt_z x y (λ h. inl (omega (arith, ints, clamps))) (λ h. inr (omega (arith, ints, clamps)))

greater_is : (x y : ℤ) → (int_max x y ≡ x) ⊎ (int_max x y ≡ y)
greater_is x y = by_lt_z x y (λ h. inr (omega (arith, ints, clamps))) (λ h. inl (omega (arith, ints, clamps)))

four : (m p q r s z : ℤ) (n : ℤ) → (z ≡ m) ⊎ (z ≡ n) → (m ≡ p) ⊎ (m ≡ q) → (n ≡ r) ⊎ (n ≡ s) → (z ≡ p) ⊎ (z ≡ q) ⊎ (z ≡ r) ⊎ (z ≡ s)
four m p q r s z n e a b =
    ⊎_elim (λ (h : z ≡ m). ⊎_elim (λ (i : m ≡ p). inl (h ∙ i)) (λ (i : m ≡ q). inr (inl (h ∙ i))) a)
    (λ (h : z ≡ n). ⊎_elim (λ (i : n ≡ r). inr (inr (inl (h ∙ i)))) (λ (i : n ≡ s). inr (inr (inr (h ∙ i)))) b) e

least_is_one : (p q r s : ℤ) → (least_of p q r s ≡ p) ⊎ (least_of p q r s ≡ q) ⊎ (least_of p q r s ≡ r) ⊎ (least_of p q r s ≡ s)
unfolding least_of
least_is_one p q r s = four (int_min p q) p q r s (int_min (int_min p q) (int_min r s)) (int_min r s) (lesser_is (int_min p q) (int_min r s)) (lesser_is p q)
    (lesser_is r s)

greatest_is_one : (p q r s : ℤ) → (greatest_of p q r s ≡ p) ⊎ (greatest_of p q r s ≡ q) ⊎ (greatest_of p q r s ≡ r) ⊎ (greatest_of p q r s ≡ s)
unfolding greatest_of
greatest_is_one p q r s = four (int_max p q) p q r s (int_max (int_max p q) (int_max r s)) (int_max r s) (greater_is (int_max p q) (int_max r s))
    (greater_is p q) (greater_is r s)

corner_ends : (op : Op) (r s : ℤ × ℤ) → r.0 ≤ℤ r.1 → s.0 ≤ℤ s.1 → HasEnds op r s (corners op r s)
corner_ends op r s h i =
    let p = result_of op r.0 s.0 in
    let q = result_of op r.0 s.1 in
    let t = result_of op r.1 s.0 in
    let u = result_of op r.1 s.1 in
    let a = at op r s r.0 s.0 p (low r h) (low s i) refl in
    let b = at op r s r.0 s.1 q (low r h) (high s i) refl in
    let c = at op r s r.1 s.0 t (high r h) (low s i) refl in
    let d = at op r s r.1 s.1 u (high r h) (high s i) refl in
    record {
      least = one_of_four (IsResult op r s) p q t u (least_of p q t u) (least_is_one p q t u) a b c d;
      greatest = one_of_four (IsResult op r s) p q t u (greatest_of p q t u) (greatest_is_one p q t u) a b c d;
    }

by_zero : (x y : ℤ) → is_zero y ≡ true → quotient x y ≡ pos 0
by_zero x y e = rw e refl

zero_end : (s : ℤ × ℤ) → has_zero s ≡ true → has_other s ≡ false → s.0 ≡ pos 0
zero_end s h k = grind (arith, ints)

quotient_ends : (r s : ℤ × ℤ) → r.0 ≤ℤ r.1 → s.0 ≤ℤ s.1 → IsTrue (not (has_zero s && has_other s)) → HasEnds Div r s (quotients r s)
quotient_ends r s h i x = go (has_zero s) (has_other s) refl refl x
  where
    go : (p q : Bool) → has_zero s ≡ p → has_other s ≡ q → IsTrue (not (p && q)) → HasEnds Div r s (quotients r s)
    go false q d e x = subst (HasEnds Div r s) (sym (quotients_by_others r s d)) (corner_ends Div r s h i)
    go true false d e x =
        let z = at Div r s r.0 s.0 (pos 0) (low r h) (low s i) (by_zero r.0 s.0 (ap is_zero (zero_end s d e))) in
        subst (HasEnds Div r s) (sym (quotients_by_zero r s d e)) (record { least = z; greatest = z })
    go true true d e x = absurd (true≢false (sym x))

-- ---- sizes

least_size_is : (r s : ℤ × ℤ) → r.0 ≤ℤ r.1 → s.0 ≤ℤ s.1 → IsResult Abs r s (least_size r)
least_size_is r s h i = by_lt_z r.0 (pos 0)
    (λ below. by_lt_z r.1 (pos 0)
    (λ under. at Abs r s r.1 s.0 (least_size r) (high r h) (low s i) (size_below r.0 r.1 h under))
    (λ over. at Abs r s (pos 0) s.0 (least_size r) (omega (arith, ints), over) (low s i) (size_round r.0 r.1 below over)))
    (λ above. at Abs r s r.0 s.0 (least_size r) (low r h) (low s i) (size_above r.0 r.1 h above))
  where
    size_below : (l u : ℤ) → l ≤ℤ u → u <ℤ pos 0 → pos (unsigned_abs u) ≡ int_max (int_max l (neg_ℤ u)) (pos 0)
    size_below l (pos n) h k = absurd (omega (arith, ints))
    size_below l (negsuc n) h k = omega (arith, ints, clamps)

    size_round : (l u : ℤ) → l <ℤ pos 0 → pos 0 ≤ℤ u → pos 0 ≡ int_max (int_max l (neg_ℤ u)) (pos 0)
    size_round l u h k = omega (arith, ints, clamps)

    size_above : (l u : ℤ) → l ≤ℤ u → pos 0 ≤ℤ l → pos (unsigned_abs l) ≡ int_max (int_max l (neg_ℤ u)) (pos 0)
    size_above (pos n) u h k = omega (arith, ints, clamps)
    size_above (negsuc n) u h k = absurd (omega (arith, ints))

greatest_size_is : (r s : ℤ × ℤ) → r.0 ≤ℤ r.1 → s.0 ≤ℤ s.1 → IsResult Abs r s (greatest_size r)
greatest_size_is r s h i = by_lt_z (neg_ℤ r.0) r.1
    (λ right. at Abs r s r.1 s.0 (greatest_size r) (high r h) (low s i) (size_right r.0 r.1 h right))
    (λ left. at Abs r s r.0 s.0 (greatest_size r) (low r h) (low s i) (size_left r.0 r.1 h left))
  where
    size_right : (l u : ℤ) → l ≤ℤ u → neg_ℤ l <ℤ u → pos (unsigned_abs u) ≡ int_max (neg_ℤ l) u
    size_right l (pos n) h k = omega (arith, ints, clamps)
    size_right l (negsuc n) h k = absurd (omega (arith, ints))

    size_left : (l u : ℤ) → l ≤ℤ u → u ≤ℤ neg_ℤ l → pos (unsigned_abs l) ≡ int_max (neg_ℤ l) u
    size_left (pos n) u h k = omega (arith, ints, clamps)
    size_left (negsuc n) u h k = omega (arith, ints, clamps)

-- ---- tests

-- some numbers of the intervals for which the test has this result
record IsTested (t : ℤ → ℤ → Bool) (b : Bool) (r s : ℤ × ℤ) : Type 0 where
  pub first : ℤ
  pub second : ℤ
  pub in_first : InRange r first
  pub in_second : InRange s second
  pub is : t first second ≡ b

tested : (t : ℤ → ℤ → Bool) (b : Bool) (r s : ℤ × ℤ) (x y : ℤ) → InRange r x → InRange s y → t x y ≡ b → IsTested t b r s
tested t b r s x y h i e = record { first = x; second = y; in_first = h; in_second = i; is = e }

unit_or_more : (b : Bool) → pos unit ≤ℤ truth b → b ≡ true
unit_or_more true h = refl
unit_or_more false h = absurd (omega (arith, ints))

zero_or_less : (b : Bool) → truth b ≤ℤ pos 0 → b ≡ false
zero_or_less false h = refl
zero_or_less true h = absurd (omega (arith, ints))

test_ends : (op : Op) (t : ℤ → ℤ → Bool) (p f : Bool) (r s : ℤ × ℤ) → r.0 ≤ℤ r.1 → s.0 ≤ℤ s.1 → ((x y : ℤ) → result_of op x y ≡ truth (t x y))
    → results_of op r s ≡ truths p f → (p ≡ true → IsTested t true r s) → (f ≡ true → IsTested t false r s) → HasEnds op r s (results_of op r s)
test_ends op t p f r s h i same e a b = subst (HasEnds op r s) (sym e) (record { least = least f refl; greatest = greatest p refl })
  where
    here : InRange (truths p f) (truth (t r.0 s.0))
    here = subst (λ z. InRange (truths p f) z) (same r.0 s.0)
        (subst (λ v. InRange v (result_of op r.0 s.0)) e (results_hold op r s r.0 s.0 (low r h) (low s i)))

    least : (g : Bool) → f ≡ g → IsResult op r s (truth (not f))
    least true d = let w = b d in at op r s w.first w.second (truth (not f)) w.in_first w.in_second (same w.first w.second ∙ ap truth (w.is ∙ sym (ap not d)))
    least false d = at op r s r.0 s.0 (truth (not f)) (low r h) (low s i) (same r.0 s.0
        ∙ ap truth (unit_or_more (t r.0 s.0) (subst (λ g. truth (not g) ≤ℤ truth (t r.0 s.0)) d here.0) ∙ sym (ap not d)))

    greatest : (g : Bool) → p ≡ g → IsResult op r s (truth p)
    greatest true d = let w = a d in at op r s w.first w.second (truth p) w.in_first w.in_second (same w.first w.second ∙ ap truth (w.is ∙ sym d))
    greatest false d = at op r s r.0 s.0 (truth p) (low r h) (low s i) (same r.0 s.0
        ∙ ap truth (zero_or_less (t r.0 s.0) (subst (λ g. truth (t r.0 s.0) ≤ℤ truth g) d here.1) ∙ sym d))

less_tested : (r s : ℤ × ℤ) → r.0 ≤ℤ r.1 → s.0 ≤ℤ s.1 → may_be_less r s ≡ true → IsTested int_lt true r s
less_tested r s h i e = tested int_lt true r s r.0 s.1 (low r h) (high s i) e

at_most_tested : (r s : ℤ × ℤ) → r.0 ≤ℤ r.1 → s.0 ≤ℤ s.1 → may_be_at_most r s ≡ true → IsTested int_le true r s
at_most_tested r s h i e = tested int_le true r s r.0 s.1 (low r h) (high s i) e

not_less_tested : (r s : ℤ × ℤ) → r.0 ≤ℤ r.1 → s.0 ≤ℤ s.1 → may_be_at_most s r ≡ true → IsTested int_lt false r s
not_less_tested r s h i e = tested int_lt false r s r.1 s.0 (high r h) (low s i) (turned r.1 s.0 e)
  where
    turned : (x y : ℤ) → int_le y x ≡ true → int_lt x y ≡ false
    turned x y e = grind (arith, ints)

not_at_most_tested : (r s : ℤ × ℤ) → r.0 ≤ℤ r.1 → s.0 ≤ℤ s.1 → may_be_less s r ≡ true → IsTested int_le false r s
not_at_most_tested r s h i e = tested int_le false r s r.1 s.0 (high r h) (low s i) (turned r.1 s.0 e)
  where
    turned : (x y : ℤ) → int_lt y x ≡ true → int_le x y ≡ false
    turned x y e = grind (arith, ints)

-- the same with the two exchanged
turned : (t : ℤ → ℤ → Bool) (b : Bool) (r s : ℤ × ℤ) → IsTested t b r s → IsTested (λ x y. t y x) b s r
turned t b r s w = tested (λ x y. t y x) b s r w.second w.first w.in_second w.in_first w.is

opposite : (t : ℤ → ℤ → Bool) (b : Bool) (r s : ℤ × ℤ) → IsTested t b r s → IsTested (λ x y. not (t x y)) (not b) r s
opposite t b r s w = tested (λ x y. not (t x y)) (not b) r s w.first w.second w.in_first w.in_second (ap not w.is)

first_true : (a b : Bool) → (a && b) ≡ true → a ≡ true
first_true true b e = refl
first_true false b e = absurd (true≢false (sym e))

second_true : (a b : Bool) → (a && b) ≡ true → b ≡ true
second_true true b e = e
second_true false b e = absurd (true≢false (sym e))

one_true : (a b : Bool) → (a || b) ≡ true → (a ≡ true) ⊎ (b ≡ true)
one_true true b e = inl refl
one_true false b e = inr e

same_number : (x : ℤ) → int_eq x x ≡ true
same_number x = grind (arith, ints)

less_differs : (x y : ℤ) → int_lt x y ≡ true → int_eq x y ≡ false
less_differs x y e = grind (arith, ints)

more_differs : (x y : ℤ) → int_lt y x ≡ true → int_eq x y ≡ false
more_differs x y e = grind (arith, ints)

-- numbers that one function makes equal, where the greatest of each is no less than the least of the other
meeting : (f : ℤ → ℤ) (r s : ℤ × ℤ) → ((x y : ℤ) → x ≤ℤ y → f x ≤ℤ f y) → r.0 ≤ℤ r.1 → s.0 ≤ℤ s.1 → may_be_equal (f r.0, f r.1) (f s.0, f s.1) ≡ true
    → IsTested (λ x y. int_eq (f x) (f y)) true r s
meeting f r s grows h i e = by_lt_z s.0 r.0
    (λ (a : s.0 <ℤ r.0). by_lt_z s.1 r.0
    (λ (b : s.1 <ℤ r.0). tested (λ x y. int_eq (f x) (f y)) true r s r.0 s.1 (low r h) (high s i)
    (one (f r.0) (f s.1) (first_true (int_le (f r.0) (f s.1)) (int_le (f s.0) (f r.1)) e) (grows s.1 r.0 (below s.1 r.0 b))))
    (λ (b : r.0 ≤ℤ s.1). tested (λ x y. int_eq (f x) (f y)) true r s r.0 r.0 (low r h) (below s.0 r.0 a, b) (same_number (f r.0))))
    (λ (a : r.0 ≤ℤ s.0). by_lt_z r.1 s.0
    (λ (b : r.1 <ℤ s.0). tested (λ x y. int_eq (f x) (f y)) true r s r.1 s.0 (high r h) (low s i)
    (other (f r.1) (f s.0) (second_true (int_le (f r.0) (f s.1)) (int_le (f s.0) (f r.1)) e) (grows r.1 s.0 (below r.1 s.0 b))))
    (λ (b : s.0 ≤ℤ r.1). tested (λ x y. int_eq (f x) (f y)) true r s s.0 s.0 (a, b) (low s i) (same_number (f s.0))))
  where
    below : (x y : ℤ) → x <ℤ y → x ≤ℤ y
    below x y h = omega (arith, ints)

    one : (x y : ℤ) → int_le x y ≡ true → y ≤ℤ x → int_eq x y ≡ true
    one x y e h = grind (arith, ints)

    other : (x y : ℤ) → int_le y x ≡ true → x ≤ℤ y → int_eq x y ≡ true
    other x y e h = grind (arith, ints)

differing : (f : ℤ → ℤ) (r s : ℤ × ℤ) → r.0 ≤ℤ r.1 → s.0 ≤ℤ s.1 → may_differ (f r.0, f r.1) (f s.0, f s.1) ≡ true
    → IsTested (λ x y. int_eq (f x) (f y)) false r s
differing f r s h i e = ⊎_elim
    (λ a. tested (λ x y. int_eq (f x) (f y)) false r s r.0 s.1 (low r h) (high s i) (less_differs (f r.0) (f s.1) a))
    (λ b. tested (λ x y. int_eq (f x) (f y)) false r s r.1 s.0 (high r h) (low s i) (more_differs (f r.1) (f s.0) b))
    (one_true (int_lt (f r.0) (f s.1)) (int_lt (f s.0) (f r.1)) e)

-- ---- tests for zero

record HasOther (r : ℤ × ℤ) : Type 0 where
  pub number : ℤ
  pub in_range : InRange r number
  pub is : is_zero number ≡ false

other_in : (r : ℤ × ℤ) → r.0 ≤ℤ r.1 → has_other r ≡ true → HasOther r
other_in r h e = ⊎_elim
    (λ a. record { number = r.0; in_range = low r h; is = below r.0 a })
    (λ b. record { number = r.1; in_range = high r h; is = above r.1 b })
    (one_true (int_lt r.0 (pos 0)) (int_lt (pos 0) r.1) e)
  where
    below : (z : ℤ) → int_lt z (pos 0) ≡ true → is_zero z ≡ false
    below (pos n) e = absurd (grind (arith, ints))
    below (negsuc n) e = refl

    above : (z : ℤ) → int_lt (pos 0) z ≡ true → is_zero z ≡ false
    above (pos n) e = some n (grind (arith, ints))
      where
        some : (n : ℕ) → 0 < n → is_zero (pos n) ≡ false
        some n h = ne_eqb n 0 (λ d. absurd (omega (arith, h, d)))
    above (negsuc n) e = refl

zero_in : (r : ℤ × ℤ) → has_zero r ≡ true → InRange r (pos 0)
zero_in r e = (grind (arith, ints), grind (arith, ints))

and_false : (b : Bool) → (b && false) ≡ false
and_false true = refl
and_false false = refl

or_true : (b : Bool) → (b || true) ≡ true
or_true true = refl
or_true false = refl

abbrev nonzero : ℤ → ℤ → Bool
nonzero x y = not (is_zero x) && not (is_zero y)

abbrev one_nonzero : ℤ → ℤ → Bool
one_nonzero x y = not (is_zero x) || not (is_zero y)

both_tested : (r s : ℤ × ℤ) → r.0 ≤ℤ r.1 → s.0 ≤ℤ s.1 → (has_other r && has_other s) ≡ true → IsTested nonzero true r s
both_tested r s h i e =
    let x = other_in r h (first_true (has_other r) (has_other s) e) in
    let y = other_in s i (second_true (has_other r) (has_other s) e) in
    tested nonzero true r s x.number y.number x.in_range y.in_range (rw (x.is, y.is) refl)

one_zero_tested : (r s : ℤ × ℤ) → r.0 ≤ℤ r.1 → s.0 ≤ℤ s.1 → (has_zero r || has_zero s) ≡ true → IsTested nonzero false r s
one_zero_tested r s h i e = ⊎_elim
    (λ a. tested nonzero false r s (pos 0) s.0 (zero_in r a) (low s i) refl)
    (λ b. tested nonzero false r s r.0 (pos 0) (low r h) (zero_in s b) (and_false (not (is_zero r.0))))
    (one_true (has_zero r) (has_zero s) e)

one_other_tested : (r s : ℤ × ℤ) → r.0 ≤ℤ r.1 → s.0 ≤ℤ s.1 → (has_other r || has_other s) ≡ true → IsTested one_nonzero true r s
one_other_tested r s h i e = ⊎_elim
    (λ a. let x = other_in r h a in tested one_nonzero true r s x.number s.0 x.in_range (low s i) (rw x.is refl))
    (λ b. let y = other_in s i b in tested one_nonzero true r s r.0 y.number (low r h) y.in_range (rw y.is (or_true (not (is_zero r.0)))))
    (one_true (has_other r) (has_other s) e)

zeros_tested : (r s : ℤ × ℤ) → (has_zero r && has_zero s) ≡ true → IsTested one_nonzero false r s
zeros_tested r s e = tested one_nonzero false r s (pos 0) (pos 0) (zero_in r (first_true (has_zero r) (has_zero s) e))
    (zero_in s (second_true (has_zero r) (has_zero s) e)) refl

abbrev zero : ℤ → ℤ → Bool
zero x y = is_zero x

zero_tested : (r s : ℤ × ℤ) → s.0 ≤ℤ s.1 → has_zero r ≡ true → IsTested zero true r s
zero_tested r s i e = tested zero true r s (pos 0) s.0 (zero_in r e) (low s i) refl

other_tested : (r s : ℤ × ℤ) → r.0 ≤ℤ r.1 → s.0 ≤ℤ s.1 → has_other r ≡ true → IsTested zero false r s
other_tested r s h i e = let x = other_in r h e in tested zero false r s x.number s.0 x.in_range (low s i) x.is

-- ---- all operators

pub ends_are_results : (op : Op) (r s : ℤ × ℤ) → r.0 ≤ℤ r.1 → s.0 ≤ℤ s.1 → IsTrue (is_exact op s) → HasEnds op r s (results_of op r s)
ends_are_results Add r s h i x = record { least = at Add r s r.0 s.0 _ (low r h) (low s i) refl; greatest = at Add r s r.1 s.1 _ (high r h) (high s i) refl }
ends_are_results Sub r s h i x = record { least = at Sub r s r.0 s.1 _ (low r h) (high s i) refl; greatest = at Sub r s r.1 s.0 _ (high r h) (low s i) refl }
ends_are_results Mul r s h i x = corner_ends Mul r s h i
ends_are_results Div r s h i x = quotient_ends r s h i x
ends_are_results Neg r s h i x = record { least = at Neg r s r.1 s.0 _ (high r h) (low s i) refl; greatest = at Neg r s r.0 s.0 _ (low r h) (low s i) refl }
ends_are_results Eq r s h i x = test_ends Eq int_eq (may_be_equal r s) (may_differ r s) r s h i (λ x y. refl) refl (meeting (λ x. x) r s (λ x y h. h) h i)
    (differing (λ x. x) r s h i)
ends_are_results Ne r s h i x = test_ends Ne (λ x y. not (int_eq x y)) (may_differ r s) (may_be_equal r s) r s h i (λ x y. refl) refl
    (λ e. opposite int_eq false r s (differing (λ x. x) r s h i e)) (λ e. opposite int_eq true r s (meeting (λ x. x) r s (λ x y h. h) h i e))
ends_are_results Lt r s h i x = test_ends Lt int_lt (may_be_less r s) (may_be_at_most s r) r s h i (λ x y. refl) refl (less_tested r s h i)
    (not_less_tested r s h i)
ends_are_results Le r s h i x = test_ends Le int_le (may_be_at_most r s) (may_be_less s r) r s h i (λ x y. refl) refl (at_most_tested r s h i)
    (not_at_most_tested r s h i)
ends_are_results Gt r s h i x = test_ends Gt (λ x y. int_lt y x) (may_be_less s r) (may_be_at_most r s) r s h i (λ x y. refl) refl
    (λ e. turned int_lt true s r (less_tested s r i h e)) (λ e. turned int_lt false s r (not_less_tested s r i h e))
ends_are_results Ge r s h i x = test_ends Ge (λ x y. int_le y x) (may_be_at_most s r) (may_be_less r s) r s h i (λ x y. refl) refl
    (λ e. turned int_le true s r (at_most_tested s r i h e)) (λ e. turned int_le false s r (not_at_most_tested s r i h e))
ends_are_results And r s h i x = test_ends And nonzero (has_other r && has_other s) (has_zero r || has_zero s) r s h i (λ x y. refl) refl (both_tested r s h i)
    (one_zero_tested r s h i)
ends_are_results Or r s h i x = test_ends Or one_nonzero (has_other r || has_other s) (has_zero r && has_zero s) r s h i (λ x y. refl) refl
    (one_other_tested r s h i) (zeros_tested r s)
ends_are_results Not r s h i x = test_ends Not zero (has_zero r) (has_other r) r s h i (λ x y. refl) refl (zero_tested r s i) (other_tested r s h i)
ends_are_results Present r s h i x = let one = at Present r s r.0 s.0 (pos unit) (low r h) (low s i) refl in record { least = one; greatest = one }
ends_are_results Abs r s h i x = record { least = least_size_is r s h i; greatest = greatest_size_is r s h i }
ends_are_results Positive r s h i x = test_ends Positive (λ x y. int_lt (pos 0) x) (may_be_less (alone (pos 0)) r) (may_be_at_most r (alone (pos 0))) r s h i
    (λ x y. refl) refl
    (λ e. tested (λ x y. int_lt (pos 0) x) true r s r.1 s.0 (high r h) (low s i) e)
    (λ e. tested (λ x y. int_lt (pos 0) x) false r s r.0 s.0 (low r h) (low s i) (not_above r.0 e))
  where
    not_above : (z : ℤ) → int_le z (pos 0) ≡ true → int_lt (pos 0) z ≡ false
    not_above z e = grind (arith, ints)
ends_are_results PositiveOrNull r s h i x = test_ends PositiveOrNull (λ x y. int_le (pos 0) x) (may_be_at_most (alone (pos 0)) r)
    (may_be_less r (alone (pos 0))) r s h i (λ x y. refl) refl
    (λ e. tested (λ x y. int_le (pos 0) x) true r s r.1 s.0 (high r h) (low s i) e)
    (λ e. tested (λ x y. int_le (pos 0) x) false r s r.0 s.0 (low r h) (low s i) (not_from r.0 e))
  where
    not_from : (z : ℤ) → int_lt z (pos 0) ≡ true → int_le (pos 0) z ≡ false
    not_from z e = grind (arith, ints)
ends_are_results Null r s h i x = test_ends Null zero (has_zero r) (has_other r) r s h i (λ x y. refl) refl (zero_tested r s i) (other_tested r s h i)
ends_are_results Arr r s h i x = record { least = at Arr r s r.0 s.0 _ (low r h) (low s i) refl; greatest = at Arr r s r.1 s.0 _ (high r h) (low s i) refl }
ends_are_results Inf r s h i x = record { least = at Inf r s r.0 s.0 _ (low r h) (low s i) refl; greatest = at Inf r s r.1 s.0 _ (high r h) (low s i) refl }
ends_are_results Max r s h i x = record { least = at Max r s r.0 s.0 _ (low r h) (low s i) refl; greatest = at Max r s r.1 s.1 _ (high r h) (high s i) refl }
ends_are_results Min r s h i x = record { least = at Min r s r.0 s.0 _ (low r h) (low s i) refl; greatest = at Min r s r.1 s.1 _ (high r h) (high s i) refl }
ends_are_results Truth r s h i x = test_ends Truth (λ x y. not (is_zero x)) (has_other r) (has_zero r) r s h i (λ x y. refl) refl
    (λ e. opposite zero false r s (other_tested r s h i e)) (λ e. opposite zero true r s (zero_tested r s i e))
ends_are_results Choose r s h i x = record {
  least = at Choose r s r.0 s.0 _ (low r h) (low s i) refl;
  greatest = at Choose r s r.0 s.1 _ (low r h) (high s i)
      refl;
}
ends_are_results At r s h i x = test_ends At (λ x y. int_eq (cut x) (cut y)) (may_be_equal (cut_range r) (cut_range s)) (may_differ (cut_range r) (cut_range s))
    r s h i (λ x y. refl) refl (meeting cut r s cut_grows h i) (differing cut r s h i)
