-- Quotients of numbers of two intervals.
use Rattle.std.proofs.Common.{◌≡◌, ℕ, zero, suc, ◌*◌, ◌<◌, ◌≤◌, Bool, true, false, ℤ, pos, negsuc, neg_ℤ, ◌≤ℤ◌, ◌<ℤ◌, ◌*ℤ◌, ◌⊎◌, unsigned_abs, refl, ap, sym}
use Rattle.std.proofs.Common.{◌∙◌, subst, inl, inr, ⊎_elim, arith}
use mathlib.Core.Bool.{◌&&◌}
use Rattle.std.proofs.Math.Dec.{eqb-suc-zero}
use Rattle.std.proofs.lemmas.Int.{ints, clamps, by_lt_z}
use Rattle.std.proofs.lemmas.Bool.{true≢false}
use Rattle.std.specs.Prelude.{int_le}
use Rattle.m_fixed.specs.declared.operator.Op.TheVariants.{Div}
use Rattle.m_fixed.specs.Amounts.{unit}
use Rattle.m_fixed.specs.Rounding.{rounded, nearest}
use Rattle.m_fixed.specs.Operators.{result_of, quotient, is_zero}
use Rattle.definedness.specs.Ranges.{InRange, has_zero, has_other}
use Rattle.definedness.specs.Results.{corners, quotients, greatest_size}
use Rattle.definedness.proofs.Beyond.{quotients_by_others, quotients_by_zero, quotients_by_both, size_of_signed}
use Rattle.definedness.proofs.Between.{Between, two_steps, opposite, swapped, rounded_between, multiples_between}
use Rattle.definedness.proofs.Rounded.{nearest_falls, rounded_above, rounded_below, rounded_opposite}

quotient_at : (x y : ℤ) → is_zero y ≡ false → rounded (x *ℤ pos unit) y ≡ quotient x y
quotient_at x y h = rw h refl

-- ---- one divisor

opposite_between : (p q z : ℤ) (d : ℕ) → Between p q z → Between (rounded p (negsuc d)) (rounded q (negsuc d)) (rounded z (negsuc d))
opposite_between p q z d h = rw (rounded_opposite p d, rounded_opposite q d, rounded_opposite z d)
    (opposite (rounded p (pos (suc d))) (rounded q (pos (suc d))) (rounded z (pos (suc d))) (rounded_between p q z (suc d) (omega arith) h))

divided_between : (p q z y : ℤ) → is_zero y ≡ false → Between p q z → Between (rounded p y) (rounded q y) (rounded z y)
divided_between p q z (pos zero) e h = absurd (true≢false e)
divided_between p q z (pos (suc d)) e h = rounded_between p q z (suc d) (omega arith) h
divided_between p q z (negsuc d) e h = opposite_between p q z d h

div_across : (y a b x : ℤ) → is_zero y ≡ false → a ≤ℤ x → x ≤ℤ b → Between (quotient a y) (quotient b y) (quotient x y)
div_across y a b x e l u =
    subst (λ v. Between (quotient a y) (quotient b y) v) (quotient_at x y e)
    (subst (λ v. Between (quotient a y) v (rounded (x *ℤ pos unit) y)) (quotient_at b y e)
    (subst (λ v. Between v (rounded (b *ℤ pos unit) y) (rounded (x *ℤ pos unit) y)) (quotient_at a y e)
    (divided_between (a *ℤ pos unit) (b *ℤ pos unit) (x *ℤ pos unit) y e (multiples_between (pos unit) a b x l u))))

-- ---- one dividend

nearer : (m n : ℕ) → m ≤ n → pos m ≤ℤ pos n
nearer m n h = omega (arith, ints)

farther : (m n : ℕ) → m ≤ n → neg_ℤ (pos n) ≤ℤ neg_ℤ (pos m)
farther m n h = omega (arith, ints)

rounded_falls : (z : ℤ) (i j k : ℕ) → 0 < i → i ≤ j → j ≤ k → Between (rounded z (pos i)) (rounded z (pos k)) (rounded z (pos j))
rounded_falls (pos n) i j k some a b = rw (rounded_above n i, rounded_above n j, rounded_above n k)
    (inr (nearer (nearest n k) (nearest n j) (nearest_falls n j k (omega arith) b), nearer (nearest n j) (nearest n i) (nearest_falls n i j some a)))
rounded_falls (negsuc n) i j k some a b = rw (rounded_below n i, rounded_below n j, rounded_below n k)
    (inl (
      farther (nearest (suc n) j) (nearest (suc n) i) (nearest_falls (suc n) i j some a),
      farther (nearest (suc n) k) (nearest (suc n) j)
          (nearest_falls (suc n) j k (omega arith) b),
    ))

-- divisors above zero
along_above : (z c d y : ℤ) → pos 0 <ℤ c → c ≤ℤ y → y ≤ℤ d → Between (rounded z c) (rounded z d) (rounded z y)
along_above z (pos i) (pos k) (pos j) some l u = rounded_falls z i j k (omega (arith, ints)) (omega (arith, ints)) (omega (arith, ints))
along_above z (negsuc i) d y some l u = absurd (none some)
  where
    none : pos 0 <ℤ negsuc i → ⊥
    none h = omega (arith, ints)
along_above z (pos i) d (negsuc j) some l u = absurd (none l)
  where
    none : pos i ≤ℤ negsuc j → ⊥
    none h = omega (arith, ints)
along_above z (pos i) (negsuc k) (pos j) some l u = absurd (none u)
  where
    none : pos j ≤ℤ negsuc k → ⊥
    none h = omega (arith, ints)

-- divisors below zero
along_below : (z c d y : ℤ) → d <ℤ pos 0 → c ≤ℤ y → y ≤ℤ d → Between (rounded z c) (rounded z d) (rounded z y)
along_below z (negsuc i) (negsuc k) (negsuc j) some l u =
    rw (rounded_opposite z i, rounded_opposite z j, rounded_opposite z k)
    (swapped _ _ _ (opposite (rounded z (pos (suc k))) (rounded z (pos (suc i))) (rounded z (pos (suc j)))
    (rounded_falls z (suc k) (suc j) (suc i) (omega arith) (omega (arith, ints)) (omega (arith, ints)))))
along_below z c (pos k) y some l u = absurd (none some)
  where
    none : pos k <ℤ pos 0 → ⊥
    none h = omega (arith, ints)
along_below z c (negsuc k) (pos j) some l u = absurd (none u)
  where
    none : pos j ≤ℤ negsuc k → ⊥
    none h = omega (arith, ints)
along_below z (pos i) (negsuc k) (negsuc j) some l u = absurd (none l)
  where
    none : pos i ≤ℤ negsuc j → ⊥
    none h = omega (arith, ints)

-- an interval without 0 is above it or below it
pub sides : (s : ℤ × ℤ) → has_zero s ≡ false → (pos 0 <ℤ s.0) ⊎ (s.1 <ℤ pos 0)
sides s h = by_lt_z (pos 0) s.0 (λ a. inl a) (λ a. by_lt_z s.1 (pos 0) (λ b. inr b) (λ b. absurd (true≢false (sym (both s.0 s.1 a b) ∙ h))))
  where
    both : (l u : ℤ) → l ≤ℤ pos 0 → pos 0 ≤ℤ u → (int_le l (pos 0) && int_le (pos 0) u) ≡ true
    both l u a b = grind (arith, ints)

div_along : (s : ℤ × ℤ) (z y : ℤ) → has_zero s ≡ false → InRange s y → Between (rounded z s.0) (rounded z s.1) (rounded z y)
div_along s z y h i = ⊎_elim (λ a. along_above z s.0 s.1 y a i.0 i.1) (λ b. along_below z s.0 s.1 y b i.0 i.1) (sides s h)

pub not_zero_in : (s : ℤ × ℤ) (y : ℤ) → has_zero s ≡ false → InRange s y → is_zero y ≡ false
not_zero_in s y h i = ⊎_elim (λ a. above y (let l = i.0 in omega (arith, ints))) (λ b. below y (let u = i.1 in omega (arith, ints))) (sides s h)
  where
    above : (y : ℤ) → pos 0 <ℤ y → is_zero y ≡ false
    above (pos zero) h = absurd (omega (arith, ints))
    above (pos (suc n)) h = eqb-suc-zero n
    above (negsuc n) h = refl

    below : (y : ℤ) → y <ℤ pos 0 → is_zero y ≡ false
    below (pos n) h = absurd (omega (arith, ints))
    below (negsuc n) h = refl

quotient_along : (s : ℤ × ℤ) (x y : ℤ) → has_zero s ≡ false → s.0 ≤ℤ s.1 → InRange s y → Between (quotient x s.0) (quotient x s.1) (quotient x y)
quotient_along s x y h o i =
    subst (λ v. Between (quotient x s.0) (quotient x s.1) v) (quotient_at x y (not_zero_in s y h i))
    (subst (λ v. Between (quotient x s.0) v (rounded (x *ℤ pos unit) y)) (quotient_at x s.1 (not_zero_in s s.1 h (o, same s.1)))
    (subst (λ v. Between v (rounded (x *ℤ pos unit) s.1) (rounded (x *ℤ pos unit) y)) (quotient_at x s.0 (not_zero_in s s.0 h (same s.0, o)))
    (div_along s (x *ℤ pos unit) y h i)))
  where
    same : (z : ℤ) → z ≤ℤ z
    same z = omega (arith, ints)

corner_quotients_hold : (r s : ℤ × ℤ) (x y : ℤ) → has_zero s ≡ false → InRange r x → InRange s y → InRange (corners Div r s) (result_of Div x y)
corner_quotients_hold r s x y e h i =
    let o : s.0 ≤ℤ s.1 = (let l = i.0 in let u = i.1 in omega (arith, ints)) in
    two_steps (quotient r.0 s.0) (quotient r.0 s.1) (quotient r.1 s.0) (quotient r.1 s.1) (quotient r.0 y) (quotient r.1 y) (quotient x y)
    (quotient_along s r.0 y e o i) (quotient_along s r.1 y e o i) (div_across y r.0 r.1 x (not_zero_in s y e i) h.0 h.1)

-- ---- divisors that may be 0

nearest_by_one : (n : ℕ) → nearest n 1 ≡ n
nearest_by_one n = omega arith

nearest_not_greater : (n d : ℕ) → 0 < d → nearest n d ≤ n
nearest_not_greater n d some = let f = nearest_falls n 1 d (omega arith) (omega arith) in let o = nearest_by_one n in omega (arith, f, o)

size_of_units : (x : ℤ) → unsigned_abs (x *ℤ pos unit) ≡ unsigned_abs x * unit
size_of_units (pos n) = refl
size_of_units (negsuc n) = omega (arith, ints)

some_size : (y : ℤ) → is_zero y ≡ false → 0 < unsigned_abs y
some_size (pos zero) h = absurd (true≢false h)
some_size (pos (suc n)) h = omega arith
some_size (negsuc n) h = omega arith

quotient_size : (x y : ℤ) → unsigned_abs (quotient x y) ≤ unsigned_abs x * unit
quotient_size x y = go (is_zero y) refl
  where
    go : (b : Bool) → is_zero y ≡ b → unsigned_abs (quotient x y) ≤ unsigned_abs x * unit
    go true e = rw e (omega arith)
    go false e =
        let n = nearest (unsigned_abs (x *ℤ pos unit)) (unsigned_abs y) in
        let size : unsigned_abs (rounded (x *ℤ pos unit) y) ≡ n = size_of_signed _ n in
        let small : n ≤ unsigned_abs (x *ℤ pos unit) = nearest_not_greater (unsigned_abs (x *ℤ pos unit)) (unsigned_abs y) (some_size y e) in
        rw e (rw (size, sym (size_of_units x)) small)

size_in : (r : ℤ × ℤ) (x : ℤ) → InRange r x → pos (unsigned_abs x) ≤ℤ greatest_size r
size_in r (pos n) h = let u : pos n ≤ℤ r.1 = h.1 in omega (arith, ints, clamps)
size_in r (negsuc n) h = let l : r.0 ≤ℤ negsuc n = h.0 in omega (arith, ints, clamps)

in_both : (z m : ℤ) (n : ℕ) → unsigned_abs z ≤ n * unit → pos n ≤ℤ m → InRange (neg_ℤ (m *ℤ pos unit), m *ℤ pos unit) z
in_both (pos k) m n h g = (omega (arith, ints), omega (arith, ints))
in_both (negsuc k) m n h g = (omega (arith, ints), omega (arith, ints))

zero_alone : (s : ℤ × ℤ) (y : ℤ) → has_zero s ≡ true → has_other s ≡ false → InRange s y → y ≡ pos 0
zero_alone s y h k i =
    let l : s.0 ≤ℤ y = i.0 in
    let u : y ≤ℤ s.1 = i.1 in
    grind (arith, ints)

pub quotients_hold : (r s : ℤ × ℤ) (x y : ℤ) → InRange r x → InRange s y → InRange (quotients r s) (result_of Div x y)
quotients_hold r s x y h i = go (has_zero s) (has_other s) refl refl
  where
    go : (p q : Bool) → has_zero s ≡ p → has_other s ≡ q → InRange (quotients r s) (quotient x y)
    go false q d e = subst (λ v. InRange v (quotient x y)) (sym (quotients_by_others r s d)) (corner_quotients_hold r s x y d h i)
    go true false d e =
        let z = zero_alone s y d e i in
        let v : quotient x y ≡ pos 0 = ap (quotient x) z in
        rw (quotients_by_zero r s d e, v) (omega (arith, ints), omega (arith, ints))
    go true true d e = subst (λ v. InRange v (quotient x y)) (sym (quotients_by_both r s d e))
        (in_both (quotient x y) (greatest_size r) (unsigned_abs x) (quotient_size x y) (size_in r x h))
