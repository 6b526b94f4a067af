-- Rounded quotients grow with the dividend, and approach zero as the divisor grows.
use Rattle.std.proofs.Common.{◌≡◌, ℕ, zero, suc, ◌+◌, ◌*◌, ◌/◌, ◌<◌, ◌≤◌, false, ℤ, pos, negsuc, neg_ℤ, ◌≤ℤ◌, refl, sym, arith}
use Rattle.std.proofs.Math.Nat.{div-mul-le_self, zero-mul}
use Rattle.std.proofs.lemmas.Int.{ints}
use Rattle.std.proofs.lemmas.Nat.{mul-le, le-div}
use Rattle.std.specs.Int.{is_negative}
use Rattle.m_fixed.specs.Rounding.{nearest, rounded}

pub not_negative : (n : ℕ) → is_negative (pos n) ≡ false
not_negative n = grind (arith, ints)

-- ---- sizes

quotient_grows : (m n d : ℕ) → 0 < d → m ≤ n → m / d ≤ n / d
quotient_grows m n d some h = le-div (m / d) n d some (let below = div-mul-le_self m d in omega (arith, below, h))

pub nearest_grows : (m n d : ℕ) → 0 < d → m ≤ n → nearest m d ≤ nearest n d
nearest_grows m n d some h = quotient_grows (2 * m + d) (2 * n + d) (2 * d) (omega arith) (omega arith)

twice : (q d : ℕ) → q * (2 * d) ≡ 2 * (q * d)
twice q d = omega arith

one_more : (p d : ℕ) → suc p * d ≡ p * d + d
one_more p d = omega arith

-- 2 q e ≤ 2 n + e implies the same for a lesser divisor
lesser_divisor : (q n d e : ℕ) → d ≤ e → q * (2 * e) ≤ 2 * n + e → q * (2 * d) ≤ 2 * n + d
lesser_divisor zero n d e h k = rw zero-mul (omega arith)
lesser_divisor (suc p) n d e h k =
    let a = mul-le (suc (2 * p)) d (suc (2 * p)) e (omega arith) h in
    omega (arith, a, k, twice (suc p) d, twice (suc p) e, one_more p d, one_more p e, one_more (2 * p) d, one_more (2 * p) e, doubled p d, doubled p e)
  where
    doubled : (p d : ℕ) → (2 * p) * d ≡ 2 * (p * d)
    doubled p d = omega arith

pub nearest_falls : (n d e : ℕ) → 0 < d → d ≤ e → nearest n e ≤ nearest n d
nearest_falls n d e some h = le-div (nearest n e) (2 * n + d) (2 * d) (omega arith) (lesser_divisor (nearest n e) n d e h (div-mul-le_self (2 * n + e) (2 * e)))

-- ---- with signs

negated_grows : (m n : ℕ) → m ≤ n → neg_ℤ (pos n) ≤ℤ neg_ℤ (pos m)
negated_grows m n h = omega (arith, ints)

negated_below : (m n : ℕ) → neg_ℤ (pos m) ≤ℤ pos n
negated_below m n = omega (arith, ints)

-- a number divided by one above zero
pub rounded_above : (n d : ℕ) → rounded (pos n) (pos d) ≡ pos (nearest n d)
rounded_above n d = rw (not_negative n, not_negative d) refl

pub rounded_below : (n d : ℕ) → rounded (negsuc n) (pos d) ≡ neg_ℤ (pos (nearest (suc n) d))
rounded_below n d = rw (not_negative d) refl

-- divided by one below zero it is the opposite
pub rounded_opposite : (z : ℤ) (d : ℕ) → rounded z (negsuc d) ≡ neg_ℤ (rounded z (pos (suc d)))
rounded_opposite (pos n) d = rw (not_negative n, not_negative (suc d)) refl
rounded_opposite (negsuc n) d = rw (not_negative (suc d)) (sym (twice_negated (nearest (suc n) (suc d))))
  where
    twice_negated : (n : ℕ) → neg_ℤ (neg_ℤ (pos n)) ≡ pos n
    twice_negated zero = refl
    twice_negated (suc n) = refl

pub rounded_grows : (y z : ℤ) (d : ℕ) → 0 < d → y ≤ℤ z → rounded y (pos d) ≤ℤ rounded z (pos d)
rounded_grows (pos m) (pos n) d some h = rw (rounded_above m d, rounded_above n d)
    (above (nearest m d) (nearest n d) (nearest_grows m n d some (omega (arith, ints))))
  where
    above : (m n : ℕ) → m ≤ n → pos m ≤ℤ pos n
    above m n h = omega (arith, ints)
rounded_grows (negsuc m) (pos n) d some h = rw (rounded_below m d, rounded_above n d) (negated_below (nearest (suc m) d) (nearest n d))
rounded_grows (negsuc m) (negsuc n) d some h = rw (rounded_below m d, rounded_below n d)
    (negated_grows (nearest (suc n) d) (nearest (suc m) d) (nearest_grows (suc n) (suc m) d some (omega (arith, ints))))
rounded_grows (pos m) (negsuc n) d some h = absurd (none h)
  where
    none : pos m ≤ℤ negsuc n → ⊥
    none h = omega (arith, ints)
