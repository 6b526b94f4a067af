-- The rounded quotient is the nearest whole number, halves away from zero.
use Rattle.std.proofs.Common.{◌≡◌, ◌≢◌, ℕ, zero, suc, ◌+◌, ◌-◌, ◌*◌, ◌<◌, ◌≤◌, Bool, true, false, ℤ, pos, negsuc, ◌-ℤ◌, ◌*ℤ◌, neg_ℤ, unsigned_abs, refl, ap}
use Rattle.std.proofs.Common.{◌∙◌, subst, arith, ⊎_elim, ◌⊎◌, inl, inr}
use Rattle.std.proofs.Math.Nat.{mul-zero, zero-mul, div-mul-le_self, lt-div-mul-add, le_refl}
use Rattle.std.proofs.lemmas.Bool.{cases_lt, lt-leb}
use Rattle.std.proofs.lemmas.Int.{ints}
use Rattle.std.proofs.lemmas.Nat.{mul-le, le-div}
use Rattle.std.specs.Prelude.{not}
use Rattle.std.specs.Int.{is_negative}
use Rattle.m_fixed.specs.Rounding.{nearest, signed, differ, rounded, IsNear, IsNearest}

-- the distance of two sizes
abbrev apart : ℕ → ℕ → ℕ
apart a b = (a - b) + (b - a)

size_of_signed : (b : Bool) (n : ℕ) → unsigned_abs (signed b n) ≡ n
size_of_signed true zero = refl
size_of_signed true (suc n) = refl
size_of_signed false n = refl

size_at : (b : Bool) (z : ℤ) (n : ℕ) → z ≡ signed b n → unsigned_abs z ≡ n
size_at b z n e = ap unsigned_abs e ∙ size_of_signed b n

with_sign : (z : ℤ) → z ≡ signed (is_negative z) (unsigned_abs z)
with_sign (pos n) = rw (lt-leb (suc n) 0 (omega arith)) refl
with_sign (negsuc n) = refl

apart_same : (b : Bool) (m n : ℕ) → unsigned_abs (signed b m -ℤ signed b n) ≡ apart m n
apart_same false m n = ⊎_elim (λ (h : m < n). size_at true (pos m -ℤ pos n) (apart m n) (omega (arith, ints)))
    (λ (h : n ≤ m). size_at false (pos m -ℤ pos n) (apart m n) (omega (arith, ints))) (cases_lt m n)
apart_same true m n = ⊎_elim (λ (h : m < n). size_at false (neg_ℤ (pos m) -ℤ neg_ℤ (pos n)) (apart m n) (omega (arith, ints)))
    (λ (h : n ≤ m). size_at true (neg_ℤ (pos m) -ℤ neg_ℤ (pos n)) (apart m n) (omega (arith, ints))) (cases_lt m n)

apart_other : (b : Bool) (m n : ℕ) → unsigned_abs (signed b m -ℤ signed (not b) n) ≡ m + n
apart_other false m n = size_at false (pos m -ℤ neg_ℤ (pos n)) (m + n) (omega (arith, ints))
apart_other true m n = size_at true (neg_ℤ (pos m) -ℤ pos n) (m + n) (omega (arith, ints))

product_of_signed : (b c : Bool) (m n : ℕ) → signed b m *ℤ signed c n ≡ signed (differ b c) (m * n)
product_of_signed false false m n = refl
product_of_signed false true m zero = rw mul-zero refl
product_of_signed false true m (suc n) = refl
product_of_signed true false zero n = rw zero-mul refl
product_of_signed true false (suc m) n = refl
product_of_signed true true zero zero = refl
product_of_signed true true zero (suc n) = rw zero-mul refl
product_of_signed true true (suc m) zero = rw mul-zero refl
product_of_signed true true (suc m) (suc n) = refl

twice_differ : (b c : Bool) → differ (differ b c) c ≡ b
twice_differ true true = refl
twice_differ true false = refl
twice_differ false true = refl
twice_differ false false = refl

twice_other : (b c : Bool) → differ (not (differ b c)) c ≡ not b
twice_other true true = refl
twice_other true false = refl
twice_other false true = refl
twice_other false false = refl

-- the distance of a multiple from a number: with the number's sign, and with the other sign
multiple_same : (b c : Bool) (n d m : ℕ) → unsigned_abs (signed b n -ℤ signed (differ b c) m *ℤ signed c d) ≡ apart n (m * d)
multiple_same b c n d m =
    ap (λ z. unsigned_abs (signed b n -ℤ z)) (product_of_signed (differ b c) c m d ∙ ap (λ s. signed s (m * d)) (twice_differ b c))
    ∙ apart_same b n (m * d)

multiple_other : (b c : Bool) (n d m : ℕ) → unsigned_abs (signed b n -ℤ signed (not (differ b c)) m *ℤ signed c d) ≡ n + m * d
multiple_other b c n d m =
    ap (λ z. unsigned_abs (signed b n -ℤ z)) (product_of_signed (not (differ b c)) c m d ∙ ap (λ s. signed s (m * d)) (twice_other b c))
    ∙ apart_other b n (m * d)

-- ---- sizes

twice : (q d : ℕ) → q * (2 * d) ≡ 2 * (q * d)
twice q d = omega arith

near_below : (n d m : ℕ) → 0 < d → 2 * apart n (m * d) ≤ d → m ≤ nearest n d
near_below n d m some near = le-div m (2 * n + d) (2 * d) (omega arith) (omega (arith, twice m d))

nearest_is_near : (n d : ℕ) → 0 < d → 2 * apart n (nearest n d * d) ≤ d
nearest_is_near n d some =
    let low = div-mul-le_self (2 * n + d) (2 * d) in
    let high = lt-div-mul-add {a = 2 * n + d} {b = 2 * d} (omega arith) in
    omega (arith, low, high, twice (nearest n d) d)

far_is_none : (n d m : ℕ) → 0 < d → 2 * (n + m * d) ≤ d → m ≡ 0
far_is_none n d zero some near = refl
far_is_none n d (suc m) some near = absurd (omega (arith, mul-le 1 d (suc m) d (omega arith) (le_refl d)))

-- ---- a quotient with its sign

same_or_other : (e x : Bool) → (e ≡ x) ⊎ (e ≡ not x)
same_or_other true true = inl refl
same_or_other true false = inr refl
same_or_other false true = inr refl
same_or_other false false = inl refl

signed_zero : (b c : Bool) → signed b 0 ≡ signed c 0
signed_zero true true = refl
signed_zero true false = refl
signed_zero false true = refl
signed_zero false false = refl

-- the quotient with sign e and size m is near; then m is at most the rounded size, and the sign the
-- rounded one's unless m is 0
abbrev NearSigned : Bool → Bool → Bool → ℕ → ℕ → ℕ → Type 0
NearSigned b c e n d m = 2 * unsigned_abs (signed b n -ℤ signed e m *ℤ signed c d) ≤ d

near_other : (b c : Bool) (n d m : ℕ) → 0 < d → NearSigned b c (not (differ b c)) n d m → m ≡ 0
near_other b c n d m some near = far_is_none n d m some (rw (multiple_other b c n d m) at near)

near_same : (b c : Bool) (n d m : ℕ) → 0 < d → NearSigned b c (differ b c) n d m → m ≤ nearest n d
near_same b c n d m some near = near_below n d m some (rw (multiple_same b c n d m) at near)

not_farther : (b c e : Bool) (n d m : ℕ) → 0 < d → NearSigned b c e n d m → m ≤ nearest n d
not_farther b c e n d m some near =
    ⊎_elim (λ (same : e ≡ differ b c). near_same b c n d m some (rw same at near))
    (λ (other : e ≡ not (differ b c)). let none : m ≡ 0 = near_other b c n d m some (rw other at near) in omega arith)
    (same_or_other e (differ b c))

signs_agree : (b c e : Bool) (n d m : ℕ) → 0 < d → NearSigned b c e n d m → signed e m ≡ signed (differ b c) m
signs_agree b c e n d m some near =
    ⊎_elim (λ (same : e ≡ differ b c). ap (λ s. signed s m) same)
    (λ (other : e ≡ not (differ b c)).
    let none : m ≡ 0 = near_other b c n d m some (rw other at near) in
    rw none (signed_zero e (differ b c)))
    (same_or_other e (differ b c))

with_signs : (n d q : ℤ) → unsigned_abs (n -ℤ q *ℤ d) ≡ unsigned_abs (signed (is_negative n) (unsigned_abs n) -ℤ signed (is_negative q) (unsigned_abs q) *ℤ
    signed (is_negative d) (unsigned_abs d))
with_signs n d q =
    ap (λ x. unsigned_abs (x -ℤ q *ℤ d)) (with_sign n)
    ∙ ap (λ x. unsigned_abs (signed (is_negative n) (unsigned_abs n) -ℤ x *ℤ d)) (with_sign q)
    ∙ ap (λ x. unsigned_abs (signed (is_negative n) (unsigned_abs n) -ℤ signed (is_negative q) (unsigned_abs q) *ℤ x)) (with_sign d)

some_size : (d : ℤ) → d ≢ pos 0 → 0 < unsigned_abs d
some_size (pos zero) h = absurd (h refl)
some_size (pos (suc n)) h = omega arith
some_size (negsuc n) h = omega arith

near_signs : (n d q : ℤ) → IsNear n d q → NearSigned (is_negative n) (is_negative d) (is_negative q) (unsigned_abs n) (unsigned_abs d) (unsigned_abs q)
near_signs n d q near = omega (arith, near, with_signs n d q)

pub rounded_is_near : (n d : ℤ) → d ≢ pos 0 → IsNear n d (rounded n d)
rounded_is_near n d some =
    let b = is_negative n in
    let c = is_negative d in
    let m = nearest (unsigned_abs n) (unsigned_abs d) in
    let here = ap (λ x. unsigned_abs (x -ℤ rounded n d *ℤ d)) (with_sign n)
    ∙ ap (λ x. unsigned_abs (signed b (unsigned_abs n) -ℤ rounded n d *ℤ x)) (with_sign d) ∙ multiple_same b c (unsigned_abs n) (unsigned_abs d) m in
    omega (arith, here, nearest_is_near (unsigned_abs n) (unsigned_abs d) (some_size d some))

pub near_not_farther : (n d q : ℤ) → d ≢ pos 0 → IsNear n d q → unsigned_abs q ≤ unsigned_abs (rounded n d)
near_not_farther n d q some near =
    let b = is_negative n in
    let c = is_negative d in
    let below = not_farther b c (is_negative q) (unsigned_abs n) (unsigned_abs d) (unsigned_abs q) (some_size d some) (near_signs n d q near) in
    omega (arith, below, size_of_signed (differ b c) (nearest (unsigned_abs n) (unsigned_abs d)))

pub rounded_is_nearest : (n d : ℤ) → d ≢ pos 0 → IsNearest n d (rounded n d)
rounded_is_nearest n d some = record { near = rounded_is_near n d some; farthest = λ p near. near_not_farther n d p some near }

pub nearest_is_rounded : (n d q : ℤ) → d ≢ pos 0 → IsNearest n d q → q ≡ rounded n d
nearest_is_rounded n d q some is =
    let b = is_negative n in
    let c = is_negative d in
    let size : unsigned_abs q ≡ nearest (unsigned_abs n) (unsigned_abs d) = omega (
      arith,
      near_not_farther n d q some is.near,
      is.farthest (rounded n d) (rounded_is_near n d some),
      size_of_signed (differ b c)
          (nearest (unsigned_abs n) (unsigned_abs d)),
    ) in
    with_sign q ∙ signs_agree b c (is_negative q) (unsigned_abs n) (unsigned_abs d) (unsigned_abs q) (some_size d some) (near_signs n d q is.near)
    ∙ ap (λ m. signed (differ b c) m) size

-- the statement for sizes, without signs
pub sizes_are_nearest : (n d : ℕ) → 0 < d → IsNearest (pos n) (pos d) (pos (nearest n d))
sizes_are_nearest n d some =
    let here : rounded (pos n) (pos d) ≡ pos (nearest n d) = rw (lt-leb (suc n) 0 (omega arith), lt-leb (suc d) 0 (omega arith)) refl in
    let not_zero : pos d ≢ pos 0 = λ e. absurd (omega (arith, some, ap unsigned_abs e)) in
    subst (λ q. IsNearest (pos n) (pos d) q) here (rounded_is_nearest (pos n) (pos d) not_zero)
