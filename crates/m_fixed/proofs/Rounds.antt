-- Rounding of decimals.
use Rattle.std.proofs.Common.{◌≡◌, ℕ, suc, ◌+◌, ◌-◌, ◌*◌, ◌^◌, ◌<◌, ◌≤◌, List, length, drop, get_or, arith, sym, ap, ◌∙◌, add-one}
use Rattle.std.specs.Prelude.{IsTrue, if◌then◌else◌, ◌==◌, ◌/◌}
use Rattle.std.proofs.Math.Nat.{pow-suc, le_refl, div-eq_of_lt-le}
use Rattle.std.proofs.lemmas.Bool.{ne_eqb}
use Rattle.std.proofs.lemmas.Nat.{mul-le}
use Rattle.m_fixed.specs.Amounts.{unit}
use Rattle.std.specs.Str.Parse.{digits_value}
use Rattle.m_fixed.specs.Rounding.{nearest}
use Rattle.m_fixed.specs.Text.{only_digits}
use Rattle.m_fixed.proofs.Decimals.{tens, times_ten, decimals_step, rest_below}

twice : (q d : ℕ) → q * (2 * d) ≡ 2 * (q * d)
twice q d = omega arith

one_more : (q d : ℕ) → (q + 1) * d ≡ q * d + d
one_more q d = omega arith

-- a remainder of half or more rounds up, and one below half rounds down
pub nearest_up : (q d r n : ℕ) → n ≡ q * d + r → r < d → d ≤ 2 * r → nearest n d ≡ q + 1
nearest_up q d r n e below half =
    div-eq_of_lt-le {k = q + 1} (2 * d) (omega (arith, one_more q (2 * d), twice q d)) (omega (arith, one_more (q + 1) (2 * d), one_more q (2 * d), twice q d))

pub nearest_down : (q d r n : ℕ) → n ≡ q * d + r → 2 * r < d → nearest n d ≡ q
nearest_down q d r n e below = div-eq_of_lt-le {k = q} (2 * d) (omega (arith, twice q d)) (omega (arith, one_more q (2 * d), twice q d))

-- a guess whose remainder is less than the divisor is the quotient
guessed_right : (n d q : ℕ) → q * d ≤ n → n < q * d + d → n / d ≡ q
guessed_right n d q low high = div-eq_of_lt-le {k = q} d low (omega (arith, one_more q d))

pub quotient_guessed : (size by q : ℕ) → (2 * q) * by ≤ size * 2_000_000 + by → size * 2_000_000 + by < (2 * q) * by + 2 * by
    → (if by == 0 then 0 else nearest (size * unit) by) ≡ q
quotient_guessed size by q low high =
    rw (ne_eqb by 0 (λ e. absurd (omega arith))) (guessed_right (2 * (size * unit) + by) (2 * by) q (omega arith) (omega arith))

-- the first decimals as a number, with the remainder
pub decimals_more : (f p k s t a b d : ℕ) → t ≡ s * 10 → f * s ≡ p * k + a * s → a * t ≡ d * k + b * t → f * t ≡ (p * 10 + d) * k + b * t
decimals_more f p k s t a b d et e step = omega (arith, times_ten f s t et, times_ten a s t et, tens p d k)

half_up : (k s t a b d : ℕ) → t ≡ s * 10 → a * t ≡ d * k + b * t → 5 ≤ d → k ≤ 2 * (a * s)
half_up k s t a b d et step h = omega (arith, times_ten a s t et, mul-le 5 k d k h (le_refl k))

half_down : (k s t a b d : ℕ) → t ≡ s * 10 → a * t ≡ d * k + b * t → b * t < k → d ≤ 4 → 2 * (a * s) < k
half_down k s t a b d et step below h = omega (arith, times_ten a s t et, mul-le d k 4 k h (le_refl k))

-- n is the value of the first `places` decimals
pub record AreRead (ds : List ℕ) (places n : ℕ) : Type 0 where
  pub small : n < 10 ^ places
  pub value : digits_value 10 ds * 10 ^ places ≡ n * 10 ^ length ds + digits_value 10 (drop places ds) * 10 ^ places

pub more_read : (ds : List ℕ) (i n d : ℕ) → IsTrue (only_digits ds) → AreRead ds i n → d ≡ get_or ds i 48 - 48 → d < 10 → AreRead ds (i + 1) (n * 10 + d)
more_read ds i n d h r e small =
    rw add-one record {
      small = omega (arith, pow-suc 10 i, r.small);
      value = decimals_more _ n _ (10 ^ i) _ _ _ d (pow-suc 10 i) r.value (decimals_step ds i h
          ∙ ap (λ x. x * 10 ^ length ds + digits_value 10 (drop (suc i) ds) * 10 ^ suc i) (sym e));
    }

pub read_up : (ds : List ℕ) (i n d : ℕ) → IsTrue (only_digits ds) → AreRead ds i n → d ≡ get_or ds i 48 - 48 → 5 ≤ d
    → nearest (digits_value 10 ds * 10 ^ i) (10 ^ length ds) ≡ n + 1
read_up ds i n d h r e up =
    nearest_up n (10 ^ length ds) _ _ r.value (rest_below ds i h) (half_up (10 ^ length ds) (10 ^ i) _ _ (digits_value 10 (drop (suc i) ds))
    (get_or ds i 48 - 48) (pow-suc 10 i) (decimals_step ds i h) (omega arith))

pub read_down : (ds : List ℕ) (i n d : ℕ) → IsTrue (only_digits ds) → AreRead ds i n → d ≡ get_or ds i 48 - 48 → d < 5
    → nearest (digits_value 10 ds * 10 ^ i) (10 ^ length ds) ≡ n
read_down ds i n d h r e down =
    nearest_down n (10 ^ length ds) _ _ r.value (half_down (10 ^ length ds) (10 ^ i) _ _ (digits_value 10 (drop (suc i) ds)) (get_or ds i 48 - 48)
    (pow-suc 10 i) (decimals_step ds i h) (rest_below ds (suc i) h) (omega arith))
