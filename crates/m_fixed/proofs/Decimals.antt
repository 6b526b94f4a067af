-- The number that digits denote, and its remainder from a position on.
use Rattle.std.proofs.Common.{◌≡◌, ℕ, zero, suc, ◌+◌, ◌-◌, ◌*◌, ◌^◌, ◌<◌, ◌≤◌, List, [], ◌∷◌, ◌++◌, length, drop, get_or, Bool, true, false, ◌&&◌, arith, refl}
use Rattle.std.proofs.Common.{◌∙◌, rules}
use Rattle.std.proofs.Math.Nat.{pow-suc, le_refl}
use Rattle.std.proofs.lemmas.Nat.{mul-le}
use Rattle.std.specs.Int.{IsInRange}
use Rattle.std.specs.Prelude.{IsTrue}
use Rattle.std.specs.Char.{digit_value, is_ascii_digit}
use Rattle.std.specs.Str.Parse.{digits_value, digits_value_after}
use Rattle.std.proofs.lemmas.Str.{digit_value_digit}
use Rattle.m_fixed.specs.Text.{only_digits}

pub digit_from_test : (c : ℕ) → IsTrue (is_ascii_digit c) → IsInRange 48 57 c
digit_from_test c h = search rules

pub both : (a b : Bool) → IsTrue (a && b) → IsTrue a × IsTrue b
both true b h = (refl, h)
both false b h = (cc, cc)

pub digit_is : (c : ℕ) → IsTrue (is_ascii_digit c) → digit_value c ≡ c - 48
digit_is c h = let e = digit_value_digit c (digit_from_test c h) in omega arith

pub digit_small : (c : ℕ) → IsTrue (is_ascii_digit c) → digit_value c ≤ 9
digit_small c h = let e = digit_value_digit c (digit_from_test c h) in let r = digit_from_test c h in omega (arith, e, r.0, r.1)

-- ---- one more digit, with p for a power of 10

pub tens : (n d p : ℕ) → (n * 10 + d) * p ≡ 10 * (n * p) + d * p
tens n d p = omega arith

pub times_ten : (n p q : ℕ) → q ≡ p * 10 → n * q ≡ 10 * (n * p)
times_ten n p q e = rw e (omega arith)

after_one : (n d p q a b r : ℕ) → q ≡ p * 10 → a ≡ (n * 10 + d) * p + r → b ≡ (0 * 10 + d) * p + r → a ≡ n * q + b
after_one n d p q a b r eq ea eb = omega (arith, tens n d p, tens 0 d p, times_ten n p q eq)

first_one : (d p v w : ℕ) → w ≡ (0 * 10 + d) * p + v → w ≡ d * p + v
first_one d p v w e = omega (arith, tens 0 d p)

step_first : (d e p q v w : ℕ) → d ≡ e → q ≡ p * 10 → w ≡ d * p + v → w * 10 ≡ e * q + v * 10
step_first d e p q v w same eq ew = rw (← same) (omega (arith, times_ten d p q eq))

step_next : (a b d p q s t : ℕ) → q ≡ p * 10 → t ≡ s * 10 → a * s ≡ d * p + b * s → a * t ≡ d * q + b * t
step_next a b d p q s t eq et e = omega (arith, times_ten d p q eq, times_ten a s t et, times_ten b s t et)

below_next : (d p q v w : ℕ) → q ≡ p * 10 → d ≤ 9 → v < p → w ≡ d * p + v → w < q
below_next d p q v w eq small below e = omega (arith, mul-le d p 9 p small (le_refl p))

rest_next : (a p q s t : ℕ) → q ≡ p * 10 → t ≡ s * 10 → a * s < p → a * t < q
rest_next a p q s t eq et h = omega (arith, times_ten a s t et)

pub digits_after_is : (n : ℕ) (cs : List ℕ) → digits_value_after 10 n cs ≡ n * 10 ^ length cs + digits_value 10 cs
digits_after_is n [] = omega arith
digits_after_is n (c ∷ cs) = after_one n (digit_value c) (10 ^ length cs) _ _ _ _ (pow-suc 10 (length cs)) (digits_after_is (n * 10 + digit_value c) cs)
    (digits_after_is (0 * 10 + digit_value c) cs)

pub digits_cons : (c : ℕ) (cs : List ℕ) → digits_value 10 (c ∷ cs) ≡ digit_value c * 10 ^ length cs + digits_value 10 cs
digits_cons c cs = first_one (digit_value c) (10 ^ length cs) _ _ (digits_after_is (0 * 10 + digit_value c) cs)

digits_after_append : (n : ℕ) (xs ys : List ℕ) → digits_value_after 10 n (xs ++ ys) ≡ digits_value_after 10 (digits_value_after 10 n xs) ys
digits_after_append n [] ys = refl
digits_after_append n (x ∷ xs) ys = digits_after_append (n * 10 + digit_value x) xs ys

pub digits_append : (xs ys : List ℕ) → digits_value 10 (xs ++ ys) ≡ digits_value 10 xs * 10 ^ length ys + digits_value 10 ys
digits_append xs ys = digits_after_append 0 xs ys ∙ digits_after_is (digits_value 10 xs) ys

-- the value of the digits from a position on, split into the first decimal and the rest
pub decimals_step : (ds : List ℕ) (i : ℕ) → IsTrue (only_digits ds) → digits_value 10 (drop i ds) * 10 ^ suc i ≡ (get_or ds i 48 - 48) * 10 ^ length ds +
    digits_value 10 (drop (suc i) ds) * 10 ^ suc i
decimals_step [] zero h = omega arith
decimals_step [] (suc i) h = omega arith
decimals_step (c ∷ cs) zero h = step_first _ _ (10 ^ length cs) _ _ _ (digit_is c (both _ _ h).0) (pow-suc 10 (length cs)) (digits_cons c cs)
decimals_step (c ∷ cs) (suc i) h = step_next _ _ _ (10 ^ length cs) _ (10 ^ suc i) _ (pow-suc 10 (length cs)) (pow-suc 10 (suc i))
    (decimals_step cs i (both _ _ h).1)

pub digits_below : (ds : List ℕ) → IsTrue (only_digits ds) → digits_value 10 ds < 10 ^ length ds
digits_below [] h = omega arith
digits_below (c ∷ cs) h = below_next (digit_value c) (10 ^ length cs) _ _ _ (pow-suc 10 (length cs)) (digit_small c (both _ _ h).0)
    (digits_below cs (both _ _ h).1) (digits_cons c cs)

-- the digits after the first i decimals are worth less than one unit of decimal i
pub rest_below : (ds : List ℕ) (i : ℕ) → IsTrue (only_digits ds) → digits_value 10 (drop i ds) * 10 ^ i < 10 ^ length ds
rest_below ds zero h = omega (arith, digits_below ds h)
rest_below [] (suc i) h = omega arith
rest_below (c ∷ cs) (suc i) h = rest_next _ (10 ^ length cs) _ (10 ^ i) _ (pow-suc 10 (length cs)) (pow-suc 10 i) (rest_below cs i (both _ _ h).1)
