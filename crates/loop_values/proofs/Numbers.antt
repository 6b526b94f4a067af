-- The numbers that digits denote, and ranges of numbers.
use Rattle.std.proofs.Common.{◌≡◌, ℕ, zero, suc, ◌+◌, ◌-◌, ◌*◌, ◌^◌, ◌<◌, ◌≤◌, List, [], ◌∷◌, length, map, take, get_or, ◌++◌, append_assoc, eqb, arith, refl}
use Rattle.std.proofs.Common.{sym, ap, ◌∙◌}
use Rattle.std.proofs.Math.Nat.{pow-suc, pow-le-pow_right}
use Rattle.std.proofs.lemmas.Bool.{ne_eqb}
use Rattle.std.specs.Prelude.{IsTrue}
use Rattle.std.specs.Char.{is_ascii_digit}
use Rattle.std.specs.List.{range_with_len}
use Rattle.std.specs.Str.Parse.{digits_value}
use Rattle.std.proofs.lemmas.Int.Digits.{digits_value_more}
use Rattle.m_fixed.specs.Text.{only_digits}
use Rattle.loop_values.specs.Values.{is_nothing}
use Rattle.m_fixed.proofs.Decimals.{both, digit_is, digit_small}

digit_at : (ds : List ℕ) (i : ℕ) → IsTrue (only_digits ds) → i < length ds → IsTrue (is_ascii_digit (get_or ds i 0))
digit_at [] i h below = absurd (omega arith)
digit_at (c ∷ cs) zero h below = (both _ _ h).0
digit_at (c ∷ cs) (suc i) h below = digit_at cs i (both _ _ h).1 (omega arith)

pub digit_below : (ds : List ℕ) (i : ℕ) → IsTrue (only_digits ds) → i < length ds → get_or ds i 0 - 48 ≤ 9
digit_below ds i h below = let d = digit_at ds i h below in omega (arith, digit_is (get_or ds i 0) d, digit_small (get_or ds i 0) d)

pub number_more : (ds : List ℕ) (i n : ℕ) → IsTrue (only_digits ds) → i < length ds → n ≡ digits_value 10 (take i ds)
    → n * 10 + (get_or ds i 0 - 48) ≡ digits_value 10 (take (i + 1) ds)
number_more ds i n h below e =
    let more = digits_value_more 10 ds i below in
    let digit = digit_is (get_or ds i 0) (digit_at ds i h below) in
    omega arith

pub number_below : (ds : List ℕ) (i n : ℕ) → IsTrue (only_digits ds) → i < length ds → n < 10 ^ i → n * 10 + (get_or ds i 0 - 48) < 10 ^ (i + 1)
number_below ds i n h below b =
    let d = digit_below ds i h below in
    let p : 10 ^ (i + 1) ≡ 10 ^ i * 10 = (let one : i + 1 ≡ suc i = omega arith in ap (λ k. 10 ^ k) one ∙ pow-suc 10 i) in
    omega arith

-- a number with fewer than twelve digits has room for one more
pub number_fits : (i n : ℕ) → i < 12 → n < 10 ^ i → n < 100000000000
number_fits i n h b = let p : 10 ^ i ≤ 10 ^ 11 = pow-le-pow_right {n = 10} (omega arith) {i = i} {j = 11} (omega arith) in omega arith

-- a number of nine digits
pub nine_digits : (k n : ℕ) → k ≤ 9 → n < 10 ^ k → n < 1000000000
nine_digits k n h b = let p : 10 ^ k ≤ 10 ^ 9 = pow-le-pow_right {n = 10} (omega arith) {i = k} {j = 9} (omega arith) in omega arith

-- a range is its first number and the range from the next one on
pub range_next : (a end : ℕ) → a < end → range_with_len a (end - a) ≡ a ∷ range_with_len (a + 1) (end - (a + 1))
range_next a end h = let e : end - a ≡ suc (end - (a + 1)) = omega arith in ap (range_with_len a) e

pub map_range_next : {X : Type 0} (f : ℕ → X) (a end : ℕ) → a < end → map f (range_with_len a (end - a)) ≡ f a ∷ map f (range_with_len (a + 1) (end - (a + 1)))
map_range_next f a end h = ap (map f) (range_next a end h)

-- one more element of the values of a range
pub range_push : {X : Type 0} (f : ℕ → X) (done next : List X) (x : X) (a end : ℕ) (all : List X) → a < end → done ++ map f (range_with_len a (end - a)) ≡ all
    → x ≡ f a → next ≡ done ++ x ∷ []
    → next ++ map f (range_with_len (a + 1) (end - (a + 1))) ≡ all
range_push f done next x a end all lt inv e p =
    ap (λ v. v ++ map f (range_with_len (a + 1) (end - (a + 1)))) p
    ∙ append_assoc done (x ∷ []) (map f (range_with_len (a + 1) (end - (a + 1))))
    ∙ ap (λ y. done ++ y ∷ map f (range_with_len (a + 1) (end - (a + 1)))) e
    ∙ ap (λ r. done ++ r) (sym (map_range_next f a end lt))
    ∙ inv

-- a list has no elements exactly if it is empty
pub nothing_by_length : {A : Type 0} (xs : List A) → eqb (length xs) 0 ≡ is_nothing xs
nothing_by_length [] = refl
nothing_by_length (x ∷ xs) = ne_eqb (length (x ∷ xs)) 0 (λ e. absurd (omega arith))
