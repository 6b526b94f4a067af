-- Decimal numbers.
use Rattle.std.proofs.Common.{◌≡◌, ◌<◌, ◌≤◌, ◌+◌, ◌-◌, ◌*◌, ◌^◌, ◌==◌, ◌&&◌, ℕ, zero, suc, Bool, false, true, not, cond, nat_lt, leb, decimal, List, [], ◌∷◌}
use Rattle.std.proofs.Common.{length, drop, get_or, Some, None, refl, sym, ap, ◌∙◌, subst, arith}
use Rattle.std.proofs.lemmas.List.{drop_more, drop_all}
use Rattle.std.proofs.lemmas.Bool.{lt-ltb, le-ltb, le-leb, leb-true, ltb-true, ltb-false, eqb-true, eqb-false, ne_eqb, and_from, and_left, and_right, and_parts}
use Rattle.std.specs.Str.Parse.{AllDigits, IsNumeral, digits_value, digits_value_after}
use Rattle.std.specs.Char.{digit_value}
use Rattle.std.specs.Int.{IsInRange}
use Rattle.std.proofs.lemmas.Str.{digit_value_digit}
use Rattle.std.proofs.lemmas.Str.Parse.{digit_from_value, numerals_by_value, tells_digits}
use Rattle.std.proofs.lemmas.Fmt.{decimal-digits_value, decimal_is_IsNumeral, decimal_digit, first_decimal}
use Rattle.reg_machine.proofs.TableLemmas.{none≢some, some-is}
use Rattle.m_text.specs.Bytes.{is_digit}
use Rattle.code_file.specs.inner.Spelled.{number_after, number}
use Rattle.code_file.proofs.CutLemmas.{lacks}

-- ---- a loop over digits

pub digits-next : (below n : ℕ) (text : List ℕ) (k : ℕ) → k < length text → is_digit (get_or text k 0) ≡ true → n * 10 + (get_or text k 0 - 48) < below
    → number_after below n (drop k text) ≡ number_after below (n * 10 + (get_or text k 0 - 48)) (drop (k + 1) text)
digits-next below n text k lt d small =
    ap (number_after below n) (drop_more text k 0 lt)
    ∙ ap (λ b. cond b (number_after below (n * 10 + (get_or text k 0 - 48)) (drop (k + 1) text)) None)
    (and_from (is_digit (get_or text k 0)) (nat_lt (n * 10 + (get_or text k 0 - 48)) below) d (lt-ltb _ _ small))

pub digits-other : (below n : ℕ) (text : List ℕ) (k : ℕ) → k < length text → is_digit (get_or text k 0) ≡ false → number_after below n (drop k text) ≡ None
digits-other below n text k lt d =
    ap (number_after below n) (drop_more text k 0 lt)
    ∙ ap (λ b. cond b (number_after below (n * 10 + (get_or text k 0 - 48)) (drop (k + 1) text)) None)
    (and_left (is_digit (get_or text k 0)) (nat_lt (n * 10 + (get_or text k 0 - 48)) below) d)

pub digits-great : (below n : ℕ) (text : List ℕ) (k : ℕ) → k < length text → below ≤ n * 10 + (get_or text k 0 - 48) → number_after below n (drop k text) ≡ None
digits-great below n text k lt great =
    ap (number_after below n) (drop_more text k 0 lt)
    ∙ ap (λ b. cond b (number_after below (n * 10 + (get_or text k 0 - 48)) (drop (k + 1) text)) None)
    (and_right (is_digit (get_or text k 0)) (nat_lt (n * 10 + (get_or text k 0 - 48)) below) (le-ltb _ _ great))

pub digits-end : (below n : ℕ) (text : List ℕ) (k : ℕ) → length text ≤ k → number_after below n (drop k text) ≡ Some n
digits-end below n text k le = ap (number_after below n) (drop_all k text le)

-- ---- parsing and printing

digit-range : (b : ℕ) → is_digit b ≡ true → IsInRange 48 57 b
digit-range b e = let k = and_parts (leb 48 b) (leb b 57) e in (leb-true 48 b k.0, leb-true b 57 k.1)

after-by : (below n m b : ℕ) (bs : List ℕ) (d l : Bool) → is_digit b ≡ d → nat_lt (n * 10 + (b - 48)) below ≡ l
    → (n * 10 + (b - 48) < below → number_after below (n * 10 + (b - 48)) bs ≡ Some m → AllDigits 10 bs × (m ≡ digits_value_after 10 (n * 10 + (b - 48)) bs)
    × (m < below))
    → cond (d && l) (number_after below (n * 10 + (b - 48)) bs) None ≡ Some m → AllDigits 10 (b ∷ bs) × (m ≡ digits_value_after 10 n (b ∷ bs)) × (m < below)
after-by below n m b bs true true ed el behind h =
    let k = behind (ltb-true _ _ el) h in
    let v = digit_value_digit b (digit-range b ed) in
    let r = digit-range b ed in
    let same : n * 10 + (b - 48) ≡ n * 10 + digit_value b = omega (arith, v) in
    ((omega (arith, v, r.0, r.1), k.0), k.1 ∙ ap (λ x. digits_value_after 10 x bs) same, k.2)
after-by below n m b bs true false ed el behind h = absurd (none≢some m h)
after-by below n m b bs false l ed el behind h = absurd (none≢some m h)

pub after-sound : (below n m : ℕ) (text : List ℕ) → n < below → number_after below n text ≡ Some m → AllDigits 10 text × (m ≡ digits_value_after 10 n text)
    × (m < below)
after-sound below n m [] lt h = (tt, sym (some-is n m h), subst (λ k. k < below) (some-is n m h) lt)
after-sound below n m (b ∷ bs) lt h = after-by below n m b bs (is_digit b) (nat_lt (n * 10 + (b - 48)) below) refl refl
    (after-sound below (n * 10 + (b - 48)) m bs) h

number-found : (below n b : ℕ) (bs : List ℕ) → 0 < below → below ≤ 2 ^ 64 → (b ≡ 48 → length (b ∷ bs) ≡ 1) → number_after below 0 (b ∷ bs) ≡ Some n
    → (b ∷ bs ≡ decimal n) × (n < below)
number-found below n b bs some few lead h =
    let k = after-sound below 0 n (b ∷ bs) some h in
    let small : digits_value 10 (b ∷ bs) < 2 ^ 64 = omega (arith, k.1, k.2, few) in
    (sym (decimal-digits_value (numerals_by_value _ tells_digits) (b ∷ bs) k.0 (omega arith) lead small) ∙ ap decimal (sym k.1), k.2)

number-by : (below n b : ℕ) (bs : List ℕ) (z l : Bool) → (b == 48) ≡ z → nat_lt 0 (length bs) ≡ l → 0 < below → below ≤ 2 ^ 64
    → cond (z && l) None (number_after below 0 (b ∷ bs)) ≡ Some n → (b ∷ bs ≡ decimal n) × (n < below)
number-by below n b bs true true ez el some few h = absurd (none≢some n h)
number-by below n b bs z false ez el some few h = number-found below n b bs some few (λ e. omega (arith, ltb-false 0 (length bs) el))
    (sym (ap (λ t. cond t None (number_after below 0 (b ∷ bs))) (and_right z false refl)) ∙ h)
number-by below n b bs false true ez el some few h = number-found below n b bs some few (λ e. absurd (eqb-false b 48 ez e)) h

-- a text that is parsed as a number is the decimal of that number
pub number-sound : (below n : ℕ) (text : List ℕ) → 0 < below → below ≤ 2 ^ 64 → number below text ≡ Some n → (text ≡ decimal n) × (n < below)
number-sound below n [] some few h = absurd (none≢some n h)
number-sound below n (b ∷ bs) some few h = number-by below n b bs (b == 48) (nat_lt 0 (length bs)) refl refl some few h

value-grows : (n : ℕ) (ds : List ℕ) → n ≤ digits_value_after 10 n ds
value-grows n [] = omega arith
value-grows n (c ∷ cs) = omega (arith, value-grows (n * 10 + digit_value c) cs)

after-complete : (below n : ℕ) (text : List ℕ) → AllDigits 10 text → digits_value_after 10 n text < below
    → number_after below n text ≡ Some (digits_value_after 10 n text)
after-complete below n [] d small = refl
after-complete below n (b ∷ bs) d small =
    let r = digit_from_value b d.0 in
    let v = digit_value_digit b r in
    let same : n * 10 + (b - 48) ≡ n * 10 + digit_value b = omega (arith, v) in
    let lt : n * 10 + (b - 48) < below = omega (arith, same, value-grows (n * 10 + digit_value b) bs) in
    ap (λ t. cond t (number_after below (n * 10 + (b - 48)) bs) None)
    (and_from (is_digit b) (nat_lt (n * 10 + (b - 48)) below) (and_from (leb 48 b) (leb b 57) (le-leb 48 b r.0) (le-leb b 57 r.1)) (lt-ltb _ _ lt))
    ∙ ap (λ x. number_after below x bs) same ∙ after-complete below (n * 10 + digit_value b) bs d.1 small

zero-alone : (b : ℕ) (bs : List ℕ) (z l : Bool) → (b == 48) ≡ z → nat_lt 0 (length bs) ≡ l → (b ≡ 48 → length (b ∷ bs) ≡ 1) → (z && l) ≡ false
zero-alone b bs true true ez el lead = absurd (omega (arith, lead (eqb-true b 48 ez), ltb-true 0 (length bs) el))
zero-alone b bs true false ez el lead = refl
zero-alone b bs false l ez el lead = refl

number-of : (below n : ℕ) (text : List ℕ) → IsNumeral 10 text → digits_value 10 text ≡ n → n < below → (get_or text 0 0 ≡ 48 → length text ≡ 1)
    → number below text ≡ Some n
number-of below n [] d v small lead = absurd (omega (arith, d.0))
number-of below n (b ∷ bs) d v small lead =
    ap (λ t. cond t None (number_after below 0 (b ∷ bs))) (zero-alone b bs (b == 48) (nat_lt 0 (length bs)) refl refl lead)
    ∙ after-complete below 0 (b ∷ bs) d.1 (omega (arith, v)) ∙ ap Some v

lead-of : (n : ℕ) → n < 2 ^ 64 → get_or (decimal n) 0 0 ≡ 48 → length (decimal n) ≡ 1
lead-of zero small e = ap length (decimal_digit 0 (omega arith))
lead-of (suc n) small e = absurd (omega (arith, e, first_decimal (suc n) (omega arith) small))

-- the decimal of a number is parsed as it
pub number-complete : (below n : ℕ) → n < below → below ≤ 2 ^ 64 → number below (decimal n) ≡ Some n
number-complete below n small few =
    let fits : n < 2 ^ 64 = omega arith in
    let k = decimal_is_IsNumeral n fits in
    number-of below n (decimal n) k.0 k.1 small (lead-of n fits)

-- ---- bytes that numbers don't have

-- a byte that is no digit
abbrev pub IsNoDigit : ℕ → Type 0
IsNoDigit mark = 48 ≤ mark → mark ≤ 57 → ⊥

digits-lack : (mark : ℕ) (ds : List ℕ) → IsNoDigit mark → AllDigits 10 ds → lacks mark ds ≡ true
digits-lack mark [] other d = refl
digits-lack mark (c ∷ cs) other d =
    let r = digit_from_value c d.0 in
    and_from (not (c == mark)) (lacks mark cs) (ap not (ne_eqb c mark (λ e. other (omega (arith, e, r.0)) (omega (arith, e, r.1)))))
    (digits-lack mark cs other d.1)

pub decimal-lacks : (mark n : ℕ) → IsNoDigit mark → n < 2 ^ 64 → lacks mark (decimal n) ≡ true
decimal-lacks mark n other small = digits-lack mark (decimal n) other (decimal_is_IsNumeral n small).0.1
