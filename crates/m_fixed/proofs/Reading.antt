-- Reading a text: its parts, its whole units, and the bound.
use Rattle.std.proofs.Common.{◌≡◌, ℕ, zero, suc, ◌+◌, ◌-◌, ◌*◌, ◌/◌, ◌^◌, ◌<◌, ◌≤◌, min, List, [], ◌∷◌, length, take, get_or, Bool, true, false, if◌then◌else◌}
use Rattle.std.proofs.Common.{Option, Some, None, Result, Ok, Err, arith, refl, sym, ap, ◌∙◌}
use Rattle.std.proofs.Math.Nat.{mul-add-div_right, pow-suc}
use Rattle.std.proofs.lemmas.Bool.{le-leb, lt-leb}
use Rattle.std.specs.Prelude.{IsTrue, nat_le, option_map, ℤ, unsigned_abs}
use Rattle.std.proofs.lemmas.Int.Digits.{digits_value_more}
use Rattle.std.specs.Char.{is_ascii_digit}
use Rattle.std.specs.Str.Parse.{digits_value, starts_with_minus}
use Rattle.m_fixed.specs.declared.read.AmountFault.{AmountFault}
use Rattle.m_fixed.specs.declared.read.AmountFault.TheVariants.{NotAnAmount, TooGreat}
use Rattle.m_fixed.specs.Amounts.{unit, most}
use Rattle.m_fixed.specs.Rounding.{nearest, signed}
use Rattle.m_fixed.specs.Text.{only_digits, is_digits, before_point, behind_point, millionths_of, parts_value, number_value, number_read, amount_read}
use Rattle.m_fixed.specs.Text.{text_value, without_minus}
use Rattle.m_fixed.proofs.Decimals.{both, digit_is, digits_append}

digit_at : (ds : List ℕ) (i : ℕ) → IsTrue (only_digits ds) → i < length ds → IsTrue (is_ascii_digit (get_or ds i 0))
digit_at [] i h below = absurd (omega arith)
digit_at (c ∷ cs) zero h below = (both _ _ h).0
digit_at (c ∷ cs) (suc i) h below = digit_at cs i (both _ _ h).1 (omega arith)

-- one more digit of the whole units
pub units_more : (ds : List ℕ) (i u v : ℕ) → IsTrue (only_digits ds) → i < length ds → u ≡ min (digits_value 10 (take i ds)) 10_000_000_000_001
    → v ≡ min (u * 10 + (get_or ds i 0 - 48)) 10_000_000_000_001 → v ≡ min (digits_value 10 (take (i + 1) ds)) 10_000_000_000_001
units_more ds i u v h below eu ev =
    let more = digits_value_more 10 ds i below in
    let digit = digit_is (get_or ds i 0) (digit_at ds i h below) in
    omega arith

pub pow_ten : (k : ℕ) → 0 < 10 ^ k
pow_ten zero = omega arith
pow_ten (suc k) = omega (arith, pow_ten k, pow-suc 10 k)

regrouped : (m k n : ℕ) → 2 * (m * k + n) + k ≡ m * (2 * k) + (2 * n + k)
regrouped m k n = omega arith

scaled : (a k b u : ℕ) → (a * k + b) * u ≡ (a * u) * k + b * u
scaled a k b u = omega arith

-- a whole part is added after rounding
pub nearest_whole : (m n k : ℕ) → 0 < k → nearest (m * k + n) k ≡ m + nearest n k
nearest_whole m n k h = ap (λ x. x / (2 * k)) (regrouped m k n) ∙ mul-add-div_right {m = 2 * k} (omega arith) m (2 * n + k)

pub millionths_split : (whole decimals : List ℕ) → millionths_of whole decimals ≡ digits_value 10 whole * unit + nearest (digits_value 10 decimals * unit)
    (10 ^ length decimals)
millionths_split whole decimals =
    let k = 10 ^ length decimals in
    ap (λ x. nearest (x * unit) k) (digits_append whole decimals)
    ∙ ap (λ x. nearest x k) (scaled (digits_value 10 whole) k (digits_value 10 decimals) unit)
    ∙ nearest_whole (digits_value 10 whole * unit) (digits_value 10 decimals * unit) k (pow_ten (length decimals))

read_ok : (w r u n : ℕ) → u ≡ min w 10_000_000_000_001 → r ≤ unit → n ≡ w * unit + r → u * 1_000_000 + r ≤ most → Ok (u * 1_000_000 + r) ≡ number_read (Some n)
read_ok w r u n eu small en bound =
    let same : u * 1_000_000 + r ≡ n = omega arith in
    let fits : n ≤ most = omega arith in
    rw same (rw (le-leb n most fits) refl)

read_too_great : (w r u n : ℕ) → u ≡ min w 10_000_000_000_001 → r ≤ unit → n ≡ w * unit + r → most < u * 1_000_000 + r → Err TooGreat ≡ number_read (Some n)
read_too_great w r u n eu small en bound =
    let above : most < n = omega arith in
    rw (lt-leb n most above) refl

size_is : (whole decimals : List ℕ) (r : ℕ) → r ≡ nearest (digits_value 10 decimals * unit) (10 ^ length decimals)
    → millionths_of whole decimals ≡ digits_value 10 whole * unit + r
size_is whole decimals r e = millionths_split whole decimals ∙ ap (λ x. digits_value 10 whole * unit + x) (sym e)

pub size_ok : (whole decimals : List ℕ) (u r : ℕ) → u ≡ min (digits_value 10 whole) 10_000_000_000_001
    → r ≡ nearest (digits_value 10 decimals * unit) (10 ^ length decimals) → r ≤ unit → u * 1_000_000 + r ≤ most
    → Ok (u * 1_000_000 + r) ≡ number_read (Some (millionths_of whole decimals))
size_ok whole decimals u r eu er small bound = read_ok (digits_value 10 whole) r u _ eu small (size_is whole decimals r er) bound

pub size_too_great : (whole decimals : List ℕ) (u r : ℕ) → u ≡ min (digits_value 10 whole) 10_000_000_000_001
    → r ≡ nearest (digits_value 10 decimals * unit) (10 ^ length decimals) → r ≤ unit → most < u * 1_000_000 + r
    → Err TooGreat ≡ number_read (Some (millionths_of whole decimals))
size_too_great whole decimals u r eu er small bound = read_too_great (digits_value 10 whole) r u _ eu small (size_is whole decimals r er) bound

-- ---- the parts of a number's text

pub no_whole : (text whole : List ℕ) → whole ≡ before_point text → false ≡ is_digits whole → Err NotAnAmount ≡ number_read (number_value text)
unfolding number_value
no_whole text whole eb bad = rw (← eb) (elim (behind_point text) as (λ o. Err NotAnAmount ≡ number_read (parts_value whole o))
    [ None ↦ rw (← bad) refl | Some ds ↦ rw (← bad) refl ])

pub whole_alone : (text whole : List ℕ) (r : Result ℕ AmountFault) → whole ≡ before_point text → None ≡ behind_point text → true ≡ is_digits whole
    → r ≡ number_read (Some (millionths_of whole [])) → r ≡ number_read (number_value text)
unfolding number_value
whole_alone text whole r eb eh good e = rw (← eb, ← eh, ← good) e

pub no_decimals : (text whole decimals : List ℕ) → whole ≡ before_point text → Some decimals ≡ behind_point text → true ≡ is_digits whole
    → false ≡ is_digits decimals → Err NotAnAmount ≡ number_read (number_value text)
unfolding number_value
no_decimals text whole decimals eb eh good bad = rw (← eb, ← eh, ← good, ← bad) refl

pub whole_and_decimals : (text whole decimals : List ℕ) (r : Result ℕ AmountFault) → whole ≡ before_point text → Some decimals ≡ behind_point text
    → true ≡ is_digits whole → true ≡ is_digits decimals → r ≡ number_read (Some (millionths_of whole decimals)) → r ≡ number_read (number_value text)
unfolding number_value
whole_and_decimals text whole decimals r eb eh good too e = rw (← eb, ← eh, ← good, ← too) e

-- ---- the sign

size_of_signed : (b : Bool) (n : ℕ) → unsigned_abs (signed b n) ≡ n
size_of_signed true zero = refl
size_of_signed true (suc n) = refl
size_of_signed false n = refl

-- the result, given the outcome t of the bound's test
abbrev if_fits : {N : Type 0} → Bool → N → Result N AmountFault
if_fits t n = if t then Ok n else Err TooGreat

ok_if_fits : (b t : Bool) (m n : ℕ) → if_fits t m ≡ Ok n → Ok (signed b n) ≡ if_fits t (signed b m)
ok_if_fits b true m n e = let same : m ≡ n = cc in rw same refl
ok_if_fits b false m n e = cc

err_if_fits : (b t : Bool) (m : ℕ) (f : AmountFault) → if_fits t m ≡ Err f → Err f ≡ if_fits t (signed b m)
err_if_fits b true m f e = cc
err_if_fits b false m f e = let same : TooGreat ≡ f = cc in rw same refl

ok_with_sign : (b : Bool) (o : Option ℕ) (n : ℕ) → number_read o ≡ Ok n → Ok (signed b n) ≡ amount_read (option_map (signed b) o)
ok_with_sign b None n e = cc
ok_with_sign b (Some m) n e = rw (size_of_signed b m) (ok_if_fits b (nat_le m most) m n e)

err_with_sign : (b : Bool) (o : Option ℕ) (f : AmountFault) → number_read o ≡ Err f → Err f ≡ amount_read (option_map (signed b) o)
err_with_sign b None f e = let same : NotAnAmount ≡ f = cc in rw same refl
err_with_sign b (Some m) f e = rw (size_of_signed b m) (err_if_fits b (nat_le m most) m f e)

with_parts : (text number : List ℕ) (b : Bool) → b ≡ starts_with_minus text → number ≡ without_minus text
    → amount_read (option_map (signed b) (number_value number)) ≡ amount_read (text_value text)
unfolding text_value
with_parts text number b eb en =
    ap (λ p. amount_read (option_map (signed p) (number_value number))) eb
    ∙ ap (λ t. amount_read (option_map (signed (starts_with_minus text)) (number_value t))) en

pub ok_is_read : (text number : List ℕ) (b : Bool) (n : ℕ) (z : ℤ) → b ≡ starts_with_minus text → number ≡ without_minus text
    → Ok n ≡ number_read (number_value number) → z ≡ signed b n → Ok z ≡ amount_read (text_value text)
ok_is_read text number b n z eb en e ez =
    ap (λ x. Ok x) ez ∙ ok_with_sign b (number_value number) n (sym e) ∙ with_parts text number b eb en

pub err_is_read : (text number : List ℕ) (b : Bool) (f : AmountFault) → b ≡ starts_with_minus text → number ≡ without_minus text
    → Err f ≡ number_read (number_value number) → Err f ≡ amount_read (text_value text)
err_is_read text number b f eb en e = err_with_sign b (number_value number) f (sym e) ∙ with_parts text number b eb en
