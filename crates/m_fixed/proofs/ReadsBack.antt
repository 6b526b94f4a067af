-- The printed form of an amount spells that amount.
use Rattle.std.proofs.Common.{Ok, unsigned_abs, ◌≡◌, ◌≢◌, ℕ, zero, suc, ◌+◌, ◌-◌, ◌*◌, ◌/◌, ◌%◌, ◌^◌, ◌<◌, ◌≤◌, List, [], ◌∷◌, length, Bool, true, false}
use Rattle.std.proofs.Common.{if◌then◌else◌, Some, ℤ, pos, negsuc, refl, sym, ap, ◌∙◌, arith, add-zero, ⊎_elim}
use Rattle.std.proofs.Math.Nat.{pow-suc}
use Rattle.std.proofs.lemmas.Bool.{ne_eqb, eqb-true, eqb-false, cases_Bool, lt-leb, le-leb}
use Rattle.std.proofs.lemmas.List.{append-nil}
use Rattle.std.proofs.lemmas.Nat.{div_below, mod_below, div-add-mod'}
use Rattle.std.proofs.lemmas.Str.{digit_value_digit}
use Rattle.std.proofs.lemmas.Str.Parse.{IsDigitsTest, IsNumeralModel, numerals_by_value}
use Rattle.std.proofs.lemmas.Fmt.{digits_decimal, digits_value-decimal, decimal_nonempty}
use Rattle.std.specs.Prelude.{IsTrue, decimal, ◌==◌, ◌&&◌}
use Rattle.std.specs.Int.{IsInRange}
use Rattle.std.specs.Char.{is_ascii_digit, digit_value}
use Rattle.std.specs.Str.Parse.{digits_value}
use Rattle.m_fixed.specs.Amounts.{unit, most, IsAmount}
use Rattle.m_fixed.specs.Rounding.{nearest}
use Rattle.m_fixed.specs.Text.{only_digits, is_digits, millionths_of, number_value, text_value, amount_read, decimals_of, size_text, printed}
use Rattle.m_fixed.proofs.Decimals.{both, digit_from_test, digits_cons}
use Rattle.m_fixed.proofs.Reading.{millionths_split, pow_ten}
use Rattle.m_fixed.proofs.Numbers.{number_value-digits, number_value-decimals, text_value-number, text_value-minus}
use Rattle.m_fixed.proofs.Products.{size_of_amount}
use Rattle.m_fixed.proofs.Rounds.{nearest_down}
use Rattle.m_fixed.proofs.Writing.{decimals_from, decimals_none}

-- ---- digits

digit_test : (c : ℕ) → IsInRange 48 57 c → IsTrue (is_ascii_digit c)
digit_test c h = rw (le-leb 48 c h.0, le-leb c 57 h.1) refl

and_true : (a b : Bool) → IsTrue a → IsTrue b → IsTrue (a && b)
and_true a b p q = rw (p, q) refl

holds_digits : IsDigitsTest (λ ds. IsTrue (only_digits ds))
holds_digits = record {
  empty = refl;
  parts = λ c cs h. (digit_from_test c (both _ _ h).0, (both _ _ h).1);
  more = λ c cs h k. and_true _ _ (digit_test c h) k;
}

own : IsNumeralModel (λ ds. IsTrue (only_digits ds)) (digits_value 10)
own = numerals_by_value (λ ds. IsTrue (only_digits ds)) holds_digits

digits_test : (ds : List ℕ) → IsTrue (only_digits ds) → 0 < length ds → IsTrue (is_digits ds)
digits_test ds h some = and_true _ _ h (le-leb 1 (length ds) some)

units_digits : (n : ℕ) → n < 2 ^ 64 → IsTrue (is_digits (decimal n))
units_digits n small = digits_test (decimal n) (digits_decimal own n small) (decimal_nonempty n small)

-- ---- the decimals

digit_of : (q : ℕ) → q < 10 → digit_value (48 + q) ≡ q
digit_of q h = let e = digit_value_digit (48 + q) (omega arith, omega arith) in omega arith

decimals_digits : (places fraction : ℕ) → fraction < 10 ^ places → IsTrue (only_digits (decimals_of places fraction))
unfolding decimals_of
decimals_digits zero fraction h = refl
decimals_digits (suc places) fraction h =
    let digit : fraction / 10 ^ places < 10 = div_below fraction (10 ^ places) 10 (pow_ten places) (omega (arith, pow-suc 10 places)) in
    elim (fraction == 0) as (λ b. IsTrue (only_digits (if b then [] else (48 + fraction / 10 ^ places) ∷ decimals_of places (fraction % 10 ^ places)))) [
      | true ↦ refl
      | false ↦ and_true _ _ (digit_test (48 + fraction / 10 ^ places) (omega arith, omega arith))
          (decimals_digits places (fraction % 10 ^ places) (mod_below fraction (10 ^ places) (pow_ten places)))
    ]

decimals_some : (places fraction : ℕ) → fraction ≢ 0 → fraction < 10 ^ places → 0 < length (decimals_of places fraction)
decimals_some places fraction some h = rw (decimals_from places fraction some h) (omega arith)

worth_left : (q v l p : ℕ) → (q * l + v) * (p * 10) ≡ 10 * (q * (l * p)) + 10 * (v * p)
worth_left q v l p = omega arith

worth_right : (q r l p : ℕ) → (q * p + r) * (l * 10) ≡ 10 * (q * (l * p)) + 10 * (r * l)
worth_right q r l p = omega arith

worth_step : (f q r v p l m k a : ℕ) → f ≡ q * p + r → v * p ≡ r * l → m ≡ p * 10 → k ≡ l * 10 → a ≡ q * l + v → a * m ≡ f * k
worth_step f q r v p l m k a ef ev em ek ea = rw (ea, em, ek, ef) (omega (arith, worth_left q v l p, worth_right q r l p, ev))

worth_from : (places fraction : ℕ) → fraction < 10 ^ suc places → fraction ≢ 0
    → digits_value 10 (decimals_of places (fraction % 10 ^ places)) * 10 ^ places ≡ fraction % 10 ^ places * 10 ^ length
    (decimals_of places (fraction % 10 ^ places)) → digits_value 10 (decimals_of (suc places) fraction) * 10 ^ suc places ≡ fraction * 10 ^ length
    (decimals_of (suc places) fraction)
worth_from places fraction h some rest =
    let before : suc places - 1 ≡ places = omega arith in
    let digit : fraction / 10 ^ places < 10 = div_below fraction (10 ^ places) 10 (pow_ten places) (omega (arith, pow-suc 10 places)) in
    let left = decimals_of places (fraction % 10 ^ places) in
    rw (decimals_from (suc places) fraction some h, before)
    (worth_step fraction (fraction / 10 ^ places) (fraction % 10 ^ places) (digits_value 10 left) (10 ^ places) (10 ^ length left) _ _ _
    (sym (div-add-mod' fraction (10 ^ places))) rest (pow-suc 10 places) (pow-suc 10 (length left))
    (digits_cons (48 + fraction / 10 ^ places) left ∙ ap (λ d. d * 10 ^ length left + digits_value 10 left) (digit_of (fraction / 10 ^ places) digit)))

decimals_worth : (places fraction : ℕ) → fraction < 10 ^ places → digits_value 10 (decimals_of places fraction) * 10 ^ places ≡ fraction * 10 ^ length
    (decimals_of places fraction)
decimals_worth zero fraction h = let none : fraction ≡ 0 = omega arith in rw none (rw (decimals_none 0 0 refl) refl)
decimals_worth (suc places) fraction h = ⊎_elim
    (λ (none : (fraction == 0) ≡ true). let e = eqb-true fraction 0 none in rw (e, decimals_none (suc places) 0 refl) (omega arith))
    (λ (some : (fraction == 0) ≡ false). worth_from places fraction h (eqb-false fraction 0 some)
    (decimals_worth places (fraction % 10 ^ places) (mod_below fraction (10 ^ places) (pow_ten places))))
    (cases_Bool (fraction == 0))

-- ---- a size

spells_units : (n : ℕ) → n ≤ most → n % unit ≡ 0 → number_value (size_text n) ≡ Some n
unfolding size_text
spells_units n small e =
    let whole : n / unit < 2 ^ 64 = omega arith in
    let units = digits_value-decimal own (n / unit) whole in
    let value : millionths_of (decimal (n / unit)) [] ≡ n = millionths_split (decimal (n / unit)) [] ∙ omega (arith, units, div-add-mod' n unit) in
    rw (e, append-nil, number_value-digits (decimal (n / unit)) (units_digits (n / unit) whole), value) refl

spells_decimals : (n : ℕ) → n ≤ most → n % unit ≢ 0 → number_value (size_text n) ≡ Some n
unfolding size_text
spells_decimals n small e =
    let whole : n / unit < 2 ^ 64 = omega arith in
    let below : n % unit < 10 ^ 6 = mod_below n unit (omega arith) in
    let decimals = decimals_of 6 (n % unit) in
    let units = digits_value-decimal own (n / unit) whole in
    let digits = digits_test decimals (decimals_digits 6 (n % unit) below) (decimals_some 6 (n % unit) e below) in
    let worth : nearest (digits_value 10 decimals * unit) (10 ^ length decimals) ≡ n % unit = nearest_down (n % unit) (10 ^ length decimals) 0 _
    (decimals_worth 6 (n % unit) below ∙ sym (add-zero _)) (pow_ten (length decimals)) in
    let value : millionths_of (decimal (n / unit)) decimals ≡ n = millionths_split (decimal (n / unit)) decimals
    ∙ omega (arith, units, worth, div-add-mod' n unit) in
    rw (ne_eqb (n % unit) 0 e, number_value-decimals (decimal (n / unit)) decimals (units_digits (n / unit) whole) digits, value) refl

spells_size : (n : ℕ) → n ≤ most → number_value (size_text n) ≡ Some n
spells_size n small = ⊎_elim
    (λ (none : (n % unit == 0) ≡ true). spells_units n small (eqb-true (n % unit) 0 none))
    (λ (some : (n % unit == 0) ≡ false). spells_decimals n small (eqb-false (n % unit) 0 some))
    (cases_Bool (n % unit == 0))

pub reads_back : (z : ℤ) → IsAmount z → text_value (printed z) ≡ Some z
unfolding printed
reads_back (pos n) h = rw (lt-leb (suc n) 0 (omega arith)) (text_value-number (size_text n) n (spells_size n (size_of_amount (pos n) h)))
reads_back (negsuc n) h = text_value-minus (size_text (suc n)) (suc n) (spells_size (suc n) (size_of_amount (negsuc n) h))

within : (z : ℤ) → unsigned_abs z ≤ most → amount_read (Some z) ≡ Ok z
within z h = rw (le-leb (unsigned_abs z) most h) refl

pub is_read : (z : ℤ) → IsAmount z → amount_read (text_value (printed z)) ≡ Ok z
is_read z h = ap amount_read (reads_back z h) ∙ within z (size_of_amount z h)

pub one_form : (y z : ℤ) → IsAmount y → IsAmount z → printed y ≡ printed z → y ≡ z
one_form y z p q e = let same = sym (reads_back y p) ∙ ap text_value e ∙ reads_back z q in cc
