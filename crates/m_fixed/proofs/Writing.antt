-- Texts written into a buffer, one after another.
use Rattle.std.proofs.Common.{◌≡◌, ℕ, zero, suc, ◌+◌, ◌-◌, ◌/◌, ◌%◌, ◌^◌, ◌<◌, ◌≤◌, List, [], ◌∷◌, ◌++◌, length, take, drop, set, arith, refl, sym, ap, ◌∙◌}
use Rattle.std.proofs.Common.{append_assoc, length-append, add-zero, ⊎_elim, true, false, if◌then◌else◌, ℤ, unsigned_abs}
use Rattle.std.proofs.Math.Nat.{pow-suc, mul-div_left}
use Rattle.std.specs.Prelude.{decimal, ◌==◌}
use Rattle.std.proofs.lemmas.Fmt.{decimal_digit, decimal_step, length-decimal-le}
use Rattle.std.specs.Int.{is_negative}
use Rattle.std.proofs.lemmas.Bool.{ne_eqb, cases_lt}
use Rattle.m_fixed.specs.Amounts.{unit, most}
use Rattle.std.proofs.lemmas.List.{take_more_set, drop-set-lt, append-nil}
use Rattle.std.proofs.Math.Seq.{drop-drop}
use Rattle.m_fixed.specs.Text.{Writes, decimals_of, fraction_text, size_text, printed}

pub writes_none : (room : List ℕ) (at : ℕ) → Writes room room at [] at
writes_none room at = record { length = sym (add-zero at); front = sym (append-nil (take at room)); rest = refl }

-- buffers that agree from a position on agree from every later one
later : (xs ys : List ℕ) (i j : ℕ) → i ≤ j → drop i xs ≡ drop i ys → drop j xs ≡ drop j ys
later xs ys i j h e =
    let split : i + (j - i) ≡ j = omega arith in
    ap (λ k. drop k xs) (sym split) ∙ sym (drop-drop (j - i) i xs) ∙ ap (drop (j - i)) e ∙ drop-drop (j - i) i ys ∙ ap (λ k. drop k ys) split

-- one byte before the written text
pub writes_before : (room next : List ℕ) (at end : ℕ) (b : ℕ) (text : List ℕ) → at < length room → Writes (set room at b) next (at + 1) text end
    → Writes room next at (b ∷ text) end
writes_before room next at end b text below w = record {
  length = omega (arith, w.length);
  front = w.front ∙ ap (λ xs. xs ++ text) (take_more_set room at b below) ∙ append_assoc (take at room) (b ∷ []) text;
  rest = w.rest ∙ drop-set-lt end room at b (omega (arith, w.length));
}

-- one byte after the written text
pub writes_behind : (room next : List ℕ) (at end : ℕ) (b : ℕ) (text : List ℕ) → end < length next → Writes room next at text end
    → Writes room (set next end b) at (text ++ b ∷ []) (end + 1)
writes_behind room next at end b text below w = record {
  length = omega (arith, w.length, length-append text (b ∷ []));
  front = take_more_set next end b below ∙ ap (λ xs. xs ++ b ∷ []) w.front ∙ append_assoc (take at room) text (b ∷ []);
  rest = drop-set-lt (end + 1) next end b (omega arith) ∙ later next room end (end + 1) (omega arith) w.rest;
}

-- one text after another
pub writes_both : (room next last : List ℕ) (at end to : ℕ) (s t : List ℕ) → Writes room next at s end → Writes next last end t to
    → Writes room last at (s ++ t) to
writes_both room next last at end to s t v w = record {
  length = omega (arith, v.length, w.length, length-append s t);
  front = w.front ∙ ap (λ xs. xs ++ t) v.front ∙ append_assoc (take at room) s t;
  rest = w.rest ∙ later next room end to (omega (arith, w.length)) v.rest;
}

-- ---- the decimals

pow_ten : (k : ℕ) → 0 < 10 ^ k
pow_ten zero = omega arith
pow_ten (suc k) = omega (arith, pow_ten k, pow-suc 10 k)

pub decimals_none : (places fraction : ℕ) → fraction ≡ 0 → decimals_of places fraction ≡ []
unfolding decimals_of
decimals_none zero fraction e = refl
decimals_none (suc places) fraction e = rw e refl

pub decimals_from : (places fraction : ℕ) → (fraction ≡ 0 → ⊥) → fraction < 10 ^ places
    → decimals_of places fraction ≡ (48 + fraction / 10 ^ (places - 1)) ∷ decimals_of (places - 1) (fraction % 10 ^ (places - 1))
unfolding decimals_of
decimals_from zero fraction some below = absurd (some (omega arith))
decimals_from (suc places) fraction some below =
    let before : suc places - 1 ≡ places = omega arith in
    rw (before, ne_eqb fraction 0 some) refl

pub places_left : (places fraction : ℕ) → (fraction ≡ 0 → ⊥) → fraction < 10 ^ places → 0 < places
places_left zero fraction some below = absurd (some (omega arith))
places_left (suc places) fraction some below = omega arith

pub parts_step : (places parts : ℕ) → parts ≡ 10 ^ places → 0 < places → parts / 10 ≡ 10 ^ (places - 1)
parts_step zero parts e h = absurd (omega arith)
parts_step (suc places) parts e h =
    let before : suc places - 1 ≡ places = omega arith in
    rw (before, e, pow-suc 10 places) (mul-div_left (10 ^ places) {n = 10} (omega arith))

pub part_some : (places parts fraction : ℕ) → parts ≡ 10 ^ places → (fraction ≡ 0 → ⊥) → fraction < 10 ^ places → 0 < parts / 10
part_some places parts fraction e some below = rw (parts_step places parts e (places_left places fraction some below)) (pow_ten (places - 1))

length_decimals : (places fraction : ℕ) → length (decimals_of places fraction) ≤ places
unfolding decimals_of
length_decimals zero fraction = omega arith
length_decimals (suc places) fraction = elim (fraction == 0) as
    (λ b. length (if b then [] else (48 + fraction / 10 ^ places) ∷ decimals_of places (fraction % 10 ^ places)) ≤ suc places) [
      | true ↦ omega arith
      | false ↦ omega (arith, length_decimals places (fraction % 10 ^ places))
    ]

length_fraction : (fraction : ℕ) → length (fraction_text fraction) ≤ 7
length_fraction fraction = elim (fraction == 0) as (λ b. length (if b then [] else 46 ∷ decimals_of 6 fraction) ≤ 7) [
  | true ↦ omega arith
  | false ↦ omega (arith, length_decimals 6 fraction)
]

-- ---- the whole units

pub decimal_one : (n : ℕ) → n < 10 → length (decimal n) ≡ 1
decimal_one n h = ap length (decimal_digit n h)

pub decimal_more : (n : ℕ) → 10 ≤ n → n < 2 ^ 64 → length (decimal n) ≡ length (decimal (n / 10)) + 1
decimal_more n h small = ap length (decimal_step n h small) ∙ length-append (decimal (n / 10)) ((48 + n % 10) ∷ [])

pub units_short : (size : ℕ) → size ≤ most → length (decimal (size / unit)) ≤ 14
units_short size h = length-decimal-le 14 (size / unit) (omega arith) (omega arith) (omega arith)

pub size_short : (size : ℕ) → size ≤ most → length (size_text size) ≤ 20
unfolding size_text
size_short size h =
    let whole = units_short size h in
    let both = length-append (decimal (size / unit)) (fraction_text (size % unit)) in
    ⊎_elim
    (λ (below : size < most). omega (arith, both, length_fraction (size % unit), length-decimal-le 13 (size / unit) (omega arith) (omega arith) (omega arith)))
    (λ (above : most ≤ size).
    let top : size % unit ≡ 0 = omega arith in
    let none : length (fraction_text (size % unit)) ≡ 0 = rw top refl in
    omega (arith, both))
    (cases_lt size most)

-- ---- the sign

-- the printed form, with a minus and without one
pub writes_negative : (room next : List ℕ) (z : ℤ) (n end : ℕ) → 0 < length room → true ≡ is_negative z → n ≡ unsigned_abs z
    → Writes (set room 0 45) next 1 (size_text n) end → Writes room next 0 (printed z) end
unfolding printed
writes_negative room next z n end some below e w = rw (← below, ← e) (writes_before room next 0 end 45 (size_text n) some w)

pub writes_other : (room next : List ℕ) (z : ℤ) (n end : ℕ) → false ≡ is_negative z → n ≡ unsigned_abs z → Writes room next 0 (size_text n) end
    → Writes room next 0 (printed z) end
unfolding printed
writes_other room next z n end other e w = rw (← other, ← e) w

pub front_of : (room next text : List ℕ) (end : ℕ) → Writes room next 0 text end → take end next ≡ text
front_of room next text end w = w.front

pub end_of : (room next text : List ℕ) (end : ℕ) → Writes room next 0 text end → end ≡ length text
end_of room next text end w = omega (arith, w.length)

pub ends_soon : (room next : List ℕ) (at size end : ℕ) → size ≤ most → Writes room next at (size_text size) end → end ≤ at + 20
ends_soon room next at size end h w = omega (arith, w.length, size_short size h)
