-- Words and numbers: their first bytes, which are the longest, and their ends.
use Rattle.std.proofs.Common.{◌≡◌, ◌≢◌, ℕ, ◌+◌, ◌-◌, ◌<◌, ◌≤◌, List, [], ◌∷◌, ◌++◌, length, get_or, drop, refl, sym, ap, ◌∙◌, subst, arith, inl, inr}
use Rattle.std.specs.List.{AllByRecursion}
use Rattle.std.proofs.lemmas.Bool.{cases_lt}
use Rattle.std.proofs.lemmas.List.{append_assoc, append_cancel_right, drop_more, drop_all, get_or-take, get_or-drop}
use Rattle.std.proofs.lemmas.List.Elements.{All-from_recursion}
use Rattle.m_text.specs.Bytes.{IsDigit, IsWordByte, RunsTo, point}
use Rattle.m_text.specs.Words.{IsWord, AreDigits, IsDecimal, IsNumber, IsWordOrNumber, LongestOf, LongestBetween}
use Rattle.m_text.proofs.Fronts.{Stops, one_front, not_next, part, parts, length-part, all_part, stops_part, all_left, all_right, all_weaker}
use Rattle.m_text.proofs.Longest.{longest_from}

-- the first byte of a text
abbrev pub first : List ℕ → ℕ
first t = get_or t 0 0

pub word_first : (t : List ℕ) → IsWord t → IsWordByte (first t)
word_first [] h = absurd (h.1 tt)
word_first (b ∷ t) h = h.0.0

pub number_first : (t : List ℕ) → IsNumber t → IsDigit (first t)
number_first t (inl h) = digits_first t h.0 h.1
  where
    digits_first : (t : List ℕ) → t ≢ [] → AllByRecursion IsDigit t → IsDigit (first t)
    digits_first [] ne h = absurd (ne refl)
    digits_first (b ∷ t) ne h = h.0
number_first t (inr h) = digits_first t h.0 _ h.2.0 h.2.1 h.4
  where
    digits_first : (t w x : List ℕ) → w ≢ [] → AllByRecursion IsDigit w → t ≡ w ++ x → IsDigit (first t)
    digits_first t [] x ne h e = absurd (ne refl)
    digits_first t (b ∷ w) x ne h e = subst IsDigit (sym (ap first e)) h.0

digits_are_word_bytes : (a : List ℕ) → AllByRecursion IsDigit a → AllByRecursion IsWordByte a
digits_are_word_bytes = all_weaker IsDigit IsWordByte (λ b h. inr (inl h))

pub point_is_none : IsWordByte point → ⊥
point_is_none h = omega arith

-- the first byte of a concatenation
pub first_append : (t u : List ℕ) → (t ≡ [] → ⊥) → first (t ++ u) ≡ first t
first_append [] u ne = absurd (ne refl)
first_append (b ∷ t) u ne = refl

head_of : (t : List ℕ) → (t ≢ []) → (b : ℕ) × (u : List ℕ) × (t ≡ b ∷ u)
head_of [] ne = absurd (ne refl)
head_of (b ∷ u) ne = (b, u, refl)

pub longest_word : (bytes t rest : List ℕ) → bytes ≡ t ++ rest → IsWord t → Stops IsWordByte rest → LongestOf IsWordOrNumber bytes t rest
longest_word bytes t rest e h stops = longest_from IsWordOrNumber bytes t rest e (inl h) none
  where
    not_number : (c : ℕ) (more : List ℕ) → (IsWordByte c → ⊥) → IsNumber (t ++ c ∷ more) → ⊥
    not_number c more outside (inl q) = h.1 (all_left IsDigit t (c ∷ more) q.1)
    not_number c more outside (inr q) =
        let w = one_front IsWordByte t q.0 (c ∷ more) (point ∷ q.1) h.0 (digits_are_word_bytes q.0 q.2.1) outside point_is_none q.4 in
        h.1 (subst (AllByRecursion IsDigit) (sym w.0) q.2.1)

    none : (c : ℕ) (more v : List ℕ) → rest ≡ c ∷ (more ++ v) → IsWordOrNumber (t ++ c ∷ more) → ⊥
    none c more v f p =
        let outside = not_next IsWordByte rest c (more ++ v) f stops in
        elim p [
          | inl q ↦ outside (all_right IsWordByte t (c ∷ more) q.0).0
          | inr q ↦ not_number c more outside q
        ]

-- no point and digit follow
abbrev pub NoDecimals : List ℕ → Type 0
NoDecimals rest = (c : ℕ) (more : List ℕ) → rest ≡ point ∷ c ∷ more → IsDigit c → ⊥

pub longest_whole : (bytes t rest : List ℕ) → bytes ≡ t ++ rest → AreDigits t → Stops IsWordByte rest → NoDecimals rest → LongestOf IsWordOrNumber bytes t rest
longest_whole bytes t rest e h stops short = longest_from IsWordOrNumber bytes t rest e (inr (inl h)) none
  where
    not_number : (c : ℕ) (more v : List ℕ) → rest ≡ c ∷ (more ++ v) → (IsWordByte c → ⊥) → IsNumber (t ++ c ∷ more) → ⊥
    not_number c more v f outside (inl q) = outside (inr (inl (all_right IsDigit t (c ∷ more) q.1).0))
    not_number c more v f outside (inr q) =
        let w = one_front IsWordByte t q.0 (c ∷ more) (point ∷ q.1) (digits_are_word_bytes t h.1) (digits_are_word_bytes q.0 q.2.1) outside point_is_none q.4 in
        let d = head_of q.1 q.3.0 in
        let x = w.1 in
        let y = d.2 in
        let at_point : c ≡ point = cc in
        let behind : more ≡ d.0 ∷ d.1 = cc in
        let digit : AllByRecursion IsDigit (d.0 ∷ d.1) = subst (AllByRecursion IsDigit) y q.3.1 in
        short d.0 (d.1 ++ v) (f ∙ (λ i. at_point i ∷ (behind i ++ v))) digit.0

    none : (c : ℕ) (more v : List ℕ) → rest ≡ c ∷ (more ++ v) → IsWordOrNumber (t ++ c ∷ more) → ⊥
    none c more v f p =
        let outside = not_next IsWordByte rest c (more ++ v) f stops in
        elim p [
          | inl q ↦ outside (all_right IsWordByte t (c ∷ more) q.0).0
          | inr q ↦ not_number c more v f outside q
        ]

pub longest_decimal : (bytes whole decimals rest : List ℕ) → bytes ≡ (whole ++ point ∷ decimals) ++ rest → AreDigits whole → AreDigits decimals
    → Stops IsDigit rest → LongestOf IsWordOrNumber bytes (whole ++ point ∷ decimals) rest
longest_decimal bytes whole decimals rest e h k stops = longest_from IsWordOrNumber bytes (whole ++ point ∷ decimals) rest e (inr (inr d)) none
  where
    d : IsDecimal (whole ++ point ∷ decimals)
    d = (whole, decimals, h, k, refl)

    at_point : (P : ℕ → Type 0) (c : ℕ) (more : List ℕ) → AllByRecursion P ((whole ++ point ∷ decimals) ++ c ∷ more) → P point
    at_point P c more q = (all_right P whole (point ∷ decimals) (all_left P (whole ++ point ∷ decimals) (c ∷ more) q)).0

    not_number : (c : ℕ) (more : List ℕ) → (IsDigit c → ⊥) → IsNumber ((whole ++ point ∷ decimals) ++ c ∷ more) → ⊥
    not_number c more outside (inl q) = point_is_none (inr (inl (at_point IsDigit c more q.1)))
    not_number c more outside (inr q) =
        let g : whole ++ (point ∷ (decimals ++ c ∷ more)) ≡ q.0 ++ point ∷ q.1 = sym (append_assoc whole (point ∷ decimals) (c ∷ more)) ∙ q.4 in
        let w = one_front IsDigit whole q.0 (point ∷ (decimals ++ c ∷ more)) (point ∷ q.1) h.1 q.2.1 (λ x. point_is_none (inr (inl x)))
        (λ x. point_is_none (inr (inl x))) g in
        let x = w.1 in
        let same : q.1 ≡ decimals ++ c ∷ more = cc in
        outside (all_right IsDigit decimals (c ∷ more) (subst (AllByRecursion IsDigit) same q.3.1)).0

    none : (c : ℕ) (more v : List ℕ) → rest ≡ c ∷ (more ++ v) → IsWordOrNumber ((whole ++ point ∷ decimals) ++ c ∷ more) → ⊥
    none c more v f p =
        let outside = not_next IsDigit rest c (more ++ v) f stops in
        elim p [
          | inl q ↦ point_is_none (at_point IsWordByte c more q.0)
          | inr q ↦ not_number c more outside q
        ]

-- a word extends as far as word bytes do, and one of them is no digit
pub word_between : (bytes : List ℕ) (from end whole : ℕ) → RunsTo IsWordByte bytes from end → RunsTo IsDigit bytes from whole → whole < end
    → IsWord (part bytes from end)
word_between bytes from end whole r d h = (all_part IsWordByte bytes from end r, not_digits)
  where
    not_digits : AllByRecursion IsDigit (part bytes from end) → ⊥
    not_digits all =
        let k : whole < length bytes = omega (arith, r.within) in
        let l : whole - from < end - from = omega (arith, d.onward) in
        let m : from + (whole - from) ≡ whole = omega (arith, d.onward) in
        let x = All-from_recursion IsDigit (part bytes from end) all (whole - from) 0 (omega (arith, length-part bytes from end r.onward r.within)) in
        let y : get_or (part bytes from end) (whole - from) 0 ≡ get_or bytes whole 0 = get_or-take (end - from) (drop from bytes) (whole - from) 0 l
        ∙ get_or-drop from bytes (whole - from) 0 ∙ ap (λ n. get_or bytes n 0) m in
        d.stops k (subst IsDigit y x)

pub word_longest : (bytes : List ℕ) (from end whole : ℕ) → RunsTo IsWordByte bytes from end → RunsTo IsDigit bytes from whole → whole < end
    → LongestBetween bytes from end
word_longest bytes from end whole r d h = record {
  onward = omega (arith, d.onward);
  within = r.within;
  longest = longest_word (drop from bytes) (part bytes from end) (drop end bytes) (parts bytes from end r.onward) (word_between bytes from end whole r d h)
      (stops_part IsWordByte bytes from end r);
}

-- bytes from a digit on
pub digits_between : (bytes : List ℕ) (from to : ℕ) → from < to → RunsTo IsDigit bytes from to → AreDigits (part bytes from to)
digits_between bytes from to h r = (some, all_part IsDigit bytes from to r)
  where
    some : part bytes from to ≢ []
    some e = let l = length-part bytes from to r.onward r.within in let m = ap length e in omega arith

pub whole_longest : (bytes : List ℕ) (from to : ℕ) → from < to → RunsTo IsDigit bytes from to → RunsTo IsWordByte bytes from to → NoDecimals (drop to bytes)
    → LongestOf IsWordOrNumber (drop from bytes) (part bytes from to) (drop to bytes)
whole_longest bytes from to h d w short = longest_whole (drop from bytes) (part bytes from to) (drop to bytes) (parts bytes from to d.onward)
    (digits_between bytes from to h d) (stops_part IsWordByte bytes from to w) short

-- no decimals follow if there is no point, or no digit after it
pub no_point : (bytes : List ℕ) (to : ℕ) → (to < length bytes → get_or bytes to 0 ≢ point) → NoDecimals (drop to bytes)
no_point bytes to ne c more e k = elim (cases_lt to (length bytes)) [
  | inl h ↦ let d = drop_more bytes to 0 h in ne h (cc)
  | inr h ↦ let d = drop_all to bytes h in cc
]

pub no_digit : (bytes : List ℕ) (to : ℕ) → to < length bytes → (to + 1 < length bytes → IsDigit (get_or bytes (to + 1) 0) → ⊥) → NoDecimals (drop to bytes)
no_digit bytes to h none c more e k = elim (cases_lt (to + 1) (length bytes)) [
  | inl g ↦ let d = drop_more bytes to 0 h in let f = drop_more bytes (to + 1) 0 g in let same : c ≡ get_or bytes (to + 1) 0 = cc in none g
      (subst IsDigit same k)
  | inr g ↦ let d = drop_more bytes to 0 h in let f = drop_all (to + 1) bytes g in cc
]

-- the bytes between two positions, split at a third
part_split : (bytes : List ℕ) (from mid to b : ℕ) → from ≤ mid → mid < to → to ≤ length bytes → get_or bytes mid 0 ≡ b
    → part bytes from to ≡ part bytes from mid ++ b ∷ part bytes (mid + 1) to
part_split bytes from mid to b h k g e =
    let whole : drop from bytes ≡ part bytes from mid ++ drop mid bytes = parts bytes from mid h in
    let at : drop mid bytes ≡ b ∷ drop (mid + 1) bytes = drop_more bytes mid 0 (omega arith) ∙ ap (λ x. x ∷ drop (mid + 1) bytes) e in
    let tail : drop (mid + 1) bytes ≡ part bytes (mid + 1) to ++ drop to bytes = parts bytes (mid + 1) to (omega arith) in
    let front = part bytes from mid in
    let back = part bytes (mid + 1) to in
    let join : drop from bytes ≡ (front ++ b ∷ back) ++ drop to bytes = whole ∙ ap (λ x. front ++ x) (at ∙ ap (λ x. b ∷ x) tail)
    ∙ sym (append_assoc front (b ∷ back) (drop to bytes)) in
    let all : drop from bytes ≡ part bytes from to ++ drop to bytes = parts bytes from to (omega arith) in
    append_cancel_right (part bytes from to) (front ++ b ∷ back) (drop to bytes) (sym all ∙ join)

pub decimal_between : (bytes : List ℕ) (from whole to : ℕ) → from < whole → RunsTo IsDigit bytes from whole → whole < length bytes
    → get_or bytes whole 0 ≡ point → whole + 1 < to → RunsTo IsDigit bytes (whole + 1) to → IsDecimal (part bytes from to)
decimal_between bytes from whole to h r k e g d = (
  part bytes from whole,
  part bytes (whole + 1) to,
  digits_between bytes from whole h r,
  digits_between bytes
      (whole + 1) to g d,
  part_split bytes from whole to point (omega arith) (omega arith) d.within e,
)

pub decimal_longest : (bytes : List ℕ) (from whole to : ℕ) → from < whole → RunsTo IsDigit bytes from whole → whole < length bytes
    → get_or bytes whole 0 ≡ point → whole + 1 < to → RunsTo IsDigit bytes (whole + 1) to
    → LongestOf IsWordOrNumber (drop from bytes) (part bytes from to) (drop to bytes)
decimal_longest bytes from whole to h r k e g d =
    let split = part_split bytes from whole to point (omega arith) (omega arith) d.within e in
    let t = part bytes from whole ++ point ∷ part bytes (whole + 1) to in
    let eq : drop from bytes ≡ t ++ drop to bytes = parts bytes from to (omega arith) ∙ ap (λ x. x ++ drop to bytes) split in
    subst (λ x. LongestOf IsWordOrNumber (drop from bytes) x (drop to bytes)) (sym split)
    (longest_decimal (drop from bytes) (part bytes from whole) (part bytes (whole + 1) to) (drop to bytes) eq (digits_between bytes from whole h r)
    (digits_between bytes (whole + 1) to g d) (stops_part IsDigit bytes (whole + 1) to d))
