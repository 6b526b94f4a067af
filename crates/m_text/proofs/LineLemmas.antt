-- The first line of a text, by the position of its line feed.
use Rattle.std.proofs.Common.{◌≡◌, ◌≢◌, ℕ, ◌+◌, ◌-◌, ◌<◌, ◌≤◌, zero, suc, Bool, true, false, not, cond, eqb, List, [], ◌∷◌, length, take, drop, get_or, Result}
use Rattle.std.proofs.Common.{Ok, Err, MatchResult, is_ok, refl, sym, add-one, ap, subst, ◌∙◌, inl, inr, arith}
use mathlib.Core.Bool.{◌&&◌}
use Rattle.std.specs.List.{position_or_len}
use Rattle.std.specs.Str.{is_utf8, IsUtf8}
use Rattle.std.proofs.lemmas.Bool.{eqb-false, ne_eqb, false_from_ne_true, cases_Bool, and_right}
use Rattle.std.proofs.lemmas.List.{take_rest, drop_all}
use Rattle.std.proofs.lemmas.List.Sums.{position_or_len_is}
use Rattle.std.proofs.lemmas.Str.{IsUtf8-from_is_utf8, is_utf8-from_IsUtf8}
use Rattle.m_text.specs.Bytes.{RunsTo, line_feed}
use Rattle.m_text.specs.Lines.{lines_of, exact_lines_of, onto_first, begins_with_feed, without_return}

-- UTF-8, by the result of std's decoder
pub is_utf8-from_read : {T E : Type 0} (bytes : List ℕ) (read : Result T E) (P : T → Type 0) (Q : E → Type 0)
    → MatchResult read (λ text. P text × IsUtf8 bytes) (λ fault. (IsUtf8 bytes → ⊥) × Q fault) → is_ok read ≡ is_utf8 bytes
is_utf8-from_read bytes (Ok text) P Q reported = sym (is_utf8-from_IsUtf8 bytes reported.1)
is_utf8-from_read bytes (Err fault) P Q reported = sym (false_from_ne_true (is_utf8 bytes) (λ passes. reported.0 (IsUtf8-from_is_utf8 bytes passes)))

-- the position of the first line feed, or the length
abbrev pub feed_place : List ℕ → ℕ
feed_place bytes = position_or_len (λ byte. eqb byte 10) bytes

pub feed_place-from_run : (bytes : List ℕ) (end : ℕ) → RunsTo (λ b. b ≢ line_feed) bytes 0 end → end ≡ feed_place bytes
feed_place-from_run bytes end r = sym (position_or_len_is (λ byte. eqb byte 10) bytes end 0 r.within
    (λ k h. ne_eqb (get_or bytes k 0) 10 (r.each k (omega arith) h)) at)
  where
    at : end < length bytes → eqb (get_or bytes end 0) 10 ≡ true
    at h = elim (cases_Bool (eqb (get_or bytes end 0) 10)) [ inl is ↦ is | inr other ↦ absurd (r.stops h (eqb-false (get_or bytes end 0) 10 other)) ]

-- the lines of a text from those after its first byte, for each kind of byte
at_feed : (byte : ℕ) (bytes : List ℕ) → eqb byte 10 ≡ true → lines_of (byte ∷ bytes) ≡ [] ∷ lines_of bytes
at_feed byte bytes e = rw e refl

at_return : (byte : ℕ) (bytes : List ℕ) → eqb byte 10 ≡ false → (eqb byte 13 && begins_with_feed bytes) ≡ true → lines_of (byte ∷ bytes) ≡ lines_of bytes
at_return byte bytes e h = rw (e, h) refl

at_other : (byte : ℕ) (bytes : List ℕ) → eqb byte 10 ≡ false → (eqb byte 13 && begins_with_feed bytes) ≡ false
    → lines_of (byte ∷ bytes) ≡ onto_first byte (lines_of bytes)
at_other byte bytes e h = rw (e, h) refl

place_zero : (byte : ℕ) (bytes : List ℕ) → feed_place (byte ∷ bytes) ≡ 0 → eqb byte 10 ≡ true
place_zero byte bytes p = elim (eqb byte 10) as (λ t. cond (not t) (1 + feed_place bytes) 0 ≡ 0 → t ≡ true)
    [ true ↦ λ q. refl | false ↦ λ q. absurd (omega arith) ] p

place_later : (byte : ℕ) (bytes : List ℕ) (n : ℕ) → feed_place (byte ∷ bytes) ≡ suc n → eqb byte 10 ≡ false
place_later byte bytes n p = elim (eqb byte 10) as (λ t. cond (not t) (1 + feed_place bytes) 0 ≡ suc n → t ≡ false)
    [ true ↦ λ q. absurd (omega arith) | false ↦ λ q. refl ] p

-- one more byte before the first line feed
before_one_more : (byte : ℕ) (bytes : List ℕ) (n : ℕ) → eqb byte 10 ≡ false → feed_place bytes ≡ n → n < length bytes
    → lines_of bytes ≡ without_return (take n bytes) ∷ lines_of (drop (suc n) bytes)
    → lines_of (byte ∷ bytes) ≡ without_return (take (suc n) (byte ∷ bytes)) ∷ lines_of (drop (suc n) bytes)
before_one_more byte [] n e p l h = absurd (omega arith)
before_one_more byte (c ∷ cs) zero e p l h =
    elim (cases_Bool (eqb byte 13)) [
      | inl is_return ↦ at_return byte (c ∷ cs) e (rw (is_return, place_zero c cs p) refl) ∙ h ∙ sym (rw is_return refl)
      | inr other ↦ at_other byte (c ∷ cs) e (rw other refl) ∙ ap (onto_first byte) h ∙ sym (rw other refl)
    ]
before_one_more byte (c ∷ cs) (suc n) e p l h = at_other byte (c ∷ cs) e (and_right _ _ (place_later c cs n p)) ∙ ap (onto_first byte) h

first_step : (byte : ℕ) (bytes : List ℕ) (n : ℕ)
    → ((m : ℕ) → feed_place bytes ≡ m → m < length bytes → lines_of bytes ≡ without_return (take m bytes) ∷ lines_of (drop (suc m) bytes))
    → (t : Bool) → eqb byte 10 ≡ t → cond (not t) (1 + feed_place bytes) 0 ≡ n → n < suc (length bytes)
    → lines_of (byte ∷ bytes) ≡ without_return (take n (byte ∷ bytes)) ∷ lines_of (drop n bytes)
first_step byte bytes n behind true e p l = subst (λ (k : ℕ). lines_of (byte ∷ bytes) ≡ without_return (take k (byte ∷ bytes)) ∷ lines_of (drop k bytes)) p
    (at_feed byte bytes e)
first_step byte bytes n behind false e p l =
    let next : suc (feed_place bytes) ≡ n = omega arith in
    let within : feed_place bytes < length bytes = omega arith in
    subst (λ (k : ℕ). lines_of (byte ∷ bytes) ≡ without_return (take k (byte ∷ bytes)) ∷ lines_of (drop k bytes)) next
    (before_one_more byte bytes (feed_place bytes) e refl within (behind (feed_place bytes) refl within))

-- the first line ends at the first line feed
pub lines_of-at_feed : (bytes : List ℕ) (n : ℕ) → feed_place bytes ≡ n → n < length bytes
    → lines_of bytes ≡ without_return (take n bytes) ∷ lines_of (drop (suc n) bytes)
lines_of-at_feed [] n p l = absurd (omega arith)
lines_of-at_feed (byte ∷ bytes) n p l = first_step byte bytes n (lines_of-at_feed bytes) (eqb byte 10) refl p l

last_other : (byte : ℕ) (bytes : List ℕ) → suc (length bytes) ≤ feed_place (byte ∷ bytes) → (eqb byte 10 ≡ false) × (length bytes ≤ feed_place bytes)
last_other byte bytes h = elim (eqb byte 10) as (λ t. suc (length bytes) ≤ cond (not t) (1 + feed_place bytes) 0
    → (t ≡ false) × (length bytes ≤ feed_place bytes)) [
      | true ↦ λ q. absurd (omega arith)
      | false ↦ λ q. (refl, omega arith)
    ] h

-- a text without a line feed is one line
pub lines_of-no_feed : (bytes : List ℕ) → 0 < length bytes → length bytes ≤ feed_place bytes → lines_of bytes ≡ bytes ∷ []
lines_of-no_feed [] l h = absurd (omega arith)
lines_of-no_feed (byte ∷ []) l h = at_other byte [] (last_other byte [] h).0 (and_right _ _ refl)
lines_of-no_feed (byte ∷ c ∷ cs) l h =
    let p = last_other byte (c ∷ cs) h in
    at_other byte (c ∷ cs) p.0 (and_right _ _ (last_other c cs p.1).0) ∙ ap (onto_first byte) (lines_of-no_feed (c ∷ cs) (omega arith) p.1)

-- a line, by its last byte
pub without_return-return : (line : List ℕ) (last : ℕ) → last + 1 ≡ length line → get_or line last 0 ≡ 13 → take last line ≡ without_return line
without_return-return [] last l h = absurd (omega arith)
without_return-return (byte ∷ []) zero l h = sym (rw h refl)
without_return-return (byte ∷ next ∷ bytes) zero l h = absurd (omega arith)
without_return-return (byte ∷ []) (suc last) l h = absurd (omega arith)
without_return-return (byte ∷ next ∷ bytes) (suc last) l h = ap (λ line. byte ∷ line) (without_return-return (next ∷ bytes) last (omega arith) h)

pub without_return-other : (line : List ℕ) (last : ℕ) → last + 1 ≡ length line → (get_or line last 0 ≡ 13 → ⊥) → line ≡ without_return line
without_return-other [] last l h = absurd (omega arith)
without_return-other (byte ∷ []) zero l h = sym (rw (ne_eqb byte 13 h) refl)
without_return-other (byte ∷ next ∷ bytes) zero l h = absurd (omega arith)
without_return-other (byte ∷ []) (suc last) l h = absurd (omega arith)
without_return-other (byte ∷ next ∷ bytes) (suc last) l h = ap (λ line. byte ∷ line) (without_return-other (next ∷ bytes) last (omega arith) h)

-- the same, with the slices that the code takes
pub lines_of-cut : (bytes : List ℕ) (n : ℕ) → n ≡ feed_place bytes → n < length bytes
    → lines_of bytes ≡ without_return (take n bytes) ∷ lines_of (take (length bytes - (n + 1)) (drop (n + 1) bytes))
lines_of-cut bytes n p l = rw (take_rest, add-one) (lines_of-at_feed bytes n (sym p) l)

pub lines_of-whole : (bytes : List ℕ) (n : ℕ) → n ≡ length bytes → n ≡ feed_place bytes → eqb (length bytes) 0 ≡ false
    → lines_of bytes ≡ bytes ∷ lines_of (take (length bytes - n) (drop n bytes))
lines_of-whole bytes n e p some =
    let has_some = eqb-false (length bytes) 0 some in
    let behind : length bytes ≤ n = omega arith in
    rw (take_rest, drop_all) (lines_of-no_feed bytes (omega (arith, has_some)) (omega arith))

-- ---- exact lines

exact_step : (byte : ℕ) (bytes : List ℕ) (n : ℕ)
    → ((m : ℕ) → feed_place bytes ≡ m → m < length bytes → exact_lines_of bytes ≡ take m bytes ∷ exact_lines_of (drop (suc m) bytes))
    → (t : Bool) → eqb byte 10 ≡ t → cond (not t) (1 + feed_place bytes) 0 ≡ n → n < suc (length bytes)
    → exact_lines_of (byte ∷ bytes) ≡ take n (byte ∷ bytes) ∷ exact_lines_of (drop n bytes)
exact_step byte bytes n behind true e p l = subst (λ (k : ℕ). exact_lines_of (byte ∷ bytes) ≡ take k (byte ∷ bytes) ∷ exact_lines_of (drop k bytes)) p
    (rw e refl)
exact_step byte bytes n behind false e p l =
    let next : suc (feed_place bytes) ≡ n = omega arith in
    let within : feed_place bytes < length bytes = omega arith in
    let other : exact_lines_of (byte ∷ bytes) ≡ onto_first byte (exact_lines_of bytes) = rw e refl in
    subst (λ (k : ℕ). exact_lines_of (byte ∷ bytes) ≡ take k (byte ∷ bytes) ∷ exact_lines_of (drop k bytes)) next (other
    ∙ ap (onto_first byte) (behind (feed_place bytes) refl within))

-- the first line ends at the first line feed
exact-at_feed : (bytes : List ℕ) (n : ℕ) → feed_place bytes ≡ n → n < length bytes → exact_lines_of bytes ≡ take n bytes ∷ exact_lines_of (drop (suc n) bytes)
exact-at_feed [] n p l = absurd (omega arith)
exact-at_feed (byte ∷ bytes) n p l = exact_step byte bytes n (exact-at_feed bytes) (eqb byte 10) refl p l

-- a text without a line feed is one line
exact-no_feed : (bytes : List ℕ) → 0 < length bytes → length bytes ≤ feed_place bytes → exact_lines_of bytes ≡ bytes ∷ []
exact-no_feed [] l h = absurd (omega arith)
exact-no_feed (byte ∷ []) l h = rw (last_other byte [] h).0 refl
exact-no_feed (byte ∷ c ∷ cs) l h =
    let p = last_other byte (c ∷ cs) h in
    let other : exact_lines_of (byte ∷ c ∷ cs) ≡ onto_first byte (exact_lines_of (c ∷ cs)) = rw p.0 refl in
    other ∙ ap (onto_first byte) (exact-no_feed (c ∷ cs) (omega arith) p.1)

-- the same, with the slices that the code takes
pub exact-cut : (bytes : List ℕ) (n : ℕ) → n ≡ feed_place bytes → n < length bytes
    → exact_lines_of bytes ≡ take n bytes ∷ exact_lines_of (take (length bytes - (n + 1)) (drop (n + 1) bytes))
exact-cut bytes n p l = rw (take_rest, add-one) (exact-at_feed bytes n (sym p) l)

pub exact-whole : (bytes : List ℕ) (n : ℕ) → n ≡ length bytes → n ≡ feed_place bytes → eqb (length bytes) 0 ≡ false
    → exact_lines_of bytes ≡ bytes ∷ exact_lines_of (take (length bytes - n) (drop n bytes))
exact-whole bytes n e p some =
    let has_some = eqb-false (length bytes) 0 some in
    let behind : length bytes ≤ n = omega arith in
    rw (take_rest, drop_all) (exact-no_feed bytes (omega (arith, has_some)) (omega arith))
