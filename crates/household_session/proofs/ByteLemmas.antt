-- Lines and pieces as the code splits them.
use Rattle.std.proofs.Common.{◌≡◌, ◌≢◌, ℕ, ◌+◌, ◌-◌, ◌<◌, ◌≤◌, zero, suc, min, length, length-take, length-drop, take, drop, get_or, List, [], ◌∷◌, ◌++◌}
use Rattle.std.proofs.Common.{zero-add, refl, sym, ◌∙◌, ap, subst, inl, inr, arith}
use Rattle.std.specs.List.{copy_within}
use Rattle.std.proofs.lemmas.Bool.{cases_eq, cases_lt}
use Rattle.std.proofs.lemmas.List.{take-append-drop, drop-drop, drop_more, take_all, drop-take, get_or-take, get_or-drop}
use Rattle.std.proofs.lemmas.List.Edits.{take-paste}
use Rattle.m_text.specs.Bytes.{RunsTo, line_feed}
use Rattle.household_session.specs.Replies.{IsUnended}

-- bytes without a line feed, by position
pub unended_all : (bytes : List ℕ) → ((k : ℕ) → k < length bytes → get_or bytes k 0 ≢ 10) → IsUnended bytes
unended_all [] each = tt
unended_all (byte ∷ bytes) each = (each 0 (omega arith), unended_all bytes (λ k h. each (suc k) (omega arith)))

pub unended_take : (n : ℕ) (bytes : List ℕ) → IsUnended bytes → IsUnended (take n bytes)
unended_take zero bytes free = tt
unended_take (suc n) [] free = tt
unended_take (suc n) (byte ∷ bytes) free = (free.0, unended_take n bytes free.1)

part_at : (bytes : List ℕ) (from n k : ℕ) → k < n → get_or (take n (drop from bytes)) k 0 ≡ get_or bytes (from + k) 0
part_at bytes from n k h = get_or-take n (drop from bytes) k 0 h ∙ get_or-drop from bytes k 0

-- a run of bytes has no line feed
pub run_unended : (bytes : List ℕ) (from end : ℕ) → RunsTo (λ b. b ≢ line_feed) bytes from end → IsUnended (take (end - from) (drop from bytes))
run_unended bytes from end runs = unended_all (take (end - from) (drop from bytes)) (λ k h.
    let within : k < end - from = omega (arith, length-take (end - from) (drop from bytes)) in
    λ same. runs.each (from + k) (omega arith) (omega (arith, runs.onward)) (sym (part_at bytes from (end - from) k within) ∙ same))

pub run_to_end : (bytes : List ℕ) (from end : ℕ) → RunsTo (λ b. b ≢ line_feed) bytes from end → length bytes ≤ end → IsUnended (drop from bytes)
run_to_end bytes from end runs all =
    subst (λ (part : List ℕ). IsUnended part) (take_all (end - from) (drop from bytes) (omega (arith, length-drop from bytes)))
    (run_unended bytes from end runs)

-- after a run that ends before the end of the bytes comes a line feed
pub run_cut : (bytes : List ℕ) (from end : ℕ) → RunsTo (λ b. b ≢ line_feed) bytes from end → end < length bytes
    → drop from bytes ≡ take (end - from) (drop from bytes) ++ line_feed ∷ drop (end + 1) bytes
run_cut bytes from end runs h =
    let feed : get_or bytes end 0 ≡ 10 = elim (cases_eq (get_or bytes end 0) 10) [ inl e ↦ e | inr other ↦ absurd (runs.stops h other) ] in
    let there : from + (end - from) ≡ end = omega (arith, runs.onward) in
    sym (take-append-drop (end - from) (drop from bytes))
    ∙ ap (λ rest. take (end - from) (drop from bytes) ++ rest)
    (drop-drop (end - from) from bytes ∙ ap (λ (k : ℕ). drop k bytes) there ∙ drop_more bytes end 0 h ∙ ap (λ byte. byte ∷ drop (end + 1) bytes) feed)

unended_at : (bytes : List ℕ) (k : ℕ) → IsUnended bytes → k < length bytes → get_or bytes k 0 ≢ 10
unended_at [] k free h = absurd (omega arith)
unended_at (byte ∷ bytes) zero free h = free.0
unended_at (byte ∷ bytes) (suc k) free h = unended_at bytes k free.1 (omega arith)

-- a run after bytes without a line feed extends to the start
pub run_from_front : (bytes : List ℕ) (held end : ℕ) → held ≤ length bytes → IsUnended (take held bytes) → RunsTo (λ b. b ≢ line_feed) bytes held end
    → RunsTo (λ b. b ≢ line_feed) bytes 0 end
run_from_front bytes held end within free runs = record {
  onward = omega arith;
  within = runs.within;
  each = λ k low h. elim (cases_lt k held) [
    | inl early ↦ λ same. unended_at (take held bytes) k free (omega (arith, length-take held bytes)) (get_or-take held bytes k 0 early ∙ same)
    | inr late ↦ runs.each k late h
  ];
  stops = runs.stops;
}

take_less : (n m : ℕ) (l : List ℕ) → n ≤ m → take n (take m l) ≡ take n l
take_less zero m l h = refl
take_less (suc n) zero l h = absurd (omega arith)
take_less (suc n) (suc m) [] h = refl
take_less (suc n) (suc m) (x ∷ l) h = ap (λ r. x ∷ r) (take_less n m l (omega arith))

-- bytes that are at the start already are left there
pub kept_there : (room : List ℕ) (from filled count : ℕ) → from ≡ 0 → count ≤ filled → take count room ≡ take count (drop from (take filled room))
kept_there room from filled count is h =
    sym (ap (λ (k : ℕ). take count (drop k (take filled room))) is ∙ take_less count filled room h)

-- the bytes that are kept
pub kept_front : (room new : List ℕ) (from filled count : ℕ) → from ≤ filled → filled ≤ length room → count ≡ min (filled - from) 4097
    → new ≡ copy_within room from (from + count) 0 → take count new ≡ take count (drop from (take filled room))
kept_front room new from filled count order within is copied =
    let size : (from + count) - from ≡ count = omega arith in
    let some : count ≤ length (drop from room) = omega (arith, length-drop from room) in
    let rest : from + (filled - from) ≡ filled = omega arith in
    let pasted : take ((from + count) - from) (copy_within room from (from + count) 0) ≡ take ((from + count) - from) (drop from room) =
    subst (λ (n : ℕ). take n (copy_within room from (from + count) 0) ≡ take ((from + count) - from) (drop from room)) (zero-add ((from + count) - from))
    (take-paste room 0 (drop from room) ((from + count) - from) (omega arith) (omega (arith, some))) in
    let moved : take count (copy_within room from (from + count) 0) ≡ take count (drop from room) =
    subst (λ (n : ℕ). take n (copy_within room from (from + count) 0) ≡ take n (drop from room)) size pasted in
    ap (take count) copied ∙ moved
    ∙ sym (ap (take count) (ap (λ (n : ℕ). drop from (take n room)) (sym rest) ∙ drop-take from (filled - from) room)
    ∙ take_less count (filled - from) (drop from room) (omega arith))
