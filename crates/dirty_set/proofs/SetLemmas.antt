-- Sets with summaries: their lists of Booleans after each change, and the next member.
use Rattle.std.proofs.Common.{◌≡◌, ◌≢◌, ℕ, ◌*◌, ◌/◌, ◌<◌, ◌≤◌, Bool, true, false, not, eqb, length, get_or, set, map, replicate, List, sym, ap, subst, ◌∙◌}
use Rattle.std.proofs.Common.{⊎_elim, arith}
use Rattle.std.specs.List.{range_with_len}
use Rattle.std.proofs.lemmas.Bool.{cases_eq, cases_lt, eq-eqb, ne_eqb, eqb-true, false≢true}
use Rattle.std.proofs.lemmas.List.{get_or-set_same, get_or-set_other, get_or_past, length-set, length-replicate, get_or-replicate, ext_get_or}
use Rattle.std.proofs.lemmas.List.FromFn.{length-map-range_with_len, get_or-map-range_with_len}
use Rattle.dirty_set.specs.Members.{is_member, IsNext}
use Rattle.dirty_set.specs.inner.Words.{word_at, has, members, with_bit, without_bit, IsSummed, IsLayered}
use Rattle.dirty_set.proofs.WordLemmas.{has_zero, has_with_same, has_with_other, has_without_same, has_without_other, word_with, word_without}

pub length-members : (words : List ℕ) (n : ℕ) → length (members words n) ≡ n
length-members words n = length-map-range_with_len (has words) 0 n

-- an element of the list is the bit of its number
pub member_is : (words summary : List ℕ) (n k : ℕ) → IsSummed words summary n → is_member (members words n) k ≡ has words k
member_is words summary n k h =
    ⊎_elim
    (λ (below : k < n). get_or-map-range_with_len (has words) 0 n k k false below (omega arith))
    (λ (past : n ≤ k). get_or_past (members words n) k false (omega (arith, length-members words n)) ∙ sym (h.clean k past))
    (cases_lt k n)

-- one number changed
list_set : (f g : ℕ → Bool) (n k : ℕ) (b : Bool) → k < n → g k ≡ b → ((i : ℕ) → i ≢ k → g i ≡ f i)
    → map g (range_with_len 0 n) ≡ set (map f (range_with_len 0 n)) k b
list_set f g n k b h here others =
    let so_many : length (map g (range_with_len 0 n)) ≡ n = length-map-range_with_len g 0 n in
    let as_many : length (map f (range_with_len 0 n)) ≡ n = length-map-range_with_len f 0 n in
    ext_get_or false (map g (range_with_len 0 n)) (set (map f (range_with_len 0 n)) k b)
    (so_many ∙ sym (length-set (map f (range_with_len 0 n)) k b ∙ as_many))
    (λ i within.
    let below : i < n = omega arith in
    let there : get_or (map g (range_with_len 0 n)) i false ≡ g i = get_or-map-range_with_len g 0 n i i false below (omega arith) in
    ⊎_elim
    (λ (is : i ≡ k). there ∙ ap g is ∙ here ∙ sym (ap (λ j. get_or (set (map f (range_with_len 0 n)) k b) j false) is
    ∙ get_or-set_same (map f (range_with_len 0 n)) k b false (omega arith)))
    (λ (ne : i ≢ k). there ∙ others i ne ∙ sym (get_or-set_other (map f (range_with_len 0 n)) k i b false ne
    ∙ get_or-map-range_with_len f 0 n i i false below (omega arith)))
    (cases_eq i k))

pub members_with : (words : List ℕ) (n k : ℕ) → k < n → k / 64 < length words → members (with_bit words k) n ≡ set (members words n) k true
members_with words n k h within =
    list_set (has words) (has (with_bit words k)) n k true h (has_with_same words k within) (λ i ne. has_with_other words k i within ne)

pub members_without : (words : List ℕ) (n k : ℕ) → k < n → k / 64 < length words → members (without_bit words k) n ≡ set (members words n) k false
members_without words n k h within =
    list_set (has words) (has (without_bit words k)) n k false h (has_without_same words k within) (λ i ne. has_without_other words k i within ne)

-- ---- the invariant

pub word_within : (words summary : List ℕ) (n k : ℕ) → IsSummed words summary n → k < n → (k / 64 < length words) × (k / 64 / 64 < length summary)
word_within words summary n k h below =
    let room : n ≤ 64 * length words = h.room in
    let top : length words ≤ 64 * length summary = h.top in
    let first : k / 64 < length words = omega arith in
    let second : k / 64 / 64 < length summary = omega arith in
    (first, second)

pub summed_with : (words summary : List ℕ) (n k : ℕ) → IsSummed words summary n → k < n → IsSummed (with_bit words k) (with_bit summary (k / 64)) n
summed_with words summary n k h below =
    let room = word_within words summary n k h below in
    let w = k / 64 in
    let long : length (with_bit words k) ≡ length words = length-set words w _ in
    let top_long : length (with_bit summary w) ≡ length summary = length-set summary (w / 64) _ in
    record {
      room = rw long h.room;
      top = rw (long, top_long) h.top;
      few = rw long h.few;
      short = rw (long, top_long) h.short;
      within = h.within;
      clean = λ i past. let ne : i ≢ k = λ is. absurd (omega arith) in has_with_other words k i room.0 ne ∙ h.clean i past;
      summed = λ v.
          ⊎_elim
          (λ (is : v ≡ w). subst (λ u. has (with_bit summary w) u ≡ not (eqb (word_at (with_bit words k) u) 0)) (sym is)
          (has_with_same summary w room.1 ∙ sym (ap not (word_with words k room.0))))
          (λ (ne : v ≢ w). has_with_other summary w v room.1 ne ∙ h.summed v ∙ sym (ap (λ x. not (eqb x 0)) (get_or-set_other words w v _ 0 ne)))
          (cases_eq v w);
    }

-- if the word becomes 0
pub summed_cleared : (words summary : List ℕ) (n k : ℕ) → IsSummed words summary n → k < n → word_at (without_bit words k) (k / 64) ≡ 0
    → IsSummed (without_bit words k) (without_bit summary (k / 64)) n
summed_cleared words summary n k h below zero =
    let room = word_within words summary n k h below in
    let w = k / 64 in
    let long : length (without_bit words k) ≡ length words = length-set words w _ in
    let top_long : length (without_bit summary w) ≡ length summary = length-set summary (w / 64) _ in
    record {
      room = rw long h.room;
      top = rw (long, top_long) h.top;
      few = rw long h.few;
      short = rw (long, top_long) h.short;
      within = h.within;
      clean = λ i past. let ne : i ≢ k = λ is. absurd (omega arith) in has_without_other words k i room.0 ne ∙ h.clean i past;
      summed = λ v.
          ⊎_elim
          (λ (is : v ≡ w). subst (λ u. has (without_bit summary w) u ≡ not (eqb (word_at (without_bit words k) u) 0)) (sym is)
          (has_without_same summary w room.1 ∙ sym (ap not (eq-eqb (word_at (without_bit words k) w) 0 zero))))
          (λ (ne : v ≢ w). has_without_other summary w v room.1 ne ∙ h.summed v ∙ sym (ap (λ x. not (eqb x 0)) (get_or-set_other words w v _ 0 ne)))
          (cases_eq v w);
    }

-- if the word stays other than 0
pub summed_without : (words summary : List ℕ) (n k : ℕ) → IsSummed words summary n → k < n → word_at (without_bit words k) (k / 64) ≢ 0
    → IsSummed (without_bit words k) summary n
summed_without words summary n k h below some =
    let room = word_within words summary n k h below in
    let w = k / 64 in
    let long : length (without_bit words k) ≡ length words = length-set words w _ in
    record {
      room = rw long h.room;
      top = rw long h.top;
      few = rw long h.few;
      short = rw long h.short;
      within = h.within;
      clean = λ i past. let ne : i ≢ k = λ is. absurd (omega arith) in has_without_other words k i room.0 ne ∙ h.clean i past;
      summed = λ v.
          ⊎_elim
          (λ (is : v ≡ w). subst (λ u. has summary u ≡ not (eqb (word_at (without_bit words k) u) 0)) (sym is)
          (h.summed w ∙ ap not (ne_eqb (word_at words w) 0 (word_without words k room.0 some))
          ∙ sym (ap not (ne_eqb (word_at (without_bit words k) w) 0 some))))
          (λ (ne : v ≢ w). h.summed v ∙ sym (ap (λ x. not (eqb x 0)) (get_or-set_other words w v _ 0 ne)))
          (cases_eq v w);
    }

-- ---- two levels

pub layered_places : (words summary top : List ℕ) (n k : ℕ) → IsLayered words summary top n → k < n
    → (k / 64 < length words) × (k / 64 / 64 < length summary) × (k / 64 / 64 / 64 < length top)
layered_places words summary top n k h below =
    let low = word_within words summary n k h.lower below in
    let high = word_within summary top (length words) (k / 64) h.upper low.0 in
    (low.0, high.0, high.1)

pub layered_with : (words summary top : List ℕ) (n k : ℕ) → IsLayered words summary top n → k < n
    → IsLayered (with_bit words k) (with_bit summary (k / 64)) (with_bit top (k / 64 / 64)) n
layered_with words summary top n k h below =
    let places = layered_places words summary top n k h below in
    record {
      lower = summed_with words summary n k h.lower below;
      upper = subst (λ m. IsSummed (with_bit summary (k / 64)) (with_bit top (k / 64 / 64)) m) (sym (length-set words (k / 64) _))
          (summed_with summary top (length words) (k / 64) h.upper places.0);
    }

-- if the word of the number stays other than 0
pub layered_without : (words summary top : List ℕ) (n k : ℕ) → IsLayered words summary top n → k < n
    → eqb (word_at (without_bit words k) (k / 64)) 0 ≡ false → IsLayered (without_bit words k) summary top n
layered_without words summary top n k h below some = record {
  lower = summed_without words summary n k h.lower below (λ zero. false≢true (sym some ∙ eq-eqb _ 0 zero));
  upper = subst (λ m. IsSummed summary top m) (sym (length-set words (k / 64) _)) h.upper;
}

-- if it becomes 0, but the summary's word doesn't
pub layered_cleared : (words summary top : List ℕ) (n k : ℕ) → IsLayered words summary top n → k < n
    → eqb (word_at (without_bit words k) (k / 64)) 0 ≡ true → eqb (word_at (without_bit summary (k / 64)) (k / 64 / 64)) 0 ≡ false
    → IsLayered (without_bit words k) (without_bit summary (k / 64)) top n
layered_cleared words summary top n k h below zero some =
    let places = layered_places words summary top n k h below in
    record {
      lower = summed_cleared words summary n k h.lower below (eqb-true _ 0 zero);
      upper = subst (λ m. IsSummed (without_bit summary (k / 64)) top m) (sym (length-set words (k / 64) _))
          (summed_without summary top (length words) (k / 64) h.upper places.0 (λ none. false≢true (sym some ∙ eq-eqb _ 0 none)));
    }

-- if both become 0
pub layered_emptied : (words summary top : List ℕ) (n k : ℕ) → IsLayered words summary top n → k < n
    → eqb (word_at (without_bit words k) (k / 64)) 0 ≡ true → eqb (word_at (without_bit summary (k / 64)) (k / 64 / 64)) 0 ≡ true
    → IsLayered (without_bit words k) (without_bit summary (k / 64)) (without_bit top (k / 64 / 64)) n
layered_emptied words summary top n k h below zero none =
    let places = layered_places words summary top n k h below in
    record {
      lower = summed_cleared words summary n k h.lower below (eqb-true _ 0 zero);
      upper = subst (λ m. IsSummed (without_bit summary (k / 64)) (without_bit top (k / 64 / 64)) m) (sym (length-set words (k / 64) _))
          (summed_cleared summary top (length words) (k / 64) h.upper places.0 (eqb-true _ 0 none));
    }

-- ---- the next member

pub next_member : (words summary : List ℕ) (n p r : ℕ) → IsSummed words summary n → IsNext (has words) p r → IsNext (is_member (members words n)) p r
next_member words summary n p r h next = record {
  from = next.from;
  is = member_is words summary n r h ∙ next.is;
  between = λ i low high. member_is words summary n i h ∙ next.between i low high;
}

-- a member is below the count
pub has_within : (words summary : List ℕ) (n k : ℕ) → IsSummed words summary n → has words k ≡ true → k < n
has_within words summary n k h some = ⊎_elim (λ lt. lt) (λ ge. absurd (false≢true (sym (h.clean k ge) ∙ some))) (cases_lt k n)

-- ---- the empty set

pub all_false : (xs : List Bool) (n : ℕ) → length xs ≡ n → ((k : ℕ) → is_member xs k ≡ false) → xs ≡ replicate n false
all_false xs n so_many none =
    ext_get_or false xs (replicate n false) (so_many ∙ sym (length-replicate n false)) (λ i within. none i
    ∙ sym (get_or-replicate n i false false (omega arith)))

pub none_of_zeros : (words : List ℕ) (m n : ℕ) → words ≡ replicate m 0 → members words n ≡ replicate n false
none_of_zeros words m n zeros =
    all_false (members words n) n (length-members words n)
    (λ k. ⊎_elim
    (λ (below : k < n). get_or-map-range_with_len (has words) 0 n k k false below (omega arith)
    ∙ has_zero words k (ap (λ (ws : List ℕ). word_at ws (k / 64)) zeros ∙ zero_at (k / 64)))
    (λ (past : n ≤ k). get_or_past (members words n) k false (omega (arith, length-members words n)))
    (cases_lt k n))
  where
    zero_at : (w : ℕ) → word_at (replicate m 0) w ≡ 0
    zero_at w = ⊎_elim (λ (lt : w < m). get_or-replicate m w 0 0 lt)
        (λ (ge : m ≤ w). get_or_past (replicate m 0) w 0 (omega (arith, length-replicate {A = ℕ} m 0))) (cases_lt w m)
