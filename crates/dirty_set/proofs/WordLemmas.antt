-- Bits of words after each change, and the next bit.
use Rattle.std.proofs.Common.{◌≡◌, ◌≢◌, ℕ, ◌+◌, ◌-◌, ◌*◌, ◌/◌, ◌%◌, ◌^◌, ◌<◌, ◌≤◌, true, false, not, eqb, length, set, List, bit_and, bit_or, w64, refl, sym}
use Rattle.std.proofs.Common.{ap, ◌∙◌, ⊎_elim, arith, shr-shr}
use Rattle.std.specs.Int.{bit_at, bit_not, trailing_zeros}
use Rattle.std.proofs.lemmas.Bool.{cases_eq, cases_lt, eq-eqb, ne_eqb, eqb-true, not-false, false≢true}
use Rattle.std.proofs.lemmas.List.{get_or-set_same, get_or-set_other, get_or_past}
use Rattle.std.proofs.lemmas.Nat.Bits.{bit_at-zero, bit_at-trailing_zeros, bit_at_set_same, bit_at_set_other, bit_at_clear_same, bit_at_clear_other}
use Rattle.std.proofs.lemmas.Nat.Bits.{bit_at_above}
use lib.Bits.{and_le_l}
use Rattle.std.proofs.Math.Nat.{div-le_self}
use Rattle.dirty_set.specs.Members.{IsNext}
use Rattle.dirty_set.specs.inner.Words.{is_one, word_at, has, with_bit, without_bit}

-- ---- one word

one_is : (word i : ℕ) → bit_at word i ≡ 1 → is_one word i ≡ true
one_is word i e = eq-eqb (bit_at word i) 1 e

zero_is : (word i : ℕ) → bit_at word i ≡ 0 → is_one word i ≡ false
zero_is word i e = ne_eqb (bit_at word i) 1 (λ one. absurd (omega (arith, e, one)))

shifted : (word k i : ℕ) → bit_at (word / 2 ^ k) i ≡ bit_at word (k + i)
shifted word k i = ap (λ x. x % 2) (shr-shr word k i)

pub none_from : (word k : ℕ) → word / 2 ^ k ≡ 0 → (i : ℕ) → k ≤ i → is_one word i ≡ false
none_from word k none i h =
    let split : k + (i - k) ≡ i = omega arith in
    zero_is word i (ap (bit_at word) (sym split) ∙ sym (shifted word k (i - k)) ∙ ap (λ x. bit_at x (i - k)) none ∙ bit_at-zero (i - k))

pub lowest_is : (word k : ℕ) → word < 2 ^ 64 → 0 < word / 2 ^ k
    → IsNext (is_one word) k (k + trailing_zeros w64 (word / 2 ^ k)) × (k + trailing_zeros w64 (word / 2 ^ k) < 64)
lowest_is word k fits some =
    let rest = word / 2 ^ k in
    let small : rest < 2 ^ 64 = omega (arith, div-le_self word (2 ^ k)) in
    let z = trailing_zeros w64 rest in
    let h = bit_at-trailing_zeros w64 rest some small in
    let one : bit_at word (k + z) ≡ 1 = sym (shifted word k z) ∙ h.1 in
    let next : IsNext (is_one word) k (k + z) = record {
      from = omega arith;
      is = one_is word (k + z) one;
      between = λ i low high.
          let split : k + (i - k) ≡ i = omega arith in
          let below : i - k < z = omega arith in
          zero_is word i (ap (bit_at word) (sym split) ∙ sym (shifted word k (i - k)) ∙ h.2 (i - k) below);
    } in (
      next,
      ⊎_elim (λ lt. lt) (λ ge. absurd (let zero : bit_at word (k + z) ≡ 0 = bit_at_above word 64 (k + z) fits ge in omega (arith, one, zero)))
          (cases_lt (k + z) 64),
    )

-- ---- words

has_in : (words : List ℕ) (w x k : ℕ) → w < length words → k / 64 ≡ w → has (set words w x) k ≡ is_one x (k % 64)
has_in words w x k h is = ap (λ y. is_one y (k % 64)) (ap (word_at (set words w x)) is ∙ get_or-set_same words w x 0 h)

has_out : (words : List ℕ) (w x k : ℕ) → k / 64 ≢ w → has (set words w x) k ≡ has words k
has_out words w x k ne = ap (λ y. is_one y (k % 64)) (get_or-set_other words w (k / 64) x 0 ne)

pub has_past : (words : List ℕ) (k : ℕ) → length words ≤ k / 64 → has words k ≡ false
has_past words k h = ap (λ y. is_one y (k % 64)) (get_or_past words (k / 64) 0 h) ∙ zero_is 0 (k % 64) (bit_at-zero (k % 64))

pub has_zero : (words : List ℕ) (k : ℕ) → word_at words (k / 64) ≡ 0 → has words k ≡ false
has_zero words k e = ap (λ y. is_one y (k % 64)) e ∙ zero_is 0 (k % 64) (bit_at-zero (k % 64))

low_bits : (k : ℕ) → k % 64 < 64
low_bits k = omega arith

apart : (i k : ℕ) → i / 64 ≡ k / 64 → i ≢ k → i % 64 ≢ k % 64
apart i k same ne e = ne (omega arith)

pub has_with_same : (words : List ℕ) (k : ℕ) → k / 64 < length words → has (with_bit words k) k ≡ true
has_with_same words k h =
    has_in words (k / 64) (bit_or (word_at words (k / 64)) (1 * 2 ^ (k % 64) % 2 ^ 64)) k h refl
    ∙ one_is (bit_or (word_at words (k / 64)) (1 * 2 ^ (k % 64) % 2 ^ 64)) (k % 64) (bit_at_set_same w64 (word_at words (k / 64)) (k % 64) (low_bits k))

pub has_with_other : (words : List ℕ) (k i : ℕ) → k / 64 < length words → i ≢ k → has (with_bit words k) i ≡ has words i
has_with_other words k i h ne =
    ⊎_elim
    (λ (same : i / 64 ≡ k / 64). has_in words (k / 64) (bit_or (word_at words (k / 64)) (1 * 2 ^ (k % 64) % 2 ^ 64)) i h same
    ∙ ap (λ b. eqb b 1) (bit_at_set_other w64 (word_at words (k / 64)) (k % 64) (low_bits k) (i % 64) (apart i k same ne))
    ∙ ap (λ w. is_one (word_at words w) (i % 64)) (sym same))
    (λ (other : i / 64 ≢ k / 64). has_out words (k / 64) (bit_or (word_at words (k / 64)) (1 * 2 ^ (k % 64) % 2 ^ 64)) i other)
    (cases_eq (i / 64) (k / 64))

pub has_without_same : (words : List ℕ) (k : ℕ) → k / 64 < length words → has (without_bit words k) k ≡ false
has_without_same words k h =
    has_in words (k / 64) (bit_and (word_at words (k / 64)) (bit_not w64 (1 * 2 ^ (k % 64) % 2 ^ 64))) k h refl
    ∙ zero_is (bit_and (word_at words (k / 64)) (bit_not w64 (1 * 2 ^ (k % 64) % 2 ^ 64))) (k % 64)
    (bit_at_clear_same w64 (word_at words (k / 64)) (k % 64) (low_bits k))

pub has_without_other : (words : List ℕ) (k i : ℕ) → k / 64 < length words → i ≢ k → has (without_bit words k) i ≡ has words i
has_without_other words k i h ne =
    ⊎_elim
    (λ (same : i / 64 ≡ k / 64). has_in words (k / 64) (bit_and (word_at words (k / 64)) (bit_not w64 (1 * 2 ^ (k % 64) % 2 ^ 64))) i h same
    ∙ ap (λ b. eqb b 1) (bit_at_clear_other w64 (word_at words (k / 64)) (k % 64) (low_bits k) (i % 64) (low_bits i) (apart i k same ne))
    ∙ ap (λ w. is_one (word_at words w) (i % 64)) (sym same))
    (λ (other : i / 64 ≢ k / 64). has_out words (k / 64) (bit_and (word_at words (k / 64)) (bit_not w64 (1 * 2 ^ (k % 64) % 2 ^ 64))) i other)
    (cases_eq (i / 64) (k / 64))

-- a word with a bit set isn't 0
pub word_with : (words : List ℕ) (k : ℕ) → k / 64 < length words → eqb (word_at (with_bit words k) (k / 64)) 0 ≡ false
word_with words k h =
    ne_eqb (word_at (with_bit words k) (k / 64)) 0 (λ zero. false≢true (sym (has_zero (with_bit words k) k zero) ∙ has_with_same words k h))

-- a word that isn't 0 after a bit is cleared wasn't 0 before
pub word_without : (words : List ℕ) (k : ℕ) → k / 64 < length words → word_at (without_bit words k) (k / 64) ≢ 0 → word_at words (k / 64) ≢ 0
word_without words k h some none =
    let new = bit_and (word_at words (k / 64)) (bit_not w64 (1 * 2 ^ (k % 64) % 2 ^ 64)) in
    let is : word_at (without_bit words k) (k / 64) ≡ new = get_or-set_same words (k / 64) new 0 h in
    some (is ∙ (let zero : new ≡ 0 = omega (arith, and_le_l (word_at words (k / 64)) (bit_not w64 (1 * 2 ^ (k % 64) % 2 ^ 64)), none) in zero))

-- ---- the next number

-- bit k of word w is the next, if no bit is set from p up to bit `from` of word w
pub next_in : (words : List ℕ) (p w from k : ℕ) → p ≤ 64 * w + from → k < 64 → ((i : ℕ) → p ≤ i → i < 64 * w + from → has words i ≡ false)
    → IsNext (is_one (word_at words w)) from k → IsNext (has words) p (64 * w + k)
next_in words p w from k start small past next =
    let up : from ≤ k = next.from in
    let place : (64 * w + k) / 64 ≡ w = omega arith in
    let bit : (64 * w + k) % 64 ≡ k = omega arith in
    record {
      from = omega arith;
      is = ap (λ v. is_one (word_at words v) ((64 * w + k) % 64)) place ∙ ap (is_one (word_at words w)) bit ∙ next.is;
      between = λ i low high.
          ⊎_elim
          (λ (before : i < 64 * w + from). past i low before)
          (λ (within : 64 * w + from ≤ i).
          let there : i / 64 ≡ w = omega arith in
          let at_least : from ≤ i % 64 = omega arith in
          let below : i % 64 < k = omega arith in
          ap (λ v. is_one (word_at words v) (i % 64)) there ∙ next.between (i % 64) at_least below)
          (cases_lt i (64 * w + from));
    }

-- the same, if the rest of word w has no bit
pub none_in : (words : List ℕ) (p w from : ℕ) → from ≤ 64 → ((i : ℕ) → p ≤ i → i < 64 * w + from → has words i ≡ false)
    → ((i : ℕ) → from ≤ i → is_one (word_at words w) i ≡ false)
    → (i : ℕ) → p ≤ i → i < 64 * (w + 1) → has words i ≡ false
none_in words p w from small past none i low high =
    ⊎_elim
    (λ (before : i < 64 * w + from). past i low before)
    (λ (within : 64 * w + from ≤ i).
    let there : i / 64 ≡ w = omega arith in
    let at_least : from ≤ i % 64 = omega arith in
    ap (λ v. is_one (word_at words v) (i % 64)) there ∙ none (i % 64) at_least)
    (cases_lt i (64 * w + from))

-- ---- words with a summary

abbrev Sums : List ℕ → List ℕ → Type 0
Sums words summary = (w : ℕ) → has summary w ≡ not (eqb (word_at words w) 0)

-- a word without its summary bit is 0
word_zero : (words summary : List ℕ) (w : ℕ) → Sums words summary → has summary w ≡ false → word_at words w ≡ 0
word_zero words summary w h none = eqb-true (word_at words w) 0 (not-false (eqb (word_at words w) 0) (sym (h w) ∙ none))

-- a word with its summary bit isn't 0
pub word_some : (words summary : List ℕ) (w : ℕ) → Sums words summary → has summary w ≡ true → 0 < word_at words w
word_some words summary w h some =
    let ne : word_at words w ≢ 0 = λ zero. false≢true (sym (h w ∙ ap not (eq-eqb (word_at words w) 0 zero)) ∙ some) in
    omega arith

pub word_there : (words summary : List ℕ) (w : ℕ) → Sums words summary → has summary w ≡ true → w < length words
word_there words summary w h some =
    ⊎_elim (λ lt. lt) (λ ge. absurd (let zero : word_at words w ≡ 0 = get_or_past words w 0 ge in omega (arith, word_some words summary w h some, zero)))
    (cases_lt w (length words))

-- no bit up to word v, by the summary
pub none_between : (words summary : List ℕ) (p w v : ℕ) → Sums words summary → ((i : ℕ) → p ≤ i → i < 64 * (w + 1) → has words i ≡ false)
    → ((i : ℕ) → w + 1 ≤ i → i < v → has summary i ≡ false) → (i : ℕ) → p ≤ i → i < 64 * v → has words i ≡ false
none_between words summary p w v h near far i low high =
    ⊎_elim
    (λ (before : i < 64 * (w + 1)). near i low before)
    (λ (behind : 64 * (w + 1) ≤ i).
    let from : w + 1 ≤ i / 64 = omega arith in
    let below : i / 64 < v = omega arith in
    has_zero words i (word_zero words summary (i / 64) h (far (i / 64) from below)))
    (cases_lt i (64 * (w + 1)))

pub none_behind : (words summary : List ℕ) (p w : ℕ) → Sums words summary → ((i : ℕ) → p ≤ i → i < 64 * (w + 1) → has words i ≡ false)
    → ((i : ℕ) → w + 1 ≤ i → has summary i ≡ false) → (i : ℕ) → p ≤ i → has words i ≡ false
none_behind words summary p w h near far i low =
    none_between words summary p w (i / 64 + 1) h near (λ j from below. far j from) i low (omega arith)

-- the same from p on, if the rest of p's word has no bit
pub none_near : (words : List ℕ) (p : ℕ) → ((i : ℕ) → p % 64 ≤ i → is_one (word_at words (p / 64)) i ≡ false) → (i : ℕ) → p ≤ i → i < 64 * (p / 64 + 1)
    → has words i ≡ false
none_near words p none =
    none_in words p (p / 64) (p % 64) (omega arith) (λ i low high. absurd (omega arith)) none

pub next_near : (words : List ℕ) (p k : ℕ) → k < 64 → IsNext (is_one (word_at words (p / 64))) (p % 64) k → IsNext (has words) p (64 * (p / 64) + k)
next_near words p k small next =
    next_in words p (p / 64) (p % 64) k (omega arith) small (λ i low high. absurd (omega arith)) next

pub next_far : (words summary : List ℕ) (p v k : ℕ) → Sums words summary → k < 64 → ((i : ℕ) → p % 64 ≤ i → is_one (word_at words (p / 64)) i ≡ false)
    → IsNext (has summary) (p / 64 + 1) v → IsNext (is_one (word_at words v)) 0 k → IsNext (has words) p (64 * v + k)
next_far words summary p v k h small none far next =
    let up : p / 64 + 1 ≤ v = far.from in
    next_in words p v 0 k (omega arith) small
    (λ i low high. none_between words summary p (p / 64) v h (none_near words p none) far.between i low (omega arith)) next

pub lowest_of : (word : ℕ) → word < 2 ^ 64 → 0 < word → IsNext (is_one word) 0 (trailing_zeros w64 word) × (trailing_zeros w64 word < 64)
lowest_of word fits some =
    let h = bit_at-trailing_zeros w64 word some fits in
    let next : IsNext (is_one word) 0 (trailing_zeros w64 word) = record {
      from = omega arith;
      is = one_is word (trailing_zeros w64 word) h.1;
      between = λ i low high. zero_is word i (h.2 i high);
    } in
    (next, h.0)
