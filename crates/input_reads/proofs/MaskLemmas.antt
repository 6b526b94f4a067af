-- Masks: one addition, the backward pass node by node, and the meaning of the bits at its end.
use Rattle.std.proofs.Common.{◌≡◌, ◌≢◌, ℕ, zero, suc, ◌+◌, ◌*◌, ◌%◌, ◌^◌, ◌<◌, ◌≤◌, Bool, true, false, eqb, List, length, set, bit_or, w64, refl, ap, sym, ◌∙◌}
use Rattle.std.proofs.Common.{subst, inl, inr, ⊎_elim, arith}
use Rattle.std.specs.Prelude.{◌||◌, ◌⊎◌, max}
use Rattle.std.specs.Int.{bit_at}
use Rattle.std.proofs.lemmas.Bool.{cases_eq, cases_lt, or_cases, or_left, or_right, true≢false, eq-eqb}
use Rattle.std.proofs.lemmas.List.{get_or-set_same, get_or-set_other, length-set}
use Rattle.std.proofs.lemmas.Nat.Bits.{bit_at-zero, bit_at-lt, bit_at_or, bit_at_set_same, bit_at_set_other}
use Rattle.definedness.specs.Facts.{Possible}
use Rattle.flat_code.specs.declared.program.Node.{Node}
use Rattle.flat_code.specs.Runs.{AreNodes}
use Rattle.input_reads.specs.Reads.{may_depend}
use Rattle.input_reads.specs.Steps.{Gives, Takes, Depends}
use Rattle.input_reads.specs.Steps.Depends.{input, argument}
use Rattle.input_reads.specs.inner.Masks.{has, mask_at, number_at, Adds, IsMarked, IsSpread, AreMasks}
use Rattle.input_reads.proofs.DependLemmas.{by-steps, by-test, takes-below}

-- ---- bits

pub has-zero : (k : ℕ) → has 0 k ≡ false
has-zero k = ap (λ x. eqb x 1) (bit_at-zero k)

max-one : (x y : ℕ) → x < 2 → y < 2 → eqb (max x y) 1 ≡ (eqb x 1 || eqb y 1)
max-one zero zero h i = refl
max-one zero (suc zero) h i = refl
max-one (suc zero) zero h i = refl
max-one (suc zero) (suc zero) h i = refl
max-one x (suc (suc y)) h i = absurd (omega arith)
max-one (suc (suc x)) y h i = absurd (omega arith)

has-or : (a b k : ℕ) → has (bit_or a b) k ≡ (has a k || has b k)
has-or a b k = ap (λ x. eqb x 1) (bit_at_or a b k) ∙ max-one (bit_at a k) (bit_at b k) (bit_at-lt a k) (bit_at-lt b k)

-- ---- a mask added to one number's

abbrev with_mask : List ℕ → ℕ → ℕ → List ℕ
with_mask masks x mask = set masks x (bit_or (mask_at masks x) mask)

with-same : (masks : List ℕ) (x mask k : ℕ) → x < length masks → has (mask_at (with_mask masks x mask) x) k ≡ (has (mask_at masks x) k || has mask k)
with-same masks x mask k h = ap (λ m. has m k) (get_or-set_same masks x (bit_or (mask_at masks x) mask) 0 h) ∙ has-or (mask_at masks x) mask k

with-other : (masks : List ℕ) (x y mask k : ℕ) → y ≢ x → has (mask_at (with_mask masks x mask) y) k ≡ has (mask_at masks y) k
with-other masks x y mask k ne = ap (λ m. has m k) (get_or-set_other masks x y (bit_or (mask_at masks x) mask) 0 ne)

pub add-one : (masks : List ℕ) (x mask : ℕ) (r : Bool) → r ≡ true → x < length masks → Adds (λ y. (r ≡ true) × (y ≡ x)) mask masks (with_mask masks x mask)
add-one masks x mask r reported h = record {
  size = length-set masks x (bit_or (mask_at masks x) mask);
  keeps = λ k y b. ⊎_elim
      (λ (is : y ≡ x). ap (λ z. has (mask_at (with_mask masks x mask) z) k) is ∙ with-same masks x mask k h
      ∙ or_left (has (mask_at masks x) k) (has mask k) (ap (λ z. has (mask_at masks z) k) (sym is) ∙ b))
      (λ (ne : y ≢ x). with-other masks x y mask k ne ∙ b)
      (cases_eq y x);
  adds = λ k y r b.
      ap (λ z. has (mask_at (with_mask masks x mask) z) k) r.1 ∙ with-same masks x mask k h ∙ or_right (has (mask_at masks x) k) (has mask k) b;
  only = λ k y b. ⊎_elim
      (λ (is : y ≡ x). ⊎_elim
      (λ old. inl (ap (λ z. has (mask_at masks z) k) is ∙ old))
      (λ new. inr ((reported, is), new))
      (or_cases (has (mask_at masks x) k) (has mask k) (sym (with-same masks x mask k h) ∙ ap (λ z. has (mask_at (with_mask masks x mask) z) k) (sym is) ∙ b)))
      (λ (ne : y ≢ x). inl (sym (with-other masks x y mask k ne) ∙ b))
      (cases_eq y x);
}

-- the same for what is read where a condition holds
pub adds-where : (cond : Type 0) (read : ℕ → Type 0) (mask : ℕ) (old new : List ℕ) → cond → Adds read mask old new → Adds (λ x. cond × read x) mask old new
adds-where cond read mask old new holds a = record {
  size = a.size;
  keeps = a.keeps;
  adds = λ k x r b. a.adds k x r.1 b;
  only = λ k x b. ⊎_elim (λ o. inl o) (λ r. inr ((holds, r.0), r.1)) (a.only k x b);
}

-- nothing is added where the mask has no bit, or nothing is read
pub adds-nothing : (read : ℕ → Type 0) (mask : ℕ) (old : List ℕ) → mask ≡ 0 → Adds read mask old old
adds-nothing read mask old none = record {
  size = refl;
  keeps = λ k x b. b;
  adds = λ k x r b. absurd (true≢false (sym b ∙ ap (λ m. has m k) none ∙ has-zero k));
  only = λ k x b. inl b;
}

pub adds-unread : (read : ℕ → Type 0) (mask : ℕ) (old : List ℕ) → ((x : ℕ) → read x → ⊥) → Adds read mask old old
adds-unread read mask old none = record {
  size = refl;
  keeps = λ k x b. b;
  adds = λ k x r b. absurd (none x r);
  only = λ k x b. inl b;
}

-- ---- requested nodes

pub none-marked : (wanted masks : List ℕ) → ((k x : ℕ) → has (mask_at masks x) k ≡ false) → IsMarked wanted 0 masks
none-marked wanted masks none = record {
  marks = λ k l. absurd (omega arith);
  only = λ k x b. absurd (true≢false (sym b ∙ none k x));
}

abbrev with_bit : List ℕ → ℕ → ℕ → List ℕ
with_bit masks x k = with_mask masks x (1 * 2 ^ k % 2 ^ 64)

bit-same : (masks : List ℕ) (x k : ℕ) → x < length masks → k < 64 → has (mask_at (with_bit masks x k) x) k ≡ true
bit-same masks x k h small =
    ap (λ m. has m k) (get_or-set_same masks x (bit_or (mask_at masks x) (1 * 2 ^ k % 2 ^ 64)) 0 h)
    ∙ eq-eqb (bit_at (bit_or (mask_at masks x) (1 * 2 ^ k % 2 ^ 64)) k) 1 (bit_at_set_same w64 (mask_at masks x) k small)

bit-other : (masks : List ℕ) (x y k j : ℕ) → x < length masks → k < 64 → j ≢ k → has (mask_at (with_bit masks x k) y) j ≡ has (mask_at masks y) j
bit-other masks x y k j h small ne = ⊎_elim
    (λ (is : y ≡ x). ap (λ z. has (mask_at (with_bit masks x k) z) j) is
    ∙ ap (λ m. has m j) (get_or-set_same masks x (bit_or (mask_at masks x) (1 * 2 ^ k % 2 ^ 64)) 0 h)
    ∙ ap (λ b. eqb b 1) (bit_at_set_other w64 (mask_at masks x) k small j ne)
    ∙ ap (λ z. has (mask_at masks z) j) (sym is))
    (λ (other : y ≢ x). with-other masks x y (1 * 2 ^ k % 2 ^ 64) j other)
    (cases_eq y x)

-- one requested node more
pub marked-more : (wanted masks : List ℕ) (k x : ℕ) → x ≡ number_at wanted k → x < length masks → k < 64 → IsMarked wanted k masks
    → IsMarked wanted (k + 1) (with_bit masks x k)
marked-more wanted masks k x e h small m = record {
  marks = λ j l. ⊎_elim
      (λ (is : j ≡ k). subst (λ i. has (mask_at (with_bit masks x k) (number_at wanted i)) i ≡ true) (sym is)
      (ap (λ z. has (mask_at (with_bit masks x k) z) k) (sym e) ∙ bit-same masks x k h small))
      (λ (ne : j ≢ k). bit-other masks x (number_at wanted j) k j h small ne ∙ m.marks j (omega arith))
      (cases_eq j k);
  only = λ j y b. ⊎_elim
      (λ (is : j ≡ k). ⊎_elim
      (λ (same : y ≡ x). let lt : j < k + 1 = omega arith in (lt, same ∙ e ∙ ap (number_at wanted) (sym is)))
      (λ (ne : y ≢ x). let z = m.only j y (sym (with-other masks x y (1 * 2 ^ k % 2 ^ 64) j ne) ∙ b) in let l : j < k = z.0 in absurd (omega arith))
      (cases_eq y x))
      (λ (ne : j ≢ k). let z = m.only j y (sym (bit-other masks x y k j h small ne) ∙ b) in let l : j < k = z.0 in let lt : j < k + 1 = omega arith in
      (lt, z.1))
      (cases_eq j k);
}

-- ---- back through the nodes

-- before the first
pub spread-start : (known : List Possible) (nodes : List Node) (wanted masks found : List ℕ) → ((k : ℕ) → k < length wanted → number_at wanted k < length nodes)
    → ((n : ℕ) → mask_at found n ≡ 0) → IsMarked wanted (length wanted) masks → IsSpread known nodes wanted (length nodes) masks found
spread-start known nodes wanted masks found within none m = record {
  node = λ k q n l b d. subst (Depends known nodes n) (m.only k q b).1 d;
  input = λ k n l b. absurd (true≢false (sym b ∙ ap (λ mask. has mask k) (none n) ∙ has-zero k));
  left = λ k n l d. inr (number_at wanted k, within k l, m.marks k l, d);
}

-- one node
pub spread-step : (known : List Possible) (nodes : List Node) (inputs : ℕ) (wanted : List ℕ) (p q : ℕ) (masks found masks' found' : List ℕ)
    → AreNodes inputs 0 nodes → p ≡ q + 1
    → Adds (Takes known nodes q) (mask_at masks q) masks masks' → Adds (Gives known nodes q) (mask_at masks q) found found'
    → IsSpread known nodes wanted p masks found → IsSpread known nodes wanted q masks' found'
spread-step known nodes inputs wanted p q masks found masks' found' valid next a b s = record {
  node = λ k x n l h d. ⊎_elim (λ old. s.node k x n l old d) (λ r. s.node k q n l r.1 (argument r.0 d)) (a.only k x h);
  input = λ k n l h. ⊎_elim (λ old. s.input k n l old) (λ r. s.node k q n l r.1 (input r.0)) (b.only k n h);
  left = λ k n l d. ⊎_elim
      (λ f. inl (b.keeps k n f))
      (λ r. ⊎_elim
      (λ (lt : r.0 < q). inr (r.0, lt, a.keeps k r.0 r.2, r.3))
      (λ (ge : q ≤ r.0).
      let below : r.0 < p = r.1 in
      let is : r.0 ≡ q = omega arith in
      go k n (subst (λ x. has (mask_at masks x) k ≡ true) is r.2) (subst (Depends known nodes n) is r.3))
      (cases_lt r.0 q))
      (s.left k n l d);
}
  where
    go : (k n : ℕ) → has (mask_at masks q) k ≡ true → Depends known nodes n q
        → (has (mask_at found' n) k ≡ true) ⊎ ((x : ℕ) × (x < q) × (has (mask_at masks' x) k ≡ true) × Depends known nodes n x)
    go k n bit (input g) = inl (b.adds k n g bit)
    go k n bit (argument {x} t d) = inr (x, takes-below known nodes inputs q x valid t, a.adds k x t bit, d)

both-ways : (a b : Bool) → (a ≡ true → b ≡ true) → (b ≡ true → a ≡ true) → a ≡ b
both-ways true b f g = sym (f refl)
both-ways false true f g = g refl
both-ways false false f g = refl

-- after the last
pub spread-end : (known : List Possible) (nodes : List Node) (inputs : ℕ) (wanted masks found : List ℕ) → AreNodes inputs 0 nodes
    → IsSpread known nodes wanted 0 masks found
    → AreMasks known nodes wanted found
spread-end known nodes inputs wanted masks found valid s = record {
  bit = λ k n l. both-ways (has (mask_at found n) k) (may_depend known nodes (number_at wanted k) n)
      (λ b. by-test known nodes inputs n (number_at wanted k) valid (s.input k n l b))
      (λ b. ⊎_elim (λ f. f) (λ r. let none : r.0 < 0 = r.1 in absurd (omega arith))
      (s.left k n l (by-steps known nodes inputs (number_at wanted k) n valid b)));
}
