-- Lists by the bits of masks.
use Rattle.std.proofs.Common.{◌≡◌, ◌≢◌, ℕ, zero, suc, ◌+◌, ◌*◌, ◌%◌, ◌^◌, ◌<◌, ◌≤◌, Bool, true, false, cond, eqb, List, [], ◌∷◌, ◌++◌, length, get_or, set, map}
use Rattle.std.proofs.Common.{take, drop, bit_and, w64, refl, ap, sym, ◌∙◌, subst, ⊎_elim, arith}
use Rattle.std.specs.Prelude.{not, ◌&&◌, Vec}
use Rattle.std.specs.declared.alloc.Global.{Global}
use Rattle.std.specs.Int.{bit_at, bit_not, trailing_zeros}
use Rattle.std.proofs.lemmas.Bool.{cases_eq, true≢false, eq-eqb}
use Rattle.std.proofs.lemmas.List.{get_or-set_same, get_or-set_other, get_or-map, map-append, map-set, length-set, length-map, append-nil, ext_get_or}
use Rattle.std.proofs.lemmas.Nat.{and_le_l}
use Rattle.std.proofs.lemmas.Nat.Bits.{bit_at-trailing_zeros, bit_at_clear_same, bit_at_clear_other}
use Rattle.input_reads.specs.inner.Masks.{has, mask_at}
use Rattle.input_reads.specs.inner.Lists.{lists_in, list_at, with_number, IsPut, AreLists}
use Rattle.input_reads.proofs.ListLemmas.{numbers-more}
use Rattle.input_reads.proofs.MaskLemmas.{has-zero}

-- ---- the lowest bit taken away

abbrev cleared : ℕ → ℕ → ℕ
cleared rest k = bit_and rest (bit_not w64 (1 * 2 ^ k % 2 ^ 64))

cleared-same : (rest k : ℕ) → k < 64 → has (cleared rest k) k ≡ false
cleared-same rest k h = ap (λ x. eqb x 1) (bit_at_clear_same w64 rest k h)

cleared-other : (rest k j : ℕ) → k < 64 → j < 64 → j ≢ k → has (cleared rest k) j ≡ has rest j
cleared-other rest k j h i ne = ap (λ x. eqb x 1) (bit_at_clear_other w64 rest k h j i ne)

pub cleared-less : (rest k : ℕ) → k < 64 → has rest k ≡ true → cleared rest k < rest
cleared-less rest k h b =
    let le = and_le_l rest (bit_not w64 (1 * 2 ^ k % 2 ^ 64)) in
    ⊎_elim
    (λ (same : cleared rest k ≡ rest). absurd (true≢false (sym b ∙ ap (λ m. has m k) (sym same) ∙ cleared-same rest k h)))
    (λ (ne : cleared rest k ≢ rest). omega (arith, le, ne))
    (cases_eq (cleared rest k) rest)

pub lowest-has : (rest : ℕ) → 0 < rest → rest < 2 ^ 64 → (trailing_zeros w64 rest < 64) × (has rest (trailing_zeros w64 rest) ≡ true)
lowest-has rest some fits =
    let z = bit_at-trailing_zeros w64 rest some fits in
    (z.0, eq-eqb (bit_at rest (trailing_zeros w64 rest)) 1 z.1)

-- ---- a number put into lists

pub put-start : (mask n : ℕ) (old : List (List ℕ)) → IsPut mask mask n old old
put-start mask n old = record {
  many = refl;
  within = λ k l b. b;
  list = λ k l. none (list_at old k) (has mask k);
}
  where
    none : (xs : List ℕ) (b : Bool) → xs ≡ xs ++ cond (b && not b) (n ∷ []) []
    none xs true = sym (append-nil xs)
    none xs false = sym (append-nil xs)

pub put-more : (mask rest n k : ℕ) (old lists new : List (List ℕ)) → length old ≤ 64 → k < 64 → has rest k ≡ true → new ≡ with_number lists k n
    → IsPut mask rest n old lists → IsPut mask (cleared rest k) n old new
put-more mask rest n k old lists new few small b is h = subst (IsPut mask (cleared rest k) n old) (sym is) (record {
  many = length-set lists k (list_at lists k ++ n ∷ []) ∙ h.many;
  within = λ j l c. ⊎_elim
      (λ (e : j ≡ k). absurd (true≢false (sym c ∙ ap (has (cleared rest k)) e ∙ cleared-same rest k small)))
      (λ (ne : j ≢ k). h.within j l (sym (cleared-other rest k j small l ne) ∙ c))
      (cases_eq j k);
  list = λ j l. ⊎_elim
      (λ (e : j ≡ k). subst (λ i. list_at (with_number lists k n) i ≡ list_at old i ++ cond (has mask i && not (has (cleared rest k) i)) (n ∷ []) []) (sym e)
      (here (omega (arith, e, l))))
      (λ (ne : j ≢ k). get_or-set_other lists k j (list_at lists k ++ n ∷ []) [] ne ∙ h.list j l
      ∙ ap (λ c. list_at old j ++ cond (has mask j && not c) (n ∷ []) []) (sym (cleared-other rest k j small (omega (arith, l, few)) ne)))
      (cases_eq j k);
})
  where
    by : (m r s : Bool) (xs ys : List ℕ) → m ≡ true → r ≡ true → s ≡ false → ys ≡ xs ++ cond (m && not r) (n ∷ []) []
        → ys ++ n ∷ [] ≡ xs ++ cond (m && not s) (n ∷ []) []
    by true true false xs ys d e f g = ap (λ zs. zs ++ n ∷ []) (g ∙ append-nil xs)
    by true true true xs ys d e f g = absurd (true≢false f)
    by true false s xs ys d e f g = absurd (true≢false (sym e))
    by false r s xs ys d e f g = absurd (true≢false (sym d))

    here : k < length old → list_at (with_number lists k n) k ≡ list_at old k ++ cond (has mask k && not (has (cleared rest k) k)) (n ∷ []) []
    here l =
        get_or-set_same lists k (list_at lists k ++ n ∷ []) [] (omega (arith, l, h.many))
        ∙ by (has mask k) (has rest k) (has (cleared rest k) k) (list_at old k) (list_at lists k) (h.within k small b) b (cleared-same rest k small)
        (h.list k l)

-- ---- one number after another

pub lists-start : (masks : List ℕ) (count : ℕ) (lists : List (List ℕ)) → length lists ≡ count → ((k : ℕ) → list_at lists k ≡ []) → AreLists masks 0 count lists
lists-start masks count lists many empty = record {
  many = many;
  list = λ k l. empty k;
}

pub lists-more : (masks : List ℕ) (n count : ℕ) (lists new : List (List ℕ)) → IsPut (mask_at masks n) 0 n lists new → AreLists masks n count lists
    → AreLists masks (n + 1) count new
lists-more masks n count lists new p h = record {
  many = p.many ∙ h.many;
  list = λ k l.
      p.list k (omega (arith, l, h.many)) ∙ ap (λ c. list_at lists k ++ cond (has (mask_at masks n) k && not c) (n ∷ []) []) (has-zero k)
      ∙ ap (λ c. list_at lists k ++ cond c (n ∷ []) []) (and-true (has (mask_at masks n) k))
      ∙ ap (λ xs. xs ++ cond (has (mask_at masks n) k) (n ∷ []) []) (h.list k l)
      ∙ sym (numbers-more (λ i. has (mask_at masks i) k) n);
}
  where
    and-true : (b : Bool) → (b && true) ≡ b
    and-true true = refl
    and-true false = refl

-- one more empty list
pub none-more : (lists : List (List ℕ)) → ((k : ℕ) → list_at lists k ≡ []) → (k : ℕ) → list_at (lists ++ [] ∷ []) k ≡ []
none-more [] h zero = refl
none-more [] h (suc k) = refl
none-more (x ∷ lists) h zero = h 0
none-more (x ∷ lists) h (suc k) = none-more lists (λ i. h (suc i)) k

-- all lists
pub lists-are : (f : ℕ → List ℕ) (wanted : List ℕ) (lists : List (List ℕ)) → length lists ≡ length wanted
    → ((k : ℕ) → k < length wanted → list_at lists k ≡ f (get_or wanted k 0))
    → lists ≡ map f wanted
lists-are f wanted lists many each =
    ext_get_or [] lists (map f wanted) (many ∙ sym (length-map wanted f))
    (λ k l. let lt : k < length wanted = omega (arith, l, many) in each k lt ∙ sym (get_or-map f wanted k 0 [] lt))

-- ---- the same of vectors

pub none-pushed : (vecs new : List (Vec ℕ Global)) (v : Vec ℕ Global) → new ≡ vecs ++ v ∷ [] → v.items ≡ [] → ((k : ℕ) → list_at (lists_in vecs) k ≡ [])
    → (k : ℕ) → list_at (lists_in new) k ≡ []
none-pushed vecs new v more is h k =
    ap (λ xs. list_at (lists_in xs) k) more ∙ ap (λ xs. list_at xs k) (map-append (λ (w : Vec ℕ Global). w.items) vecs (v ∷ []))
    ∙ ap (λ x. list_at (lists_in vecs ++ x ∷ []) k) is ∙ none-more (lists_in vecs) h k

pub put-one : (vecs : List (Vec ℕ Global)) (k n : ℕ) (d w : Vec ℕ Global) → k < length vecs → w.items ≡ (get_or vecs k d).items ++ n ∷ []
    → lists_in (set vecs k w) ≡ with_number (lists_in vecs) k n
put-one vecs k n d w h more =
    map-set (λ (u : Vec ℕ Global). u.items) vecs k w
    ∙ ap (set (lists_in vecs) k) (more ∙ ap (λ xs. xs ++ n ∷ []) (sym (get_or-map (λ (u : Vec ℕ Global). u.items) vecs k d [] h)))

-- a list that is written over a whole list replaces it
pub whole : {X : Type 0} (xs ys : List X) (n : ℕ) → length xs ≡ length ys → n ≡ length ys → take n (xs ++ drop (length xs) ys) ≡ xs
whole [] [] n e f = ap (λ k. take k []) f
whole [] (y ∷ ys) n e f = absurd (omega (arith, e))
whole (x ∷ xs) [] n e f = absurd (omega (arith, e))
whole (x ∷ xs) (y ∷ ys) zero e f = absurd (omega (arith, f))
whole (x ∷ xs) (y ∷ ys) (suc n) e f = ap (λ zs. x ∷ zs) (whole xs ys n (omega (arith, e)) (omega (arith, f)))
