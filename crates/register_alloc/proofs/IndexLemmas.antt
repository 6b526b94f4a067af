-- Slots with their index and their free list, one change after another.
use Rattle.std.proofs.Common.{◌≡◌, ◌≢◌, ℕ, zero, suc, ◌+◌, ◌<◌, ◌≤◌, true, cond, eqb, ◌⊎◌, List, [], ◌∷◌, ◌++◌, length, set, Option, None, Some, is_some, refl}
use Rattle.std.proofs.Common.{ap, sym, ◌∙◌, subst, inl, inr, ⊎_elim, arith}
use Rattle.std.proofs.lemmas.Bool.{cases_eq, cases_lt, eq-eqb, ne_eqb}
use Rattle.std.proofs.lemmas.List.{get_or_push, get_or_past, get_or_append_left, length_push, length-set}
use Rattle.std.proofs.lemmas.List.Sums.{sum_by_push}
use Rattle.reg_machine.specs.Flow.{put}
use Rattle.register_alloc.specs.inner.Tables.{look}
use Rattle.register_alloc.specs.inner.Index.{times, IsIndexed}
use Rattle.register_alloc.proofs.TableLemmas.{put-same, put-other, put-cases, none≢some, look-set, look-within}

times-push : (j k : ℕ) (free : List ℕ) → times j (free ++ k ∷ []) ≡ times j free + cond (eqb k j) 1 0
times-push j k free = sum_by_push (λ y. cond (eqb y j) 1 0) free k

times-same : (k : ℕ) (free : List ℕ) → times k (free ++ k ∷ []) ≡ times k free + 1
times-same k free = times-push k k free ∙ ap (λ b. times k free + cond b 1 0) (eq-eqb k k refl)

times-other : (j k : ℕ) (free : List ℕ) → j ≢ k → times j (free ++ k ∷ []) ≡ times j free
times-other j k free ne =
    let none : times j free + 0 ≡ times j free = omega arith in
    times-push j k free ∙ ap (λ b. times j free + cond b 1 0) (ne_eqb k j (λ e. ne (sym e))) ∙ none

same-number : (x y : ℕ) → Some x ≡ Some y → x ≡ y
same-number x y e = cc

put-none : (f : ℕ → Option ℕ) (k j y : ℕ) → put f k None j ≡ Some y → (j ≢ k) × (f j ≡ Some y)
put-none f k j y e =
    let ne : j ≢ k = λ is. none≢some y (sym (put-same f k None) ∙ subst (λ i. put f k None i ≡ Some y) is e) in
    (ne, sym (put-other f k None j ne) ∙ e)

-- the entries after an entry is set that was free
put-free : (f : ℕ → Option ℕ) (k x j : ℕ) → put f k (Some x) j ≡ None → (j ≢ k) × (f j ≡ None)
put-free f k x j e =
    let ne : j ≢ k = λ is. none≢some x (sym (subst (λ i. put f k (Some x) i ≡ None) is e) ∙ put-same f k (Some x)) in
    (ne, sym (put-other f k (Some x) j ne) ∙ e)

-- a node that is in no slot gets a slot without an owner
placed-put : (owners places : ℕ → Option ℕ) (k x : ℕ) → ((j y : ℕ) → owners j ≡ Some y → places y ≡ Some j) → ((j : ℕ) → owners j ≡ Some x → ⊥) → (j y : ℕ)
    → put owners k (Some x) j ≡ Some y → put places x (Some k) y ≡ Some j
placed-put owners places k x placed away j y e =
    ⊎_elim
    (λ p. subst (λ z. put places x (Some k) z ≡ Some j) p.1 (put-same places x (Some k) ∙ ap (λ (n : ℕ). Some n) (sym p.0)))
    (λ p. let ne : y ≢ x = λ is. away j (p.1 ∙ ap (λ (n : ℕ). Some n) is) in put-other places x (Some k) y ne ∙ placed j y p.1)
    (put-cases owners k x j y e)

owned-put : (owners places : ℕ → Option ℕ) (k x : ℕ) → ((y j : ℕ) → places y ≡ Some j → owners j ≡ Some y) → owners k ≡ None → (y j : ℕ)
    → put places x (Some k) y ≡ Some j → put owners k (Some x) j ≡ Some y
owned-put owners places k x owned free y j e =
    ⊎_elim
    (λ p. subst (λ z. put owners k (Some x) z ≡ Some y) p.1 (put-same owners k (Some x) ∙ ap (λ (n : ℕ). Some n) (sym p.0)))
    (λ p. let there = owned y j p.1 in
    let ne : j ≢ k = λ is. none≢some y (sym free ∙ ap owners (sym is) ∙ there) in
    put-other owners k (Some x) j ne ∙ there)
    (put-cases places x k y j e)

-- the last of the free slots
pub free-last : {owners places : ℕ → Option ℕ} {n : ℕ} (free : List ℕ) (k : ℕ) → IsIndexed owners places n (free ++ k ∷ []) → (k < n) × (owners k ≡ None)
free-last {owners} {places} {n} free k h = h.empty k (omega (arith, times-same k free))

pub indexed-reuse : {owners places : ℕ → Option ℕ} {n : ℕ} (free : List ℕ) (k x : ℕ) → IsIndexed owners places n (free ++ k ∷ [])
    → ((j : ℕ) → owners j ≡ Some x → ⊥) → IsIndexed (put owners k (Some x)) (put places x (Some k)) n free
indexed-reuse {owners} {places} {n} free k x h away =
    let last = free-last free k h in
    let once : times k free ≡ 0 = let one = h.listed k last.0 last.1 in omega (arith, times-same k free) in
    record {
      placed = placed-put owners places k x h.placed away;
      owned = owned-put owners places k x h.owned last.1;
      empty = λ j some.
          let ne : j ≢ k = λ is. let none : times j free ≡ 0 = ap (λ i. times i free) is ∙ once in absurd (omega arith) in
          let more : 0 < times j (free ++ k ∷ []) = omega (arith, times-other j k free ne) in
          ((h.empty j more).0, put-other owners k (Some x) j ne ∙ (h.empty j more).1);
      listed = λ j lt e. let p = put-free owners k x j e in sym (times-other j k free p.0) ∙ h.listed j lt p.1;
    }

pub indexed-new : {owners places : ℕ → Option ℕ} {n : ℕ} (x : ℕ) → IsIndexed owners places n [] → owners n ≡ None → ((j : ℕ) → owners j ≡ Some x → ⊥)
    → IsIndexed (put owners n (Some x)) (put places x (Some n)) (suc n) []
indexed-new {owners} {places} {n} x h past away = record {
  placed = placed-put owners places n x h.placed away;
  owned = owned-put owners places n x h.owned past;
  empty = λ j some. absurd (omega arith);
  listed = λ j lt e. let p = put-free owners n x j e in let ne : j ≢ n = p.0 in let lt' : j < n = omega arith in h.listed j lt' p.1;
}

-- a slot loses its owner
pub indexed-clear : {owners places : ℕ → Option ℕ} {n : ℕ} {free : List ℕ} (k x : ℕ) → IsIndexed owners places n free → owners k ≡ Some x → k < n
    → IsIndexed (put owners k None) (put places x None) n (free ++ k ∷ [])
indexed-clear {owners} {places} {n} {free} k x h at lt = record {
  placed = λ j y e.
      let p = put-none owners k j y e in
      let ne : y ≢ x = λ is. p.0 (same-number j k (sym (h.placed j x (p.1 ∙ ap (λ (m : ℕ). Some m) is)) ∙ h.placed k x at)) in
      put-other places x None y ne ∙ h.placed j y p.1;
  owned = λ y j e.
      let p = put-none places x y j e in
      let there = h.owned y j p.1 in
      let ne : j ≢ k = λ is. p.0 (same-number y x (sym there ∙ ap owners is ∙ at)) in
      put-other owners k None j ne ∙ there;
  empty = λ j some.
      ⊎_elim
      (λ (is : j ≡ k). (let z : j < n = omega arith in z, ap (put owners k None) is ∙ put-same owners k None))
      (λ (ne : j ≢ k). let more : 0 < times j free = omega (arith, times-other j k free ne) in (
        (h.empty j more).0,
        put-other owners k None j ne
            ∙ (h.empty j more).1,
      ))
      (cases_eq j k);
  listed = λ j lt e.
      ⊎_elim
      (λ (is : j ≡ k).
      let none : times k free ≡ 0 = ⊎_elim (λ z. z) (λ some. absurd (none≢some x (sym (h.empty k some).1 ∙ at))) (zero-or (times k free)) in
      ap (λ i. times i (free ++ k ∷ [])) is ∙ times-same k free ∙ ap (λ m. m + 1) none)
      (λ (ne : j ≢ k). times-other j k free ne ∙ h.listed j lt (sym (put-other owners k None j ne) ∙ e))
      (cases_eq j k);
}
  where
    zero-or : (m : ℕ) → (m ≡ 0) ⊎ (0 < m)
    zero-or zero = inl refl
    zero-or (suc m) = inr (omega arith)

-- an entry after the others
pub look-push : (table : List (Option ℕ)) (entry : Option ℕ) → put (look table) (length table) entry ≡ look (table ++ entry ∷ [])
look-push table entry =
    let each : (j : ℕ) → put (look table) (length table) entry j ≡ look (table ++ entry ∷ []) j = λ j.
    ⊎_elim
    (λ (is : j ≡ length table). subst (λ i. put (look table) (length table) entry i ≡ look (table ++ entry ∷ []) i) (sym is)
    (put-same (look table) (length table) entry ∙ sym (get_or_push table entry None (length table) refl)))
    (λ (ne : j ≢ length table). put-other (look table) (length table) entry j ne ∙ other j ne)
    (cases_eq j (length table)) in
    λ i. λ j. each j i
  where
    other : (j : ℕ) → j ≢ length table → look table j ≡ look (table ++ entry ∷ []) j
    other j ne = ⊎_elim
        (λ (lt : j < length table). sym (get_or_append_left table (entry ∷ []) None j lt))
        (λ (le : length table ≤ j). get_or_past table j None le ∙ sym (get_or_past (table ++ entry ∷ []) j None (omega (arith, length_push table entry))))
        (cases_lt j (length table))

-- `indexed-clear` of lists
pub indexed-cleared : (owners places : List (Option ℕ)) (free : List ℕ) (k x : ℕ) → IsIndexed (look owners) (look places) (length owners) free
    → look owners k ≡ Some x → IsIndexed (look (set owners k None)) (look (set places x None)) (length (set owners k None)) (free ++ k ∷ [])
indexed-cleared owners places free k x h at =
    let lt = look-within owners k x at in
    let lt' = look-within places x k (h.placed k x at) in
    subst (λ n. IsIndexed (look (set owners k None)) (look (set places x None)) n (free ++ k ∷ [])) (sym (length-set owners k None))
    (subst (λ f. IsIndexed f (look (set places x None)) (length owners) (free ++ k ∷ [])) (look-set owners k None lt)
    (subst (λ f. IsIndexed (put (look owners) k None) f (length owners) (free ++ k ∷ [])) (look-set places x None lt')
    (indexed-clear k x h at lt)))

-- the entries of a cleared list
pub cleared-only : (owners : List (Option ℕ)) (k x : ℕ) → ((i j y : ℕ) → look owners i ≡ Some y → look owners j ≡ Some y → i ≡ j) → look owners k ≡ Some x
    → (j y : ℕ) → look (set owners k None) j ≡ Some y → (look owners j ≡ Some y) × (y ≢ x)
cleared-only owners k x apart at j y e =
    let p = put-none (look owners) k j y (ap (λ f. f j) (look-set owners k None (look-within owners k x at)) ∙ e) in
    (p.1, λ is. p.0 (apart j k y p.1 (at ∙ ap (λ (n : ℕ). Some n) (sym is))))

pub indexed-apart : (owners places : ℕ → Option ℕ) (n : ℕ) (free : List ℕ) → IsIndexed owners places n free → (i j y : ℕ) → owners i ≡ Some y
    → owners j ≡ Some y → i ≡ j
indexed-apart owners places n free h i j y a b = same-number i j (sym (h.placed i y a) ∙ h.placed j y b)

-- `indexed-reuse` and `indexed-new` of lists, if the index was extended
pub indexed-reused : (owners places places' : List (Option ℕ)) (free : List ℕ) (k x : ℕ)
    → IsIndexed (look owners) (look places) (length owners) (free ++ k ∷ []) → ((j : ℕ) → look places' j ≡ look places j) → x < length places'
    → ((j : ℕ) → look owners j ≡ Some x → ⊥) → IsIndexed (look (set owners k (Some x))) (look (set places' x (Some k))) (length (set owners k (Some x))) free
indexed-reused owners places places' free k x h same lt away =
    let h' : IsIndexed (look owners) (look places') (length owners) (free ++ k ∷ []) = subst (λ f. IsIndexed (look owners) f (length owners) (free ++ k ∷ []))
    (λ i. λ j. sym (same j) i) h in
    subst (λ n. IsIndexed (look (set owners k (Some x))) (look (set places' x (Some k))) n free) (sym (length-set owners k (Some x)))
    (subst (λ f. IsIndexed f (look (set places' x (Some k))) (length owners) free) (look-set owners k (Some x) (free-last free k h).0)
    (subst (λ f. IsIndexed (put (look owners) k (Some x)) f (length owners) free) (look-set places' x (Some k) lt)
    (indexed-reuse free k x h' away)))

pub indexed-grown : (owners places places' : List (Option ℕ)) (x : ℕ) → IsIndexed (look owners) (look places) (length owners) []
    → ((j : ℕ) → look places' j ≡ look places j) → x < length places' → ((j : ℕ) → look owners j ≡ Some x → ⊥)
    → IsIndexed (look (owners ++ Some x ∷ [])) (look (set places' x (Some (length owners)))) (length (owners ++ Some x ∷ [])) []
indexed-grown owners places places' x h same lt away =
    let n = length owners in
    let h' : IsIndexed (look owners) (look places') n [] = subst (λ f. IsIndexed (look owners) f n []) (λ i. λ j. sym (same j) i) h in
    let size : suc n ≡ length (owners ++ Some x ∷ []) = omega (arith, length_push owners (Some x)) in
    subst (λ m. IsIndexed (look (owners ++ Some x ∷ [])) (look (set places' x (Some n))) m []) size
    (subst (λ f. IsIndexed f (look (set places' x (Some n))) (suc n) []) (look-push owners (Some x))
    (subst (λ f. IsIndexed (put (look owners) n (Some x)) f (suc n) []) (look-set places' x (Some n) lt)
    (indexed-new x h' (get_or_past owners n None (omega arith)) away)))

-- if no slot is free, all slots have owners
pub none-free : (owners places : ℕ → Option ℕ) (n : ℕ) → IsIndexed owners places n [] → (k : ℕ) → k < n → is_some (owners k) ≡ true
none-free owners places n h k lt = cases (owners k) (h.listed k lt)
  where
    cases : (o : Option ℕ) → (o ≡ None → ◌≡◌ {A = ℕ} 0 1) → is_some o ≡ true
    cases None f = absurd (let z : ◌≡◌ {A = ℕ} 0 1 = f refl in omega arith)
    cases (Some x) f = refl
