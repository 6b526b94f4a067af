-- How often each number occurs determines an ascending list.
use Rattle.std.proofs.Common.{◌≡◌, ◌≤◌, ◌<◌, ◌+◌, ℕ, suc, Bool, true, false, cond, eqb, ltb, leb, List, [], ◌∷◌, ◌++◌, length, get_or, refl, sym, ap, ◌∙◌}
use Rattle.std.proofs.Common.{arith}
use Rattle.std.specs.List.{sum_by}
use Rattle.std.specs.List.Sorted.{IsPermutation, IsSorted, IsNonDecreasingBy}
use Rattle.std.specs.Ordering.{nat_cmp}
use Rattle.std.proofs.lemmas.List.Sums.{sum_by-cons}
use Rattle.std.proofs.lemmas.List.Sorted.{sum_by-IsPermutation, IsNonDecreasingBy-from_sort}
use Rattle.std.proofs.lemmas.Bool.{eqb-true, eq-eqb, leb-true, leb-false, ltb-true, ltb-false}
use Rattle.driver_core.specs.Ascending.{placed, ascending, times, Ascends}

-- 1 if a test holds, else 0
abbrev once : Bool → ℕ
once b = cond b 1 0

one-same : (n : ℕ) → once (eqb n n) ≡ 1
one-same n = ap once (eq-eqb n n refl)

one-other-by : (c n : ℕ) (b : Bool) → eqb c n ≡ b → c < n → once b ≡ 0
one-other-by c n true e h = let k = eqb-true c n e in absurd (omega (arith, h, k))
one-other-by c n false e h = refl

one-other : (c n : ℕ) → c < n → once (eqb c n) ≡ 0
one-other c n h = one-other-by c n (eqb c n) refl h

-- ---- placing

times-placed-by : (c n m : ℕ) (ms : List ℕ) (b : Bool) → times c (placed n ms) ≡ once (eqb c n) + times c ms
    → times c (cond b (n ∷ m ∷ ms) (m ∷ placed n ms)) ≡ once (eqb c n) + (once (eqb c m) + times c ms)
times-placed-by c n m ms true h = refl
times-placed-by c n m ms false h = omega (arith, h)

times-placed : (c n : ℕ) (ms : List ℕ) → times c (placed n ms) ≡ once (eqb c n) + times c ms
times-placed c n [] = refl
times-placed c n (m ∷ ms) = times-placed-by c n m ms (leb n m) (times-placed c n ms)

pub times-ascending : (c : ℕ) (ns : List ℕ) → times c (ascending ns) ≡ times c ns
times-ascending c [] = refl
times-ascending c (n ∷ ns) = times-placed c n (ascending ns) ∙ ap (λ k. once (eqb c n) + k) (times-ascending c ns)

length-placed-by : (n m : ℕ) (ms : List ℕ) (b : Bool) → length (placed n ms) ≡ suc (length ms)
    → length (cond b (n ∷ m ∷ ms) (m ∷ placed n ms)) ≡ suc (suc (length ms))
length-placed-by n m ms true h = refl
length-placed-by n m ms false h = ap suc h

length-placed : (n : ℕ) (ms : List ℕ) → length (placed n ms) ≡ suc (length ms)
length-placed n [] = refl
length-placed n (m ∷ ms) = length-placed-by n m ms (leb n m) (length-placed n ms)

pub length-ascending : (ns : List ℕ) → length (ascending ns) ≡ length ns
length-ascending [] = refl
length-ascending (n ∷ ns) = length-placed n (ascending ns) ∙ ap suc (length-ascending ns)

placed-ascends-by : (least n m : ℕ) (ms : List ℕ) (b : Bool) → leb n m ≡ b → least ≤ n → least ≤ m → Ascends m ms → (m ≤ n → Ascends m (placed n ms))
    → Ascends least (cond b (n ∷ m ∷ ms) (m ∷ placed n ms))
placed-ascends-by least n m ms true e h k a rest = (h, (leb-true n m e, a))
placed-ascends-by least n m ms false e h k a rest = let below = leb-false n m e in (k, rest (omega (arith, below)))

placed-ascends : (least n : ℕ) (ms : List ℕ) → least ≤ n → Ascends least ms → Ascends least (placed n ms)
placed-ascends least n [] h a = (h, tt)
placed-ascends least n (m ∷ ms) h a = placed-ascends-by least n m ms (leb n m) refl h a.0 a.1 (λ k. placed-ascends m n ms k a.1)

pub ascending-ascends : (ns : List ℕ) → Ascends 0 (ascending ns)
ascending-ascends [] = tt
ascending-ascends (n ∷ ns) = placed-ascends 0 n (ascending ns) (omega arith) (ascending-ascends ns)

-- ---- uniqueness

pub ascends-from : (low least : ℕ) (ns : List ℕ) → low ≤ least → Ascends least ns → Ascends low ns
ascends-from low least [] h a = tt
ascends-from low least (n ∷ ns) h a = let k = a.0 in (omega (arith, h, k), a.1)

times-below : (c least : ℕ) (ns : List ℕ) → Ascends least ns → c < least → times c ns ≡ 0
times-below c least [] a h = refl
times-below c least (n ∷ ns) a h =
    let k = a.0 in
    let below : c < n = omega (arith, h, k) in
    let o = one-other c n below in
    let t = times-below c n ns a.1 below in
    omega (arith, o, t)

-- the first of a list isn't below another's with the same counts
not-below : (x y : ℕ) (xs ys : List ℕ) → Ascends y ys → times x (x ∷ xs) ≡ times x (y ∷ ys) → x < y → ⊥
not-below x y xs ys a h l =
    let o = one-same x in
    let t = times-below x y (y ∷ ys) (omega arith, a) l in
    absurd (omega (arith, o, t, h))

first-by : (x y : ℕ) (b : Bool) → ltb x y ≡ b → (x < y → ⊥) → y ≤ x
first-by x y true e h = absurd (h (ltb-true x y e))
first-by x y false e h = ltb-false x y e

pub same : (low least : ℕ) (xs ys : List ℕ) → Ascends low xs → Ascends least ys → ((c : ℕ) → times c xs ≡ times c ys) → xs ≡ ys
same low least [] [] a b h = refl
same low least [] (y ∷ ys) a b h = let o = one-same y in let k = h y in absurd (omega (arith, o, k))
same low least (x ∷ xs) [] a b h = let o = one-same x in let k = h x in absurd (omega (arith, o, k))
same low least (x ∷ xs) (y ∷ ys) a b h =
    let up = first-by x y (ltb x y) refl (not-below x y xs ys b.1 (h x)) in
    let down = first-by y x (ltb y x) refl (not-below y x ys xs a.1 (sym (h y))) in
    let e : x ≡ y = omega (arith, up, down) in
    let rest = same x y xs ys a.1 b.1 (λ c. let k = h c in let o = ap (λ n. once (eqb c n)) e in omega (arith, k, o)) in
    λ i. e i ∷ rest i

-- ---- a sort

times-sum : (c : ℕ) (xs : List ℕ) → times c xs ≡ sum_by (λ n. once (eqb c n)) xs
times-sum c [] = refl
times-sum c (x ∷ xs) = ap (λ k. once (eqb c x) + k) (times-sum c xs) ∙ sym (sum_by-cons (λ n. once (eqb c n)) x xs)

times-permutation : (c : ℕ) (xs ys : List ℕ) → IsPermutation xs ys → times c ys ≡ times c xs
times-permutation c xs ys p = times-sum c ys ∙ sum_by-IsPermutation (λ n. once (eqb c n)) xs ys p ∙ sym (times-sum c xs)

rises : (least : ℕ) (xs : List ℕ) → ((d : ℕ) → 0 < length xs → least ≤ get_or xs 0 d) → IsNonDecreasingBy (λ n. n) xs → Ascends least xs
rises least [] h s = tt
rises least (x ∷ xs) h s = (
  h x (omega arith),
  rises x xs (λ d l. s 0 1 d (omega arith) (omega arith))
      (λ i j d l k. s (suc i) (suc j) d (omega arith) (omega arith)),
)

-- the sorted list is the list in ascending order
pub sorted-ascending : (xs ys : List ℕ) → IsPermutation xs ys → IsSorted nat_cmp ys → ys ≡ ascending xs
sorted-ascending xs ys p s =
    same 0 0 ys (ascending xs) (rises 0 ys (λ d l. omega arith) (IsNonDecreasingBy-from_sort (λ n. n) ys s)) (ascending-ascends xs)
    (λ c. times-permutation c xs ys p ∙ sym (times-ascending c xs))

-- lists with the same numbers are the same once sorted
pub one-order : (xs ys : List ℕ) → ((c : ℕ) → times c xs ≡ times c ys) → ascending xs ≡ ascending ys
one-order xs ys h = same 0 0 (ascending xs) (ascending ys) (ascending-ascends xs) (ascending-ascends ys) (λ c. times-ascending c xs ∙ h c
    ∙ sym (times-ascending c ys))

pub times-append : (c : ℕ) (xs ys : List ℕ) → times c (xs ++ ys) ≡ times c xs + times c ys
times-append c [] ys = omega arith
times-append c (x ∷ xs) ys = let h = times-append c xs ys in omega (arith, h)
