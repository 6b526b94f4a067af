-- The numbers below a count that pass a test, and parts of lists.
use Rattle.std.proofs.Common.{◌≡◌, ℕ, zero, suc, ◌+◌, ◌<◌, ◌≤◌, Bool, true, false, cond, List, [], ◌∷◌, ◌++◌, length, map, take, drop, All, refl, ap, sym, ◌∙◌}
use Rattle.std.proofs.Common.{subst, ⊎_elim, arith}
use Rattle.std.specs.Prelude.{filter, Contains}
use Rattle.std.specs.List.{AllByRecursion, range_with_len}
use Rattle.std.proofs.lemmas.Bool.{cases_lt}
use Rattle.std.proofs.lemmas.List.{map-append}
use Rattle.std.proofs.Math.Seq.{take-add}
use Rattle.std.proofs.lemmas.List.Elements.{filter_passes}

from-more : (test : ℕ → Bool) (first n last : ℕ) → first + n ≡ last → filter test (range_with_len first (suc n)) ≡ filter test (range_with_len first n)
    ++ cond (test last) (last ∷ []) []
from-more test first zero last e = let same : first ≡ last = omega (arith, e) in ap (λ k. cond (test k) (k ∷ []) []) same
from-more test first (suc n) last e =
    by (test first) (filter test (range_with_len (first + 1) (suc n))) (filter test (range_with_len (first + 1) n)) (cond (test last) (last ∷ []) [])
    (from-more test (first + 1) n last (omega (arith, e)))
  where
    by : (b : Bool) (whole front one : List ℕ) → whole ≡ front ++ one → cond b (first ∷ whole) whole ≡ cond b (first ∷ front) front ++ one
    by true whole front one h = ap (λ xs. first ∷ xs) h
    by false whole front one h = h

-- one number more
pub numbers-more : (test : ℕ → Bool) (n : ℕ) → filter test (range_with_len 0 (n + 1)) ≡ filter test (range_with_len 0 n) ++ cond (test n) (n ∷ []) []
numbers-more test n = let next : n + 1 ≡ suc n = omega arith in ap (λ k. filter test (range_with_len 0 k)) next ∙ from-more test 0 n n (omega arith)

-- the same numbers pass two tests that agree
from-same : (f g : ℕ → Bool) (first n : ℕ) → ((k : ℕ) → k < first + n → f k ≡ g k) → filter f (range_with_len first n) ≡ filter g (range_with_len first n)
from-same f g first zero h = refl
from-same f g first (suc n) h =
    ap (λ b. cond b (first ∷ filter f (range_with_len (first + 1) n)) (filter f (range_with_len (first + 1) n))) (h first (omega arith))
    ∙ ap (λ xs. cond (g first) (first ∷ xs) xs) (from-same f g (first + 1) n (λ k l. h k (omega (arith, l))))

pub numbers-same : (f g : ℕ → Bool) (n : ℕ) → ((k : ℕ) → f k ≡ g k) → filter f (range_with_len 0 n) ≡ filter g (range_with_len 0 n)
numbers-same f g n h = from-same f g 0 n (λ k l. h k)

-- ---- what is among them

pub number-passes : (test : ℕ → Bool) (xs : List ℕ) (n : ℕ) → Contains (filter test xs) n → test n ≡ true
number-passes test xs n c = subst (λ m. test m ≡ true) c.2 (filter_passes test xs c.0 n c.1)

contains-first : (x n : ℕ) (xs : List ℕ) → x ≡ n → Contains (x ∷ xs) n
contains-first x n xs e = (0, omega arith, e)

contains-later : (x n : ℕ) (xs : List ℕ) → Contains xs n → Contains (x ∷ xs) n
contains-later x n xs c = let l : c.0 < length xs = c.1 in (suc c.0, omega arith, c.2)

from-has : (test : ℕ → Bool) (first count n : ℕ) → first ≤ n → n < first + count → test n ≡ true → Contains (filter test (range_with_len first count)) n
from-has test first zero n le lt t = absurd (omega arith)
from-has test first (suc count) n le lt t =
    ⊎_elim
    (λ (l : first < n). later (test first) (from-has test (first + 1) count n (omega arith) (omega arith) t))
    (λ (g : n ≤ first). let is : first ≡ n = omega arith in here (test first) (ap test is ∙ t) is)
    (cases_lt first n)
  where
    later : (b : Bool) → Contains (filter test (range_with_len (first + 1) count)) n
        → Contains (cond b (first ∷ filter test (range_with_len (first + 1) count)) (filter test (range_with_len (first + 1) count))) n
    later true c = contains-later first n (filter test (range_with_len (first + 1) count)) c
    later false c = c

    here : (b : Bool) → b ≡ true → first ≡ n
        → Contains (cond b (first ∷ filter test (range_with_len (first + 1) count)) (filter test (range_with_len (first + 1) count))) n
    here true e is = contains-first first n (filter test (range_with_len (first + 1) count)) is
    here false e is = cc

pub number-has : (test : ℕ → Bool) (count n : ℕ) → n < count → test n ≡ true → Contains (filter test (range_with_len 0 count)) n
number-has test count n lt t = from-has test 0 count n (omega arith) (omega arith) t

-- ---- all

pub all-from : {X : Type 0} (P : X → Type 0) (xs : List X) → AllByRecursion P xs → All P xs
all-from P [] h k d l = absurd (omega arith)
all-from P (x ∷ xs) h zero d l = h.0
all-from P (x ∷ xs) h (suc k) d l = all-from P xs h.1 k d (omega arith)

pub all-take : {X : Type 0} (P : X → Type 0) (n : ℕ) (xs : List X) → AllByRecursion P xs → AllByRecursion P (take n xs)
all-take P zero xs h = tt
all-take P (suc n) [] h = tt
all-take P (suc n) (x ∷ xs) h = (h.0, all-take P n xs h.1)

pub all-drop : {X : Type 0} (P : X → Type 0) (n : ℕ) (xs : List X) → AllByRecursion P xs → AllByRecursion P (drop n xs)
all-drop P zero xs h = h
all-drop P (suc n) [] h = tt
all-drop P (suc n) (x ∷ xs) h = all-drop P n xs h.1

-- ---- a group after another

pub group-more : {X : Type 0} (f : ℕ → X) (found new : List X) (wanted : List ℕ) (from count to : ℕ) → from + count ≡ to → found ≡ map f (take from wanted)
    → new ≡ found ++ map f (take count (drop from wanted)) → new ≡ map f (take to wanted)
group-more f found new wanted from count to e before more =
    more ∙ ap (λ xs. xs ++ map f (take count (drop from wanted))) before
    ∙ sym (map-append f (take from wanted) (take count (drop from wanted)))
    ∙ ap (map f) (sym (take-add from count wanted) ∙ ap (λ n. take n wanted) e)
