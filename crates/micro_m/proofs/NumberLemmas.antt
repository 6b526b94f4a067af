-- Numbers in lists: membership, and a bound on the length of lists of distinct numbers.
use Rattle.std.proofs.Common.{◌≡◌, ℕ, zero, suc, ◌<◌, ◌≤◌, ◌++◌, get_or, map, Bool, true, false, nat_eq, List, [], ◌∷◌, length, refl, ap, sym, ◌∙◌, subst}
use Rattle.std.proofs.Common.{arith}
use mathlib.Core.Bool.{◌||◌}
use Rattle.std.specs.List.{AllByRecursion, IsDistinct}
use Rattle.std.proofs.lemmas.Bool.Decides.{nat_tests}
use Rattle.std.proofs.lemmas.Cmp.{nat_eq_equiv}
use Rattle.std.proofs.lemmas.List.Folds.{list_any-append}
use Rattle.std.proofs.lemmas.Map.Made.{length-le_from_is_member}
use Rattle.micro_m.specs.Bases.{is_among, AreDistinctCells}

pub same : (a b : ℕ) → nat_eq a b ≡ true → a ≡ b
same a b t = grind (arith, nat_tests)

pub itself : (a : ℕ) → nat_eq a a ≡ true
itself a = grind (arith, nat_tests)

-- case split on a test, with its result
pub cases : (b : Bool) {P : Type 0} → (b ≡ true → P) → (b ≡ false → P) → P
cases true t f = t refl
cases false t f = f refl

pub or-false : (a b : Bool) → (a || b) ≡ false → (a ≡ false) × (b ≡ false)
or-false true b e = absurd (cc)
or-false false b e = (refl, e)

pub or-true : (a b : Bool) → b ≡ true → (a || b) ≡ true
or-true true b e = refl
or-true false b e = e

apart : (x : ℕ) (xs : List ℕ) → is_among x xs ≡ false → AllByRecursion (λ y. nat_eq x y ≡ false) xs
apart x [] h = tt
apart x (y ∷ ys) h = let k = or-false (nat_eq x y) (is_among x ys) h in (k.0, apart x ys k.1)

pub distinct : (xs : List ℕ) → AreDistinctCells xs → IsDistinct nat_eq xs
unfolding IsDistinct
distinct [] d = tt
distinct (x ∷ xs) d = (apart x xs d.0, distinct xs d.1)

-- a test can't be both true and false
pub clash : {b : Bool} → b ≡ true → b ≡ false → ⊥
clash t f = cc

-- the number at an index is a member
pub among-at : (xs : List ℕ) (i : ℕ) → i < length xs → is_among (get_or xs i 0) xs ≡ true
among-at [] i h = absurd (omega arith)
among-at (x ∷ xs) zero h = ap (λ b. b || is_among x xs) (itself x)
among-at (x ∷ xs) (suc i) h = or-true (nat_eq (get_or xs i 0) x) (is_among (get_or xs i 0) xs) (among-at xs i (omega arith))

-- and a member is at some index
pub place-among : (x : ℕ) (xs : List ℕ) → is_among x xs ≡ true → (i : ℕ) × (i < length xs) × (get_or xs i 0 ≡ x)
place-among x [] h = absurd (cc)
place-among x (y ∷ ys) h = cases (nat_eq x y)
    (λ (t : nat_eq x y ≡ true). (0, omega arith, sym (same x y t)))
    (λ (f : nat_eq x y ≡ false).
    let k = place-among x ys (ap (λ b. b || is_among x ys) (sym f) ∙ h) in
    (suc k.0, omega arith, k.2))

-- distinct numbers are at distinct indexes
pub place-one : (xs : List ℕ) (i j : ℕ) → AreDistinctCells xs → i < length xs → j < length xs → get_or xs i 0 ≡ get_or xs j 0 → i ≡ j
place-one [] i j d hi hj e = absurd (omega arith)
place-one (x ∷ xs) zero zero d hi hj e = refl
place-one (x ∷ xs) zero (suc j) d hi hj e = absurd (clash (subst (λ n. is_among n xs ≡ true) (sym e) (among-at xs j (omega arith))) d.0)
place-one (x ∷ xs) (suc i) zero d hi hj e = absurd (clash (subst (λ n. is_among n xs ≡ true) e (among-at xs i (omega arith))) d.0)
place-one (x ∷ xs) (suc i) (suc j) d hi hj e = ap (λ n. suc n) (place-one xs i j d.1 (omega arith) (omega arith) e)

-- a member of a mapped list comes from one of the list
pub among-map : {X : Type 0} (f : X → ℕ) (x : ℕ) (ys : List X) → is_among x (map f ys) ≡ true → (i : ℕ) × (i < length ys) × ((d : X) → f (get_or ys i d) ≡ x)
among-map f x [] h = absurd (cc)
among-map f x (y ∷ ys) h = cases (nat_eq x (f y))
    (λ (t : nat_eq x (f y) ≡ true). (0, omega arith, λ d. sym (same x (f y) t)))
    (λ (g : nat_eq x (f y) ≡ false).
    let k = among-map f x ys (ap (λ b. b || is_among x (map f ys)) (sym g) ∙ h) in
    (suc k.0, omega arith, k.2))

pub among-append : (x : ℕ) (xs ys : List ℕ) → is_among x (xs ++ ys) ≡ (is_among x xs || is_among x ys)
among-append x xs ys = list_any-append (λ y. nat_eq x y) xs ys

-- distinct numbers stay distinct with one more that isn't a member
pub AreDistinct-push : (xs : List ℕ) (x : ℕ) → AreDistinctCells xs → is_among x xs ≡ false → AreDistinctCells (xs ++ x ∷ [])
AreDistinct-push [] x d h = (refl, tt)
AreDistinct-push (y ∷ ys) x d h =
    let k = or-false (nat_eq x y) (is_among x ys) h in (
      among-append y ys (x ∷ [])
          ∙ ap (λ b. b || (nat_eq y x || false)) d.0
          ∙ cases (nat_eq y x)
          (λ (t : nat_eq y x ≡ true). absurd (clash (subst (λ n. nat_eq x n ≡ true) (sym (same y x t)) (itself x)) k.0))
          (λ (f : nat_eq y x ≡ false). ap (λ b. b || false) f),
      AreDistinct-push ys x d.1 k.1,
    )

-- distinct numbers that are all members of a list are at most as many as its elements
pub length-le_from_among : (xs ys : List ℕ) → AreDistinctCells xs → ((x : ℕ) → is_among x xs ≡ true → is_among x ys ≡ true) → length xs ≤ length ys
length-le_from_among xs ys d h = length-le_from_is_member nat_eq_equiv xs ys (distinct xs d) h
