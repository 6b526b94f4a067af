-- Cells in ascending order, without repetitions.
use Rattle.std.proofs.Common.{◌≡◌, ◌<◌, ◌≤◌, ◌+◌, ℕ, zero, suc, inl, inr, ◌⊎◌, Bool, true, false, List, [], ◌∷◌, length, get_or, set, All, refl, sym, ap, ◌∙◌}
use Rattle.std.proofs.Common.{subst, arith}
use Rattle.std.specs.Prelude.{nat_lt, ◌==◌, if◌then◌else◌}
use Rattle.std.specs.List.{AllByRecursion, AllPairs, Contains}
use Rattle.std.proofs.lemmas.Bool.Decides.{leb_tells, eqb_tells}
use Rattle.std.proofs.lemmas.List.{set-set}
use Rattle.m_fixed.specs.declared.amount.Value.{Value}
use Rattle.micro_m.specs.Values.{Environment}
use Rattle.driver_core.specs.Meaning.{Env, with_values}
use Rattle.mpp_core.specs.Names.{with_cell, each_once}

-- ---- a cell at its place

-- the order of two cells
data Lies (c d : ℕ) : Type 0 where
  below : c < d → nat_lt c d ≡ true → Lies c d
  here : c ≡ d → nat_lt c d ≡ false → (c == d) ≡ true → Lies c d
  above : d < c → nat_lt c d ≡ false → (c == d) ≡ false → Lies c d

not-below : (c d : ℕ) → d < suc c → nat_lt c d ≡ false → ((c == d) ≡ true) × (c ≡ d) ⊎ ((c == d) ≡ false) × (c ≡ d → ⊥) → Lies c d
not-below c d h e (inl k) = here k.1 e k.0
not-below c d h e (inr k) = above (strictly c d h k.1) e k.0
  where
    strictly : (c d : ℕ) → d < suc c → (c ≡ d → ⊥) → d < c
    strictly c d h n = omega (arith, h, n)

by-order : (c d : ℕ) → ((nat_lt c d ≡ true) × (suc c ≤ d)) ⊎ ((nat_lt c d ≡ false) × (d < suc c)) → Lies c d
by-order c d (inl h) = below (omega (arith, h.1)) h.0
by-order c d (inr h) = not-below c d h.1 h.0 (eqb_tells c d)

lies : (c d : ℕ) → Lies c d
lies c d = by-order c d (leb_tells (suc c) d)

abbrev placed : ℕ → ℕ → List ℕ → Bool → Bool → List ℕ
placed c d ds less same = if less then c ∷ d ∷ ds else if same then d ∷ ds else d ∷ with_cell c ds

with-below : (c d : ℕ) (ds : List ℕ) → nat_lt c d ≡ true → with_cell c (d ∷ ds) ≡ c ∷ d ∷ ds
with-below c d ds e = ap (λ b. placed c d ds b (c == d)) e

with-here : (c d : ℕ) (ds : List ℕ) → nat_lt c d ≡ false → (c == d) ≡ true → with_cell c (d ∷ ds) ≡ d ∷ ds
with-here c d ds e f = λ i. placed c d ds (e i) (f i)

with-above : (c d : ℕ) (ds : List ℕ) → nat_lt c d ≡ false → (c == d) ≡ false → with_cell c (d ∷ ds) ≡ d ∷ with_cell c ds
with-above c d ds e f = λ i. placed c d ds (e i) (f i)

-- ---- ascending lists

abbrev Above : ℕ → List ℕ → Type 0
Above x ys = AllByRecursion (λ y. x < y) ys

abbrev Rises : List ℕ → Type 0
Rises [] = Unit {0}
Rises (x ∷ xs) = Above x xs × Rises xs

abbrev Has : ℕ → List ℕ → Type 0
Has z [] = ⊥
Has z (x ∷ xs) = (z ≡ x) ⊎ Has z xs

above-lower : (x y : ℕ) (zs : List ℕ) → x < y → Above y zs → Above x zs
above-lower x y [] h a = tt
above-lower x y (z ∷ zs) h a = (omega (arith, h, a.0), above-lower x y zs h a.1)

above-by : (x c d : ℕ) (ds : List ℕ) → x < c → Above x (d ∷ ds) → Above x (with_cell c ds) → Lies c d → Above x (with_cell c (d ∷ ds))
above-by x c d ds h a k (below l e) = subst (Above x) (sym (with-below c d ds e)) (h, a)
above-by x c d ds h a k (here l e f) = subst (Above x) (sym (with-here c d ds e f)) a
above-by x c d ds h a k (above l e f) = subst (Above x) (sym (with-above c d ds e f)) (a.0, k)

above-with : (x c : ℕ) (ds : List ℕ) → x < c → Above x ds → Above x (with_cell c ds)
above-with x c [] h a = (h, tt)
above-with x c (d ∷ ds) h a = above-by x c d ds h a (above-with x c ds h a.1) (lies c d)

rises-by : (c d : ℕ) (ds : List ℕ) → Rises (d ∷ ds) → Rises (with_cell c ds) → Lies c d → Rises (with_cell c (d ∷ ds))
rises-by c d ds r k (below l e) = subst Rises (sym (with-below c d ds e)) ((l, above-lower c d ds l r.0), r)
rises-by c d ds r k (here l e f) = subst Rises (sym (with-here c d ds e f)) r
rises-by c d ds r k (above l e f) = subst Rises (sym (with-above c d ds e f)) (above-with d c ds l r.0, k)

rises-with : (c : ℕ) (ds : List ℕ) → Rises ds → Rises (with_cell c ds)
rises-with c [] r = (tt, tt)
rises-with c (d ∷ ds) r = rises-by c d ds r (rises-with c ds r.1) (lies c d)

-- a cell is in the list, or is the one to be inserted
later : (z c d : ℕ) (ds : List ℕ) → (z ≡ c) ⊎ Has z ds → (z ≡ c) ⊎ Has z (d ∷ ds)
later z c d ds (inl e) = inl e
later z c d ds (inr m) = inr (inr m)

further : (z c d : ℕ) (ds : List ℕ) → (Has z (with_cell c ds) → (z ≡ c) ⊎ Has z ds) → (z ≡ d) ⊎ Has z (with_cell c ds) → (z ≡ c) ⊎ Has z (d ∷ ds)
further z c d ds g (inl e) = inr (inl e)
further z c d ds g (inr k) = later z c d ds (g k)

has-by : (z c d : ℕ) (ds : List ℕ) → (Has z (with_cell c ds) → (z ≡ c) ⊎ Has z ds) → Has z (with_cell c (d ∷ ds)) → Lies c d → (z ≡ c) ⊎ Has z (d ∷ ds)
has-by z c d ds g h (below l e) = subst (Has z) (with-below c d ds e) h
has-by z c d ds g h (here l e f) = inr (subst (Has z) (with-here c d ds e f) h)
has-by z c d ds g h (above l e f) = further z c d ds g (subst (Has z) (with-above c d ds e f) h)

has-with : (z c : ℕ) (ds : List ℕ) → Has z (with_cell c ds) → (z ≡ c) ⊎ Has z ds
has-with z c [] h = h
has-with z c (d ∷ ds) h = has-by z c d ds (λ k. has-with z c ds k) h (lies c d)

with-by : (z c d : ℕ) (ds : List ℕ) → ((z ≡ c) ⊎ Has z ds → Has z (with_cell c ds)) → Lies c d → (z ≡ c) ⊎ Has z (d ∷ ds) → Has z (with_cell c (d ∷ ds))
with-by z c d ds g (below l e) k = subst (Has z) (sym (with-below c d ds e)) k
with-by z c d ds g (here l e f) (inl k) = subst (Has z) (sym (with-here c d ds e f)) (inl (k ∙ l))
with-by z c d ds g (here l e f) (inr k) = subst (Has z) (sym (with-here c d ds e f)) k
with-by z c d ds g (above l e f) (inl k) = subst (Has z) (sym (with-above c d ds e f)) (inr (g (inl k)))
with-by z c d ds g (above l e f) (inr (inl k)) = subst (Has z) (sym (with-above c d ds e f)) (inl k)
with-by z c d ds g (above l e f) (inr (inr k)) = subst (Has z) (sym (with-above c d ds e f)) (inr (g (inr k)))

with-has : (z c : ℕ) (ds : List ℕ) → (z ≡ c) ⊎ Has z ds → Has z (with_cell c ds)
with-has z c [] h = h
with-has z c (d ∷ ds) h = with-by z c d ds (λ k. with-has z c ds k) (lies c d) h

once-rises : (cs : List ℕ) → Rises (each_once cs)
once-rises [] = tt
once-rises (c ∷ cs) = rises-with c (each_once cs) (once-rises cs)

once-has : (z : ℕ) (cs : List ℕ) → Has z (each_once cs) → Has z cs
once-has z [] h = h
once-has z (c ∷ cs) h = among z c cs (λ k. once-has z cs k) (has-with z c (each_once cs) h)
  where
    among : (z c : ℕ) (cs : List ℕ) → (Has z (each_once cs) → Has z cs) → (z ≡ c) ⊎ Has z (each_once cs) → Has z (c ∷ cs)
    among z c cs g (inl e) = inl e
    among z c cs g (inr k) = inr (g k)

has-once : (z : ℕ) (cs : List ℕ) → Has z cs → Has z (each_once cs)
has-once z [] h = h
has-once z (c ∷ cs) (inl e) = with-has z c (each_once cs) (inl e)
has-once z (c ∷ cs) (inr k) = with-has z c (each_once cs) (inr (has-once z cs k))

-- ---- ascending lists of the same cells are the same

above-has : (x z : ℕ) (ys : List ℕ) → Above x ys → Has z ys → x < z
above-has x z [] a h = absurd h
above-has x z (y ∷ ys) a (inl e) = omega (arith, a.0, e)
above-has x z (y ∷ ys) a (inr k) = above-has x z ys a.1 k

heads : (x y : ℕ) (xs ys : List ℕ) → Above x xs → Above y ys → Has x (y ∷ ys) → Has y (x ∷ xs) → x ≡ y
heads x y xs ys a b (inl e) k = e
heads x y xs ys a b (inr h) (inl e) = sym e
heads x y xs ys a b (inr h) (inr k) = absurd (omega (arith, above-has y x ys b h, above-has x y xs a k))

behind : (x y z : ℕ) (ys : List ℕ) → x ≡ y → x < z → Has z (y ∷ ys) → Has z ys
behind x y z ys e l (inl k) = absurd (omega (arith, e, l, k))
behind x y z ys e l (inr h) = h

same-lists : (xs ys : List ℕ) → Rises xs → Rises ys → ((z : ℕ) → Has z xs → Has z ys) → ((z : ℕ) → Has z ys → Has z xs) → xs ≡ ys
same-lists [] [] r s f g = refl
same-lists [] (y ∷ ys) r s f g = absurd (g y (inl refl))
same-lists (x ∷ xs) [] r s f g = absurd (f x (inl refl))
same-lists (x ∷ xs) (y ∷ ys) r s f g =
    let e : x ≡ y = heads x y xs ys r.0 s.0 (f x (inl refl)) (g y (inl refl)) in
    let rest : xs ≡ ys =
    same-lists xs ys r.1 s.1
    (λ z h. behind x y z ys e (above-has x z xs r.0 h) (f z (inr h)))
    (λ z h. behind y x z xs (sym e) (above-has y z ys s.0 h) (g z (inr h))) in
    λ i. e i ∷ rest i

-- ---- the result of a sort and a `dedup`

to-has : (z : ℕ) (xs : List ℕ) → Contains xs z → Has z xs
to-has z [] (k, l, e) = absurd (omega (arith, l))
to-has z (x ∷ xs) (zero, l, e) = inl (sym e)
to-has z (x ∷ xs) (suc k, l, e) = inr (to-has z xs (k, omega (arith, l), e))

from-has : (z : ℕ) (xs : List ℕ) → Has z xs → Contains xs z
from-has z [] h = absurd h
from-has z (x ∷ xs) (inl e) = (0, omega arith, sym e)
from-has z (x ∷ xs) (inr h) = let c = from-has z xs h in (suc c.0, omega (arith, c.1), c.2)

above-from : (x : ℕ) (xs : List ℕ) → ((k d : ℕ) → k < length xs → x < get_or xs k d) → Above x xs
above-from x [] h = tt
above-from x (y ∷ ys) h = (h 0 0 (omega arith), above-from x ys (λ k d l. h (suc k) d (omega (arith, l))))

rises-from : (xs : List ℕ) → AllPairs (λ x y. x < y) xs → Rises xs
rises-from [] h = tt
rises-from (x ∷ xs) h = (
  above-from x xs (λ k d l. h 0 (suc k) d (omega arith) (omega (arith, l))),
  rises-from xs
      (λ i j d a b. h (suc i) (suc j) d (omega (arith, a)) (omega (arith, b))),
)

-- an ascending list with the members of another is that list with each member once
pub is-once : (cs ds : List ℕ) → AllPairs (λ x y. x < y) ds → ((z : ℕ) → Contains ds z → Contains cs z) → ((z : ℕ) → Contains cs z → Contains ds z)
    → ds ≡ each_once cs
is-once cs ds p f g =
    same-lists ds (each_once cs) (rises-from ds p) (once-rises cs)
    (λ z h. has-once z cs (to-has z cs (f z (from-has z ds h))))
    (λ z h. to-has z ds (g z (from-has z cs (once-has z cs h))))

-- ---- the received values

set-apart : (l : Env) (i j : ℕ) (a b : Value) → (i ≡ j → ⊥) → set (set l i a) j b ≡ set (set l j b) i a
set-apart [] i j a b n = refl
set-apart (v ∷ vs) zero zero a b n = absurd (n refl)
set-apart (v ∷ vs) zero (suc j) a b n = refl
set-apart (v ∷ vs) (suc i) zero a b n = refl
set-apart (v ∷ vs) (suc i) (suc j) a b n = ap (λ l. v ∷ l) (set-apart vs i j a b (λ e. n (ap suc e)))

one-by : (c d : ℕ) (ds : List ℕ) (values : Environment) (env : Env) → with_values (with_cell c ds) values (set env d (values d)) ≡ with_values (c ∷ ds) values
    (set env d (values d)) → Lies c d → with_values (with_cell c (d ∷ ds)) values env ≡ with_values (c ∷ d ∷ ds) values env
one-by c d ds values env k (below l e) = ap (λ xs. with_values xs values env) (with-below c d ds e)
one-by c d ds values env k (here l e f) =
    ap (λ xs. with_values xs values env) (with-here c d ds e f)
    ∙ ap (with_values ds values) (sym (set-set env d (values d) (values d)))
    ∙ ap (λ x. with_values ds values (set (set env x (values x)) d (values d))) (sym l)
one-by c d ds values env k (above l e f) =
    ap (λ xs. with_values xs values env) (with-above c d ds e f)
    ∙ k
    ∙ ap (with_values ds values) (set-apart env d c (values d) (values c) (λ m. omega (arith, l, m)))

with-one : (c : ℕ) (ds : List ℕ) (values : Environment) (env : Env) → with_values (with_cell c ds) values env ≡ with_values (c ∷ ds) values env
with-one c [] values env = refl
with-one c (d ∷ ds) values env = one-by c d ds values env (with-one c ds values (set env d (values d))) (lies c d)

pub same-received : (cs : List ℕ) (values : Environment) (env : Env) → with_values (each_once cs) values env ≡ with_values cs values env
same-received [] values env = refl
same-received (c ∷ cs) values env = with-one c (each_once cs) values env ∙ same-received cs values (set env c (values c))

-- ---- the count

room : (x : ℕ) (xs : List ℕ) (all : ℕ) → x < all → Above x xs → Rises xs → ((z : ℕ) → Has z xs → z < all) → x + 1 + length xs ≤ all
room x [] all h a r w = omega (arith, h)
room x (y ∷ ys) all h a r w = omega (arith, a.0, room y ys all (w y (inl refl)) r.0 r.1 (λ z k. w z (inr k)))

few : (xs : List ℕ) (all : ℕ) → Rises xs → ((z : ℕ) → Has z xs → z < all) → length xs ≤ all
few [] all r w = omega arith
few (x ∷ xs) all r w = omega (arith, room x xs all (w x (inl refl)) r.0 r.1 (λ z k. w z (inr k)))

within : (z : ℕ) (cs : List ℕ) (all : ℕ) → All (λ c. c < all) cs → Has z cs → z < all
within z cs all h k = let c = from-has z cs k in subst (λ x. x < all) c.2 (h c.0 z c.1)

pub few-received : (cs : List ℕ) (all : ℕ) → All (λ c. c < all) cs → length (each_once cs) ≤ all
few-received cs all h = few (each_once cs) all (once-rises cs) (λ z k. within z cs all h (once-has z cs k))
