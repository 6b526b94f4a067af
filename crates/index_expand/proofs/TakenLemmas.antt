-- Appending instances one at a time, and counting their parts.
use Rattle.std.proofs.Common.{◌≡◌, ℕ, suc, ◌+◌, ◌*◌, ◌<◌, ◌≤◌, List, [], ◌∷◌, ◌++◌, length, length-append, map, zero, take, drop, get_or, append_assoc, refl}
use Rattle.std.proofs.Common.{sym, ap, ◌∙◌, arith}
use Rattle.std.proofs.lemmas.List.{take_more}
use Rattle.std.proofs.lemmas.Grind.{flat_map-append}
use Rattle.std.proofs.lemmas.List.FromFn.{length-map-range_with_len, map-range_with_len_more}
use Rattle.std.proofs.Math.Nat.{mul-le-mul_left}
use Rattle.std.proofs.lemmas.List.Sums.{sum_by_more, sum_by_more_le}
use Rattle.std.specs.List.{flat_map, range_with_len, sum_by}
use Rattle.m_places.specs.declared.limits.TheConstants.{PARTS}
use Rattle.m_places.specs.declared.place.Place.{Place}
use Rattle.index_expand.specs.declared.fault.ExpandFault.{ExpandFault}
use Rattle.index_expand.specs.inner.Taken.{IsTaken, IsTooMuch, weighed}
use Rattle.index_expand.proofs.FaultLemmas.{drop_next}

append_none : {A : Type 0} (xs : List A) → xs ++ [] ≡ xs
append_none [] = refl
append_none (x ∷ xs) = ap (λ r. x ∷ r) (append_none xs)

pub taken_none : {A : Type 0} (list : List A) (t : ℕ) → t ≤ PARTS → IsTaken list list [] 0 t t
taken_none list t few = record { list = sym (append_none list); sum = omega arith; few = few }

pub taken_both : {A : Type 0} (a b c xs ys : List A) (m n s t u : ℕ) → IsTaken a b xs m s t → IsTaken b c ys n t u → IsTaken a c (xs ++ ys) (m + n) s u
taken_both a b c xs ys m n s t u x y = record {
  list = y.list ∙ ap (λ l. l ++ ys) x.list ∙ append_assoc a xs ys;
  sum = let e = x.sum in let f = y.sum in omega arith;
  few = y.few;
}

pub too_much_after : {A : Type 0} (a b xs : List A) (m n k s t : ℕ) (item : Place) (fault : ExpandFault) → IsTaken a b xs m s t → IsTooMuch n t item fault
    → m + n ≤ k → IsTooMuch k s item fault
too_much_after a b xs m n k s t item fault x y h = record { reported = y.reported; many = let e = x.sum in let f = y.many in omega arith }

-- ---- instances of equal weight

weighed_append : {A : Type 0} (xs ys : List A) (w : ℕ) → weighed (xs ++ ys) w ≡ weighed xs w + weighed ys w
weighed_append xs ys w = ap (λ n. n * w) (length-append xs ys) ∙ spread (length xs) (length ys) w
  where
    spread : (m n v : ℕ) → (m + n) * v ≡ m * v + n * v
    spread m n v = omega arith

pub weighed_none : {A : Type 0} (list : List A) (w t : ℕ) → t ≤ PARTS → IsTaken list list [] (weighed {A = A} [] w) t t
weighed_none list w t few = record { list = sym (append_none list); sum = omega arith; few = few }

weighed_both : {A : Type 0} (a b c xs ys : List A) (w s t u : ℕ) → IsTaken a b xs (weighed xs w) s t → IsTaken b c ys (weighed ys w) t u
    → IsTaken a c (xs ++ ys) (weighed (xs ++ ys) w) s u
weighed_both a b c xs ys w s t u x y = rw (weighed_append xs ys w) (taken_both a b c xs ys (weighed xs w) (weighed ys w) s t u x y)

-- the instances of some values, and of one more value
flat_more : {A B C : Type 0} (d : B → List C) (g : A → List B) (values : List A) (i : ℕ) (v : A) → i < length values → v ≡ get_or values i v
    → flat_map d (flat_map g (take (i + 1) values)) ≡ flat_map d (flat_map g (take i values)) ++ flat_map d (g v)
flat_more d g values i v l at =
    ap (λ vs. flat_map d (flat_map g vs)) (take_more values i v l ∙ ap (λ x. take i values ++ x ∷ []) (sym at))
    ∙ ap (flat_map d) (flat_map-append g (take i values) (v ∷ []) ∙ ap (λ r. flat_map g (take i values) ++ r) (append_none (g v)))
    ∙ flat_map-append d (flat_map g (take i values)) (g v)

pub taken_next : {A B C : Type 0} (d : B → List C) (g : A → List B) (values : List A) (i : ℕ) (v : A) (w s t u : ℕ) (a b c : List C) → i < length values
    → v ≡ get_or values i v
    → IsTaken a b (flat_map d (flat_map g (take i values))) (weighed (flat_map d (flat_map g (take i values))) w) s t
    → IsTaken b c (flat_map d (g v)) (weighed (flat_map d (g v)) w) t u
    → IsTaken a c (flat_map d (flat_map g (take (i + 1) values))) (weighed (flat_map d (flat_map g (take (i + 1) values))) w) s u
taken_next d g values i v w s t u a b c l at x y =
    rw (flat_more d g values i v l at) (weighed_both a b c (flat_map d (flat_map g (take i values))) (flat_map d (g v)) w s t u x y)

-- all of them are those of the values before, those of this value, and those after
front_and_rest : {A : Type 0} (values : List A) (i : ℕ) → values ≡ take i values ++ drop i values
front_and_rest [] zero = refl
front_and_rest [] (suc i) = refl
front_and_rest (x ∷ xs) zero = refl
front_and_rest (x ∷ xs) (suc i) = ap (λ r. x ∷ r) (front_and_rest xs i)

flat_split : {A B C : Type 0} (d : B → List C) (g : A → List B) (values : List A) (i : ℕ) (v : A) → i < length values → v ≡ get_or values i v
    → flat_map d (flat_map g values) ≡ flat_map d (flat_map g (take i values)) ++ (flat_map d (g v) ++ flat_map d (flat_map g (drop (i + 1) values)))
flat_split d g values i v l at =
    ap (λ vs. flat_map d (flat_map g vs)) (front_and_rest values i ∙ ap (λ r. take i values ++ r) (drop_next values i v l at))
    ∙ ap (flat_map d) (flat_map-append g (take i values) (v ∷ drop (i + 1) values))
    ∙ flat_map-append d (flat_map g (take i values)) (g v ++ flat_map g (drop (i + 1) values))
    ∙ ap (λ r. flat_map d (flat_map g (take i values)) ++ r) (flat_map-append d (g v) (flat_map g (drop (i + 1) values)))

pub too_much_next : {A B C : Type 0} (d : B → List C) (g : A → List B) (values : List A) (i : ℕ) (v : A) (w s t : ℕ) (item : Place) (fault : ExpandFault)
    (a b : List C) → i < length values → v ≡ get_or values i v
    → IsTaken a b (flat_map d (flat_map g (take i values))) (weighed (flat_map d (flat_map g (take i values))) w) s t
    → IsTooMuch (weighed (flat_map d (g v)) w) t item fault
    → IsTooMuch (weighed (flat_map d (flat_map g values)) w) s item fault
too_much_next d g values i v w s t item fault a b l at x y =
    let front = flat_map d (flat_map g (take i values)) in
    let here = flat_map d (g v) in
    let rest = flat_map d (flat_map g (drop (i + 1) values)) in
    let whole = ap (λ xs. weighed xs w) (flat_split d g values i v l at) ∙ weighed_append front (here ++ rest) w
    ∙ ap (λ n. weighed front w + n) (weighed_append here rest w) in
    too_much_after a b front (weighed front w) (weighed here w) (weighed (flat_map d (flat_map g values)) w) s t item fault x y (omega arith)

-- ---- the cells of a table

cells_length : {C : Type 0} (f : ℕ → C) (k w : ℕ) → weighed (map f (range_with_len 0 k)) w ≡ k * w
cells_length f k w = ap (λ n. n * w) (length-map-range_with_len f 0 k)

pub cells_next : {C : Type 0} (f : ℕ → C) (k w s t u : ℕ) (a b c : List C) (x : C) → x ≡ f k
    → IsTaken a b (map f (range_with_len 0 k)) (weighed (map f (range_with_len 0 k)) w) s t
    → IsTaken b c (x ∷ []) (weighed (x ∷ []) w) t u
    → IsTaken a c (map f (range_with_len 0 (k + 1))) (weighed (map f (range_with_len 0 (k + 1))) w) s u
cells_next f k w s t u a b c x e p q =
    let more = map-range_with_len_more f 0 k k (omega arith) ∙ ap (λ y. map f (range_with_len 0 k) ++ y ∷ []) (sym e) in
    rw more (weighed_both a b c (map f (range_with_len 0 k)) (x ∷ []) w s t u p q)

pub cells_too_much : {C : Type 0} (f : ℕ → C) (k size w s t : ℕ) (a b : List C) (x : C) (item : Place) (fault : ExpandFault) → k < size
    → IsTaken a b (map f (range_with_len 0 k)) (weighed (map f (range_with_len 0 k)) w) s t
    → IsTooMuch (weighed (x ∷ []) w) t item fault
    → IsTooMuch (weighed (map f (range_with_len 0 size)) w) s item fault
cells_too_much f k size w s t a b x item fault h p q =
    let room = mul-le-mul_left {m = k + 1} {n = size} w (omega arith) in
    let one = cells_length f k w in
    let all = cells_length f size w in
    too_much_after a b (map f (range_with_len 0 k)) (weighed (map f (range_with_len 0 k)) w) (weighed (x ∷ []) w) (weighed (map f (range_with_len 0 size)) w) s
    t item fault p q (omega (arith, room, one, all))

-- ---- one list after another, each with its own parts

each_more : {A C : Type 0} (d : A → List C) (xs : List A) (i : ℕ) (x : A) → i < length xs → x ≡ get_or xs i x
    → flat_map d (take (i + 1) xs) ≡ flat_map d (take i xs) ++ d x
each_more d xs i x l at =
    ap (flat_map d) (take_more xs i x l ∙ ap (λ y. take i xs ++ y ∷ []) (sym at))
    ∙ flat_map-append d (take i xs) (x ∷ [])
    ∙ ap (λ r. flat_map d (take i xs) ++ r) (append_none (d x))

sum_more : {A : Type 0} (m : A → ℕ) (xs : List A) (i : ℕ) (x : A) → i < length xs → x ≡ get_or xs i x → sum_by m (take (i + 1) xs) ≡ sum_by m (take i xs) + m x
sum_more m xs i x l at = sum_by_more m xs i x l ∙ ap (λ y. sum_by m (take i xs) + m y) (sym at)

pub each_next : {A C : Type 0} (d : A → List C) (m : A → ℕ) (xs : List A) (i : ℕ) (x : A) (s t u : ℕ) (a b c : List C) → i < length xs → x ≡ get_or xs i x
    → IsTaken a b (flat_map d (take i xs)) (sum_by m (take i xs)) s t → IsTaken b c (d x) (m x) t u
    → IsTaken a c (flat_map d (take (i + 1) xs)) (sum_by m (take (i + 1) xs)) s u
each_next d m xs i x s t u a b c l at p q =
    rw (each_more d xs i x l at, sum_more m xs i x l at) (taken_both a b c (flat_map d (take i xs)) (d x) (sum_by m (take i xs)) (m x) s t u p q)

pub each_too_much : {A C : Type 0} (d : A → List C) (m : A → ℕ) (xs : List A) (i : ℕ) (x : A) (s t : ℕ) (item : Place) (fault : ExpandFault) (a b : List C)
    → i < length xs → x ≡ get_or xs i x
    → IsTaken a b (flat_map d (take i xs)) (sum_by m (take i xs)) s t → IsTooMuch (m x) t item fault
    → IsTooMuch (sum_by m xs) s item fault
each_too_much d m xs i x s t item fault a b l at p q =
    let within = sum_by_more_le m xs i x l in
    let same = ap m at in
    too_much_after a b (flat_map d (take i xs)) (sum_by m (take i xs)) (m x) (sum_by m xs) s t item fault p q (omega (arith, within, same))
