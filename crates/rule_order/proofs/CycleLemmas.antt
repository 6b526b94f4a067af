-- A path whose last cell reads a cell of the path closes a cycle, which can begin with any of its
-- cells.
use Rattle.std.proofs.Common.{◌≡◌, ℕ, zero, suc, ◌+◌, ◌-◌, ◌<◌, ◌≤◌, true, false, nat_eq, List, [], ◌∷◌, ◌++◌, length, get_or, take, drop, refl, ap, sym, ◌∙◌}
use Rattle.std.proofs.Common.{subst, inl, inr, ◌⊎◌, arith}
use mathlib.Core.Bool.{◌||◌}
use Rattle.std.proofs.lemmas.List.{append-nil, take-append-drop, take_all, length-drop, drop-map, take-map, get_or-map}
use Rattle.std.proofs.Math.ListN.{length-map}
use Rattle.std.proofs.Math.Seq.{drop-cons}
use Rattle.std.specs.List.{All}
use Rattle.micro_m.specs.declared.base.Base.{Base}
use Rattle.micro_m.specs.Bases.{is_among, AreDistinctCells}
use Rattle.micro_m.specs.Reads.{Reads, LeadsTo, IsCycle, BeginsWithLeast}
use Rattle.micro_m.proofs.NumberLemmas.{same, itself, cases, or-true, clash, among-append}
use Rattle.rule_order.specs.inner.Marks.{ReadsNext, LastReads, cells_of}
use Rattle.rule_order.specs.declared.search.Frame.{Frame}
use Rattle.rule_order.proofs.OrderLemmas.{All-among}
use Rattle.rule_order.proofs.SearchLemmas.{among-at_or, eq_cases}

-- ---- rotations of distinct numbers

left : (n : ℕ) (xs ys : List ℕ) → is_among n xs ≡ true → is_among n (xs ++ ys) ≡ true
left n xs ys h = among-append n xs ys ∙ ap (λ b. b || is_among n ys) h

right : (n : ℕ) (xs ys : List ℕ) → is_among n ys ≡ true → is_among n (xs ++ ys) ≡ true
right n xs ys h = among-append n xs ys ∙ or-true (is_among n xs) (is_among n ys) h

not-right : (n : ℕ) (xs ys : List ℕ) → is_among n (xs ++ ys) ≡ false → is_among n ys ≡ false
not-right n xs ys h = cases (is_among n ys)
    (λ (t : is_among n ys ≡ true). absurd (clash (right n xs ys t) h))
    (λ (f : is_among n ys ≡ false). f)

not-left : (n : ℕ) (xs ys : List ℕ) → is_among n (xs ++ ys) ≡ false → is_among n xs ≡ false
not-left n xs ys h = cases (is_among n xs)
    (λ (t : is_among n xs ≡ true). absurd (clash (left n xs ys t) h))
    (λ (f : is_among n xs ≡ false). f)

back-distinct : (xs ys : List ℕ) → AreDistinctCells (xs ++ ys) → AreDistinctCells ys
back-distinct [] ys d = d
back-distinct (x ∷ xs) ys d = back-distinct xs ys d.1

between : (y x : ℕ) (ys xs : List ℕ) → is_among y (ys ++ x ∷ xs) ≡ true → is_among y (ys ++ xs) ≡ false → is_among x (y ∷ ys) ≡ false → ⊥
between y x ys xs t f a = cases (nat_eq y x)
    (λ (e : nat_eq y x ≡ true). clash (subst (λ n. is_among n (y ∷ ys) ≡ true) (same y x e) (ap (λ b. b || is_among y ys) (itself y))) a)
    (λ (g : nat_eq y x ≡ false).
    let k : is_among y (ys ++ xs) ≡ true = among-append y ys xs ∙ ap (λ b. is_among y ys || (b || is_among y xs)) (sym g) ∙ sym (among-append y ys (x ∷ xs))
    ∙ t in
    clash k f)

put : (x : ℕ) (ys xs : List ℕ) → AreDistinctCells (ys ++ xs) → is_among x ys ≡ false → is_among x xs ≡ false → AreDistinctCells (ys ++ x ∷ xs)
put x [] xs d a b = (b, d)
put x (y ∷ ys) xs d a b = (
  cases (is_among y (ys ++ x ∷ xs))
      (λ (t : is_among y (ys ++ x ∷ xs) ≡ true). absurd (between y x ys xs t d.0 a))
      (λ (f : is_among y (ys ++ x ∷ xs) ≡ false). f),
  put x ys xs d.1 (not-right x (y ∷ []) ys a) b,
)

swap-distinct : (xs ys : List ℕ) → AreDistinctCells (xs ++ ys) → AreDistinctCells (ys ++ xs)
swap-distinct [] ys d = subst (λ (zs : List ℕ). AreDistinctCells zs) (sym (append-nil ys)) d
swap-distinct (x ∷ xs) ys d = put x ys xs (swap-distinct xs ys d.1) (not-right x xs ys d.0) (not-left x xs ys d.0)

-- ---- reads along a cycle

back-reads : (base : Base) (xs ys : List ℕ) → ReadsNext base (xs ++ ys) → ReadsNext base ys
back-reads base [] ys h = h
back-reads base (x ∷ []) [] h = tt
back-reads base (x ∷ []) (y ∷ ys) h = h.1
back-reads base (x ∷ z ∷ xs) ys h = back-reads base (z ∷ xs) ys h.1

back-last : (base : Base) (xs ys : List ℕ) (y c : ℕ) → LastReads base (xs ++ y ∷ ys) c → LastReads base (y ∷ ys) c
back-last base [] ys y c h = h
back-last base (x ∷ []) ys y c h = h
back-last base (x ∷ z ∷ xs) ys y c h = back-last base (z ∷ xs) ys y c h

leads : (base : Base) (x : ℕ) (xs : List ℕ) (c : ℕ) → ReadsNext base (x ∷ xs) → LastReads base (x ∷ xs) c → LeadsTo (Reads base) x xs c
leads base x [] c h k = k
leads base x (y ∷ ys) c h k = (h.0, leads base y ys c h.1 k)

leads-split : (base : Base) (x : ℕ) (xs : List ℕ) (y : ℕ) (ys : List ℕ) (last : ℕ) → LeadsTo (Reads base) x (xs ++ y ∷ ys) last
    → LeadsTo (Reads base) x xs y × LeadsTo (Reads base) y ys last
leads-split base x [] y ys last h = h
leads-split base x (z ∷ xs) y ys last h = let k = leads-split base z xs y ys last h.1 in ((h.0, k.0), k.1)

leads-join : (base : Base) (x : ℕ) (xs : List ℕ) (y : ℕ) (ys : List ℕ) (last : ℕ) → LeadsTo (Reads base) x xs y → LeadsTo (Reads base) y ys last
    → LeadsTo (Reads base) x (xs ++ y ∷ ys) last
leads-join base x [] y ys last h k = (h, k)
leads-join base x (z ∷ xs) y ys last h k = (h.0, leads-join base z xs y ys last h.1 k)

-- a cycle that begins with c, rotated to begin with another of its cells
turned : (base : Base) (c : ℕ) (xs : List ℕ) (y : ℕ) (ys rest : List ℕ) → c ∷ rest ≡ xs ++ y ∷ ys → AreDistinctCells (c ∷ rest) → LeadsTo (Reads base) c rest c
    → IsCycle (Reads base) ((y ∷ ys) ++ xs)
turned base c [] y ys rest e d l =
    let is : IsCycle (Reads base) (y ∷ ys) = subst (λ (zs : List ℕ). IsCycle (Reads base) zs) e (d, l) in
    subst (λ (zs : List ℕ). IsCycle (Reads base) zs) (sym (append-nil (y ∷ ys))) is
turned base c (x ∷ xs) y ys rest e d l =
    let is : IsCycle (Reads base) (x ∷ (xs ++ y ∷ ys)) = subst (λ (zs : List ℕ). IsCycle (Reads base) zs) e (d, l) in
    let k = leads-split base x xs y ys x is.1 in
    (swap-distinct (x ∷ xs) (y ∷ ys) is.0, leads-join base y ys x xs y k.1 k.0)

-- the returned cycle: the path from index j on, rotated by l
pub shown : (base : Base) (zs : List ℕ) (c j l : ℕ) → AreDistinctCells zs → ReadsNext base zs → LastReads base zs c → j < length zs → get_or zs j 0 ≡ c
    → l < length (drop j zs) → IsCycle (Reads base) (drop l (drop j zs) ++ take l (drop j zs))
shown base zs c j l d next last low here within =
    let rest : List ℕ = drop (suc j) zs in
    let ring : drop j zs ≡ c ∷ rest = drop-cons zs j 0 low ∙ ap (λ n. n ∷ rest) here in
    let whole : zs ≡ take j zs ++ c ∷ rest = sym (take-append-drop j zs) ∙ ap (λ (rs : List ℕ). take j zs ++ rs) ring in
    let distinct : AreDistinctCells (c ∷ rest) = back-distinct (take j zs) (c ∷ rest) (subst (λ (ws : List ℕ). AreDistinctCells ws) whole d) in
    let reads : ReadsNext base (c ∷ rest) = back-reads base (take j zs) (c ∷ rest) (subst (λ (ws : List ℕ). ReadsNext base ws) whole next) in
    let closes : LastReads base (c ∷ rest) c = back-last base (take j zs) rest c c (subst (λ (ws : List ℕ). LastReads base ws c) whole last) in
    let y : ℕ = get_or (drop j zs) l 0 in
    let ys : List ℕ = drop (suc l) (drop j zs) in
    let from : drop l (drop j zs) ≡ y ∷ ys = drop-cons (drop j zs) l 0 within in
    let parts : c ∷ rest ≡ take l (drop j zs) ++ y ∷ ys = sym ring ∙ sym (take-append-drop l (drop j zs))
    ∙ ap (λ (rs : List ℕ). take l (drop j zs) ++ rs) from in
    subst (λ (ws : List ℕ). IsCycle (Reads base) (ws ++ take l (drop j zs))) (sym from)
    (turned base c (take l (drop j zs)) y ys rest parts distinct (leads base c rest c reads closes))

pub shown-least : (rs : List ℕ) (l : ℕ) → l < length rs → All (λ c. get_or rs l 0 ≤ c) rs → BeginsWithLeast (drop l rs ++ take l rs)
shown-least rs l within least =
    let y : ℕ = get_or rs l 0 in
    let ys : List ℕ = drop (suc l) rs in
    let from : drop l rs ≡ y ∷ ys = drop-cons rs l 0 within in
    let parts : rs ≡ take l rs ++ y ∷ ys = sym (take-append-drop l rs) ∙ ap (λ (ws : List ℕ). take l rs ++ ws) from in
    let all : All (λ c. y ≤ c) (ys ++ take l rs) = λ k d low.
    let n : ℕ = get_or (ys ++ take l rs) k d in
    let here : is_among n (ys ++ take l rs) ≡ true = among-at_or (ys ++ take l rs) k d low in
    All-among (λ c. y ≤ c) n rs least (ap (is_among n) parts ∙ turned-among n (take l rs) y ys here) in
    subst (λ (ws : List ℕ). BeginsWithLeast (ws ++ take l rs)) (sym from) all
  where
    turned-among : (n : ℕ) (xs : List ℕ) (y : ℕ) (ys : List ℕ) → is_among n (ys ++ xs) ≡ true → is_among n (xs ++ y ∷ ys) ≡ true
    turned-among n xs y ys h = cases (is_among n xs)
        (λ (t : is_among n xs ≡ true). left n xs (y ∷ ys) t)
        (λ (f : is_among n xs ≡ false). cases (is_among n ys)
        (λ (t : is_among n ys ≡ true). right n xs (y ∷ ys) (or-true (nat_eq n y) (is_among n ys) t))
        (λ (g : is_among n ys ≡ false). absurd (clash h (among-append n ys xs ∙ ap (λ b. b || is_among n xs) g ∙ f))))

-- ---- the cells of a path, as the code slices it

ring-is : {X : Type 0} (xs : List X) (j : ℕ) → take (length xs - j) (drop j xs) ≡ drop j xs
ring-is xs j = take_all (length xs - j) (drop j xs) (omega (arith, length-drop j xs))

pub ring-cells : (path : List Frame) (j : ℕ) → cells_of (take (length path - j) (drop j path)) ≡ drop j (cells_of path)
ring-cells path j = ap cells_of (ring-is path j) ∙ sym (drop-map (λ (f : Frame). f.cell) j path)

pub gathered : (path ring : List Frame) (j l : ℕ) (r n2 n1 n0 : List ℕ) → ring ≡ take (length path - j) (drop j path) → r ≡ n2
    → n2 ≡ n1 ++ cells_of (take l ring) → n1 ≡ n0 ++ cells_of (take (length ring - l) (drop l ring)) → n0 ≡ []
    → r ≡ drop l (drop j (cells_of path)) ++ take l (drop j (cells_of path))
gathered path ring j l r n2 n1 n0 is e2 e1 e0 none =
    let cells : cells_of ring ≡ drop j (cells_of path) = ap cells_of is ∙ ring-cells path j in
    let first : n1 ≡ drop l (drop j (cells_of path)) = e0 ∙ ap (λ (ns : List ℕ). ns ++ cells_of (take (length ring - l) (drop l ring))) none ∙ ring-cells ring l
    ∙ ap (drop l) cells in
    let second : cells_of (take l ring) ≡ take l (drop j (cells_of path)) = sym (take-map (λ (f : Frame). f.cell) l ring) ∙ ap (take l) cells in
    e2 ∙ e1 ∙ ap (λ (ns : List ℕ). ns ++ cells_of (take l ring)) first ∙ ap (λ (ns : List ℕ). drop l (drop j (cells_of path)) ++ ns) second

cell-at : (path : List Frame) (i : ℕ) (f : Frame) → i < length path → f ≡ get_or path i f → get_or (cells_of path) i 0 ≡ f.cell
cell-at path i f h e = get_or-map (λ (g : Frame). g.cell) path i f 0 h ∙ ap (λ (g : Frame). g.cell) (sym e)

-- a step of the search for the least cell
pub least-turn : (ring : List Frame) (least now place : ℕ) (f g : Frame) → place < length ring → least < length ring → f ≡ get_or ring place f
    → g ≡ get_or ring least g → ((k : ℕ) → k < place → get_or (cells_of ring) least 0 ≤ get_or (cells_of ring) k 0)
    → ((f.cell < g.cell) × (now ≡ place)) ⊎ ((g.cell ≤ f.cell) × (now ≡ least))
    → (now < length ring) × ((k : ℕ) → k < place + 1 → get_or (cells_of ring) now 0 ≤ get_or (cells_of ring) k 0)
least-turn ring least now place f g hp hl is_f is_g so_far (inl w) =
    let at_f = cell-at ring place f hp is_f in
    let at_g = cell-at ring least g hl is_g in
    let e : get_or (cells_of ring) now 0 ≡ get_or (cells_of ring) place 0 = ap (λ n. get_or (cells_of ring) n 0) w.1 in
    let low = w.0 in (
      omega (arith, w.1),
      λ k h. eq_cases k place
          (λ p. let q : get_or (cells_of ring) k 0 ≡ get_or (cells_of ring) place 0 = ap (λ n. get_or (cells_of ring) n 0) p in omega arith)
          (λ n. let b = so_far k (omega arith) in omega arith),
    )
least-turn ring least now place f g hp hl is_f is_g so_far (inr w) =
    let at_f = cell-at ring place f hp is_f in
    let at_g = cell-at ring least g hl is_g in
    let e : get_or (cells_of ring) now 0 ≡ get_or (cells_of ring) least 0 = ap (λ n. get_or (cells_of ring) n 0) w.1 in
    let low = w.0 in (
      omega (arith, w.1),
      λ k h. eq_cases k place
          (λ p. let q : get_or (cells_of ring) k 0 ≡ get_or (cells_of ring) place 0 = ap (λ n. get_or (cells_of ring) n 0) p in omega arith)
          (λ n. let b = so_far k (omega arith) in omega arith),
    )

other_default : (xs : List ℕ) (i d e : ℕ) → i < length xs → get_or xs i d ≡ get_or xs i e
other_default [] i d e h = absurd (omega arith)
other_default (x ∷ xs) zero d e h = refl
other_default (x ∷ xs) (suc i) d e h = other_default xs i d e (omega arith)

pub least-all : (ring : List Frame) (least place : ℕ) → length ring ≤ place
    → ((k : ℕ) → k < place → get_or (cells_of ring) least 0 ≤ get_or (cells_of ring) k 0) → All (λ c. get_or (cells_of ring) least 0 ≤ c) (cells_of ring)
least-all ring least place h so_far = λ k d l.
    let size : length (cells_of ring) ≡ length ring = length-map ring (λ (f : Frame). f.cell) in
    let b = so_far k (omega arith) in
    let e = other_default (cells_of ring) k d 0 l in
    omega arith
