-- No cell of the base of `large N` reads itself: each reads only cells before it.
use Rattle.std.proofs.Common.{◌≡◌, ℕ, zero, suc, ◌+◌, ◌-◌, ◌<◌, ◌==◌, List, [], ◌∷◌, ◌++◌, IsSomeAnd, arith, inl, inr}
use Rattle.std.proofs.lemmas.Bool.{eqb-true}
use Rattle.m_places.specs.declared.place.Place.{Place}
use Rattle.m_names.proofs.NameLemmas.{cases}
use Rattle.micro_m.specs.declared.base.Base.{Base}
use Rattle.micro_m.specs.Bases.{Definition, definition_among}
use Rattle.micro_m.specs.Reads.{TermReads, Reads, LeadsTo, HasNoCycle}
use Rattle.large_validity.proofs.Pieces.{after}
use Rattle.large_validity.proofs.Lines.{declared_after, rules_after, numbered_line}
use Rattle.large_validity.proofs.Base.{maximum_tree, numbered_cell, first_cell, cell_definitions, base_of}

-- a definition reads only cells before its own
abbrev ReadsBefore : Definition → Type 0
ReadsBefore d = (y : ℕ) → TermReads d.1 y → y < d.0

abbrev AllReadBefore : List Definition → Type 0
AllReadBefore [] = Unit {0}
AllReadBefore (d ∷ ds) = ReadsBefore d × AllReadBefore ds

among_before : (ds : List Definition) → AllReadBefore ds → (x y : ℕ) → IsSomeAnd (definition_among ds x) (λ term. TermReads term y) → y < x
among_before [] h x y r = absurd r
among_before (d ∷ ds) h x y r = cases (x == d.0)
    (λ e. let same : x ≡ d.0 = eqb-true x d.0 e in let k = h.0 y (rw e at r) in omega arith)
    (λ e. among_before ds h.1 x y (rw e at r))

read_maximum : (k y : ℕ) → TermReads (maximum_tree k) y → y ≡ k + k
read_maximum k y (inl r) = absurd r
read_maximum k y (inr (inl (inl r))) = r
read_maximum k y (inr (inl (inr (inl r)))) = absurd r
read_maximum k y (inr (inl (inr (inr r)))) = absurd r
read_maximum k y (inr (inr r)) = absurd r

numbered_before : (q : Place) (j : ℕ) → ReadsBefore (numbered_cell q j)
numbered_before q j y (inl r) = let e = read_maximum (suc j) y r in omega arith
numbered_before q j y (inr (inl r)) = let e : y ≡ j + j + 1 = r in omega arith
numbered_before q j y (inr (inr r)) = absurd r

ruled_before : (q : Place) (n : ℕ) (ds : List Definition) → AllReadBefore ds → AllReadBefore (cell_definitions q n ++ ds)
ruled_before q zero ds h = h
ruled_before q (suc j) ds h = (numbered_before q j, ruled_before (after q (numbered_line j)) j ds h)

leads_before : (base : Base) → ((x y : ℕ) → Reads base x y → y < x) → (x : ℕ) (xs : List ℕ) (last : ℕ) → LeadsTo (Reads base) x xs last → last < x
leads_before base f x [] last h = f x last h
leads_before base f x (y ∷ ys) last h = let a = f x y h.0 in let b = leads_before base f y ys last h.1 in omega arith

acyclic : (base : Base) → ((x y : ℕ) → Reads base x y → y < x) → HasNoCycle base
acyclic base f [] h = h
acyclic base f (x ∷ xs) h = let l = leads_before base f x xs x h.1 in omega arith

-- No cell reads itself, directly or through other cells.
pub base_acyclic : (p : Place) (n : ℕ) → HasNoCycle (base_of p n)
base_acyclic p n =
    let q = declared_after p n in
    let r = rules_after q (n - 1) in
    let first : ReadsBefore (first_cell r) = λ y h. (let e = read_maximum 0 y h in omega arith) in
    acyclic (base_of p n) (λ x y h. among_before (cell_definitions q (n - 1) ++ (first_cell r ∷ [])) (ruled_before q (n - 1) (first_cell r ∷ []) (first, tt)) x
    y h)
