-- The rows of the edges' sources are the rows of readers.
use Rattle.std.proofs.Common.{◌≡◌, ◌≢◌, ℕ, zero, suc, ◌+◌, ◌*◌, ◌/◌, ◌<◌, ◌≤◌, Bool, true, false, ◌||◌, ◌&&◌, eqb, cond, List, [], ◌∷◌, ◌++◌, length, get_or}
use Rattle.std.proofs.Common.{map, refl, sym, ◌∙◌, ap, arith, length-append}
use Rattle.std.specs.Prelude.{nat_lt}
use Rattle.std.specs.List.{flat_map}
use Rattle.std.proofs.lemmas.Bool.{eq-eqb, ne_eqb}
use Rattle.std.proofs.lemmas.Nat.{div-mul-add, le-div}
use Rattle.std.proofs.lemmas.List.FromFn.{length-map-range_with_len, get_or-map-range_with_len}
use Rattle.m_fixed.specs.declared.amount.Value.TheVariants.{Undef}
use Rattle.flat_code.specs.declared.program.Node.{Node}
use Rattle.flat_code.specs.declared.program.Node.TheVariants.{Input, Lit, Do}
use Rattle.m_fixed.specs.Operators.{arity_of}
use Rattle.flat_code.specs.Touched.{some_argument}
use Rattle.value_sheet.specs.Edges.{sourced, rows_of}
use Rattle.value_sheet.specs.inner.Readers.{node_at, has, is_of, IsReaders, IsInputRows, argument_sources, input_source}

has_step : (per p e s : ℕ) (sources : List ℕ) (k : ℕ)
    → has (sourced per p e (s ∷ sources)) k ≡ ((eqb s p && eqb (e / per) k) || has (sourced per p (e + 1) sources) k)
has_step per p e s sources k = cases (eqb s p)
  where
    cases : (b : Bool) → has (cond b (e / per ∷ sourced per p (e + 1) sources) (sourced per p (e + 1) sources))
        k ≡ ((b && eqb (e / per) k) || has (sourced per p (e + 1) sources) k)
    cases true = refl
    cases false = refl

-- edges from a place on lead to no earlier number
has_before : (per p m e : ℕ) (sources : List ℕ) (k : ℕ) → 0 < per → m * per ≤ e → k < m → has (sourced per p e sources) k ≡ false
has_before per p m e [] k some le lt = refl
has_before per p m e (s ∷ sources) k some le lt =
    let ne : e / per ≢ k = λ is. absurd (omega (arith, le-div m e per some le, is, lt)) in
    let none = has_before per p m (e + 1) sources k some (omega arith) lt in
    has_step per p e s sources k ∙ ap (λ b. (eqb s p && b) || has (sourced per p (e + 1) sources) k) (ne_eqb (e / per) k ne)
    ∙ ap (λ b. (eqb s p && false) || b) none
    ∙ nothing (eqb s p)
  where
    nothing : (b : Bool) → ((b && false) || false) ≡ false
    nothing true = refl
    nothing false = refl

-- the edges of one number, from its edge d on
block : (per p j d : ℕ) (xs rest : List ℕ) (k : ℕ) → 0 < per → d + length xs ≡ per
    → has (sourced per p (j * per + d) (xs ++ rest)) k ≡ ((eqb j k && has xs p) || has (sourced per p (suc j * per) rest) k)
block per p j d [] rest k some size =
    let next : j * per + d ≡ suc j * per = omega arith in
    ap (λ e. has (sourced per p e rest) k) next ∙ nothing (eqb j k) (has (sourced per p (suc j * per) rest) k)
  where
    nothing : (a r : Bool) → r ≡ ((a && false) || r)
    nothing true r = refl
    nothing false r = refl
block per p j d (x ∷ xs) rest k some size =
    let lower : d < per = omega arith in
    let more : j * per + d + 1 ≡ j * per + (d + 1) = omega arith in
    has_step per p (j * per + d) x (xs ++ rest) k
    ∙ ap (λ q. (eqb x p && eqb q k) || has (sourced per p (j * per + d + 1) (xs ++ rest)) k) (div-mul-add j per d lower)
    ∙ ap (λ e. (eqb x p && eqb j k) || has (sourced per p e (xs ++ rest)) k) more
    ∙ ap (λ b. (eqb x p && eqb j k) || b) (block per p j (d + 1) xs rest k some (omega arith))
    ∙ put_in (eqb x p) (eqb j k) (has xs p) (has (sourced per p (suc j * per) rest) k)
  where
    put_in : (x j y r : Bool) → ((x && j) || ((j && y) || r)) ≡ ((j && (x || y)) || r)
    put_in true true y r = refl
    put_in true false y r = refl
    put_in false true y r = refl
    put_in false false y r = refl

-- If each node has this number of edges, row p has the nodes that have an edge from p.
rows_are : (per p : ℕ) (f : Node → List ℕ) (j : ℕ) (nodes : List Node) (i : ℕ) → 0 < per → ((node : Node) → length (f node) ≡ per)
    → has (f (Lit Undef)) p ≡ false
    → has (sourced per p (j * per) (flat_map f nodes)) (j + i) ≡ has (f (node_at nodes i)) p
rows_are per p f j [] i some size none = sym none
rows_are per p f j (node ∷ nodes) zero some size none =
    let start : j * per ≡ j * per + 0 = omega arith in
    let here : j ≡ j + 0 = omega arith in
    let later : has (sourced per p (suc j * per) (flat_map f nodes)) (j + 0) ≡ false = has_before per p (suc j) (suc j * per) (flat_map f nodes) (j + 0) some
    (omega arith) (omega arith) in
    ap (λ e. has (sourced per p e (f node ++ flat_map f nodes)) (j + 0)) start
    ∙ block per p j 0 (f node) (flat_map f nodes) (j + 0) some (let z : 0 + length (f node) ≡ per = omega (arith, size node) in z)
    ∙ ap (λ b. (b && has (f node) p) || has (sourced per p (suc j * per) (flat_map f nodes)) (j + 0)) (eq-eqb j (j + 0) here)
    ∙ ap (λ b. has (f node) p || b) later ∙ alone (has (f node) p)
  where
    alone : (b : Bool) → (b || false) ≡ b
    alone true = refl
    alone false = refl
rows_are per p f j (node ∷ nodes) (suc i) some size none =
    let start : j * per ≡ j * per + 0 = omega arith in
    let apart : j ≢ j + suc i = λ is. absurd (omega arith) in
    let place : j + suc i ≡ suc j + i = omega arith in
    ap (λ e. has (sourced per p e (f node ++ flat_map f nodes)) (j + suc i)) start
    ∙ block per p j 0 (f node) (flat_map f nodes) (j + suc i) some (let z : 0 + length (f node) ≡ per = omega (arith, size node) in z)
    ∙ ap (λ b. (b && has (f node) p) || has (sourced per p (suc j * per) (flat_map f nodes)) (j + suc i)) (ne_eqb j (j + suc i) apart)
    ∙ ap (λ k. has (sourced per p (suc j * per) (flat_map f nodes)) k) place
    ∙ rows_are per p f (suc j) nodes i some size none

-- ---- arguments

three : (none : ℕ) (node : Node) → length (argument_sources none node) ≡ 3
three none (Input n) = refl
three none (Lit v) = refl
three none (Do op a b c) = refl

looked : (none p : ℕ) (node : Node) → p < none → has (argument_sources none node) p ≡ some_argument (λ q. eqb q p) node
looked none p (Input n) lt = let no : eqb none p ≡ false = ne_eqb none p (λ is. absurd (omega arith)) in rw no refl
looked none p (Lit v) lt = let no : eqb none p ≡ false = ne_eqb none p (λ is. absurd (omega arith)) in rw no refl
looked none p (Do op a b c) lt =
    let no : eqb none p ≡ false = ne_eqb none p (λ is. absurd (omega arith)) in
    both (nat_lt 1 (arity_of op)) (nat_lt 2 (arity_of op)) no
  where
    both : (s t : Bool) → eqb none p ≡ false
        → (eqb a p || (eqb (cond s b none) p || (eqb (cond t c none) p || false))) ≡ (eqb a p || (s && eqb b p) || (t && eqb c p))
    both true true un = same (eqb a p) (eqb b p) (eqb c p)
      where
        same : (x y z : Bool) → (x || (y || (z || false))) ≡ ((x || y) || z)
        same true y z = refl
        same false true z = refl
        same false false true = refl
        same false false false = refl
    both true false un = ap (λ n. eqb a p || (eqb b p || (n || false))) un ∙ same (eqb a p) (eqb b p)
      where
        same : (x y : Bool) → (x || (y || false)) ≡ ((x || y) || false)
        same true y = refl
        same false true = refl
        same false false = refl
    both false true un = ap (λ n. eqb a p || (n || (eqb c p || false))) un ∙ same (eqb a p) (eqb c p)
      where
        same : (x z : Bool) → (x || (z || false)) ≡ ((x || false) || z)
        same true z = refl
        same false true = refl
        same false false = refl
    both false false un = ap (λ n. eqb a p || (n || (n || false))) un ∙ same (eqb a p)
      where
        same : (x : Bool) → (x || false) ≡ ((x || false) || false)
        same true = refl
        same false = refl

pub length-argument_sources : (none : ℕ) (nodes : List Node) → length (flat_map (argument_sources none) nodes) ≡ 3 * length nodes
length-argument_sources none [] = refl
length-argument_sources none (node ∷ nodes) =
    omega (arith, length-append (argument_sources none node) (flat_map (argument_sources none) nodes), three none node, length-argument_sources none nodes)

pub readers_are : (nodes : List Node) (rows : List (List ℕ)) (sources : List ℕ) → sources ≡ flat_map (argument_sources (length nodes)) nodes
    → rows ≡ rows_of 3 sources (length nodes) → IsReaders rows nodes
readers_are nodes rows sources is made = record {
  so_many = ap length made ∙ length-map-range_with_len (λ p. sourced 3 p 0 sources) 0 (length nodes);
  row = λ p k lt.
      ap (λ rs. has (get_or rs p []) k) made
      ∙ ap (λ (row : List ℕ). has row k) (get_or-map-range_with_len (λ p. sourced 3 p 0 sources) 0 (length nodes) p p [] lt (omega arith))
      ∙ ap (λ ss. has (sourced 3 p 0 ss) k) is
      ∙ ap (λ m. has (sourced 3 p 0 (flat_map (argument_sources (length nodes)) nodes)) m) (let z : k ≡ 0 + k = omega arith in z)
      ∙ rows_are 3 p (argument_sources (length nodes)) 0 nodes k (omega arith) (three (length nodes)) (looked (length nodes) p (Lit Undef) lt)
      ∙ looked (length nodes) p (node_at nodes k) lt;
}

-- ---- inputs

one_source : ℕ → Node → List ℕ
one_source none node = input_source none node ∷ []

as_flat : (none : ℕ) (nodes : List Node) → map (input_source none) nodes ≡ flat_map (one_source none) nodes
unfolding one_source
as_flat none [] = refl
as_flat none (node ∷ nodes) = ap (λ xs. input_source none node ∷ xs) (as_flat none nodes)

of_source : (none p : ℕ) (node : Node) → p < none → has (one_source none node) p ≡ is_of p node
unfolding one_source
of_source none p (Input n) lt = alone (eqb n p)
  where
    alone : (b : Bool) → (b || false) ≡ b
    alone true = refl
    alone false = refl
of_source none p (Lit v) lt = rw (ne_eqb none p (λ is. absurd (omega arith))) refl
of_source none p (Do op a b c) lt = rw (ne_eqb none p (λ is. absurd (omega arith))) refl

one : (none : ℕ) (node : Node) → length (one_source none node) ≡ 1
unfolding one_source
one none node = refl

pub input_rows_are : (inputs : ℕ) (nodes : List Node) (rows : List (List ℕ)) (sources : List ℕ) → sources ≡ map (input_source inputs) nodes
    → rows ≡ rows_of 1 sources inputs → IsInputRows rows nodes inputs
input_rows_are inputs nodes rows sources is made = record {
  so_many = ap length made ∙ length-map-range_with_len (λ p. sourced 1 p 0 sources) 0 inputs;
  row = λ p k lt.
      ap (λ rs. has (get_or rs p []) k) made
      ∙ ap (λ (row : List ℕ). has row k) (get_or-map-range_with_len (λ p. sourced 1 p 0 sources) 0 inputs p p [] lt (omega arith))
      ∙ ap (λ ss. has (sourced 1 p 0 ss) k) (is ∙ as_flat inputs nodes)
      ∙ ap (λ m. has (sourced 1 p 0 (flat_map (one_source inputs) nodes)) m) (let z : k ≡ 0 + k = omega arith in z)
      ∙ rows_are 1 p (one_source inputs) 0 nodes k (omega arith) (one inputs) (of_source inputs p (Lit Undef) lt)
      ∙ of_source inputs p (node_at nodes k) lt;
}
