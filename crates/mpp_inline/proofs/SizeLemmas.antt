-- Sizes of parts, and calls at a depth one less.
use Rattle.std.proofs.Common.{◌≡◌, ℕ, zero, suc, ◌+◌, ◌-◌, ◌<◌, ◌≤◌, Bool, true, false, List, [], ◌∷◌, ◌++◌, map, length, get_or, set, eqb, All, refl, sym, ap}
use Rattle.std.proofs.Common.{◌∙◌, subst, arith, replicate, length-append}
use mathlib.Core.Bool.{◌||◌}
use Rattle.std.specs.Prelude.{slice_get, Some}
use Rattle.std.specs.List.{sum_by}
use Rattle.std.proofs.lemmas.Bool.{eqb-false}
use Rattle.std.proofs.lemmas.List.{get_or-set_other}
use Rattle.std.proofs.lemmas.List.Sums.{sum_by-cons}
use Rattle.m_fixed.specs.declared.amount.Value.TheVariants.{Undef}
use Rattle.m_ast.specs.Items.{variable_cells}
use Rattle.m_symbols.specs.declared.variable.Variable.{Variable}
use Rattle.m_symbols.specs.Declarations.{placed_from, owners_from}
use Rattle.micro_m.specs.declared.base.Base.{Base}
use Rattle.micro_m.specs.Trees.{TreeOf, Tree, lit, cell, pick, apply, chain}
use Rattle.micro_m.specs.Leaves.{written, all_written}
use Rattle.micro_m.specs.Views.{trees_of}
use Rattle.micro_m.specs.Bases.{Definition, is_among, AreDistinctCells}
use Rattle.rule_order.specs.Orders.{IsOrder}
use Rattle.driver_core.specs.Actions.{Block, no_actions, an_action}
use Rattle.driver_core.specs.ActionView.{block_of}
use Rattle.driver_core.specs.Valid.{body_of}
use Rattle.driver_core.specs.Weights.{read_weight, tree_weight, trees_weight, definition_weight}
use Rattle.mpp_inline.specs.declared.work.Work.{Work}
use Rattle.mpp_inline.specs.declared.work.Work.TheVariants.{Run, Under, Restore, Return}
use Rattle.mpp_inline.specs.inner.Work.{Whole}
use Rattle.mpp_inline.proofs.BeginLemmas.{replicate-long, start-long}
use Rattle.mpp_inline.specs.inner.Sizes.{positions_weight, body_size, block_size, work_weight, left_weight, body_turns, block_turns, work_turns, left_turns}

-- ---- terms

-- the weight of a term is at least 1
read-pos : (size : ℕ) (index : Tree) (n : ℕ) → 1 ≤ read_weight size index n
read-pos size (lit v) n = omega arith
read-pos size (cell x) n = omega arith
read-pos size (pick f s i) n = omega arith
read-pos size (apply o ts) n = omega arith
read-pos size (chain t ts) n = omega arith

pub tree-pos : (t : Tree) → 1 ≤ tree_weight t
tree-pos (lit v) = omega arith
tree-pos (cell x) = omega arith
tree-pos (pick f s i) = read-pos s i (tree_weight i)
tree-pos (apply o ts) = omega arith
tree-pos (chain t ts) = omega (arith, tree-pos t)

-- the weight at a place
pub weight-at : {A : Type 0} (w : A → ℕ) (xs : List A) (n : ℕ) (x : A) → n < length xs → x ≡ get_or xs n x → get_or (map w xs) n 0 ≡ w x
weight-at w [] n x h e = absurd (omega (arith, h))
weight-at w (y ∷ xs) zero x h e = ap w (sym e)
weight-at w (y ∷ xs) (suc n) x h e = weight-at w xs n x (omega (arith, h)) e

-- three arguments weigh at most as much as all
pub three-trees : {L : Type 0} (leaf : L → Tree) (ts : List (TreeOf L)) → let w = map (λ t. tree_weight (written leaf t)) ts in
    get_or w 0 0 + get_or w 1 0 + get_or w 2 0 ≤ trees_weight (all_written leaf (trees_of ts))
three-trees leaf [] = omega arith
three-trees leaf (a ∷ []) = omega arith
three-trees leaf (a ∷ b ∷ []) = omega arith
three-trees leaf (a ∷ b ∷ c ∷ ts) = omega arith

-- ---- positions

abbrev summed : List ℕ → List ℕ → ℕ
summed ws [] = 0
summed ws (p ∷ ps) = get_or ws p 0 + summed ws ps

abbrev total : List ℕ → ℕ
total [] = 0
total (w ∷ ws) = w + total ws

-- a weight that is taken away
taken : (ws : List ℕ) (p : ℕ) → total (set ws p 0) + get_or ws p 0 ≡ total ws
taken [] zero = refl
taken [] (suc p) = refl
taken (w ∷ ws) zero = omega arith
taken (w ∷ ws) (suc p) = omega (arith, taken ws p)

or-false : (a b : Bool) → (a || b) ≡ false → (a ≡ false) × (b ≡ false)
or-false true b e = absurd (true-false e)
  where
    true-false : true ≡ false → ⊥
    true-false p = cc
or-false false b e = (refl, e)

other-kept : (ws : List ℕ) (p q : ℕ) → eqb p q ≡ false → get_or (set ws p 0) q 0 ≡ get_or ws q 0
other-kept ws p q e = get_or-set_other ws p q 0 0 (λ h. eqb-false p q e (sym h))

others-kept : (ws : List ℕ) (p : ℕ) (qs : List ℕ) → is_among p qs ≡ false → summed (set ws p 0) qs ≡ summed ws qs
others-kept ws p [] e = refl
others-kept ws p (q ∷ qs) e =
    let s = or-false (eqb p q) (is_among p qs) e in
    omega (arith, other-kept ws p q s.0, others-kept ws p qs s.1)

-- distinct positions weigh at most as much as all
summed-within : (ws ps : List ℕ) → AreDistinctCells ps → summed ws ps ≤ total ws
summed-within ws [] d = omega arith
summed-within ws (p ∷ ps) d = omega (arith, others-kept ws p ps d.0, summed-within (set ws p 0) ps d.1, taken ws p)

total-is : (ds : List Definition) → total (map definition_weight ds) ≡ sum_by definition_weight ds
total-is [] = refl
total-is (d ∷ ds) = omega (arith, total-is ds, sum_by-cons definition_weight d ds)

definition-at : (ds : List Definition) (p : ℕ) → p < length ds → tree_weight (get_or (map (λ (d : Definition). d.1) ds) p (lit Undef)) + 1 ≡ get_or
    (map definition_weight ds) p 0
definition-at [] p h = absurd (omega (arith, h))
definition-at (d ∷ ds) zero h = refl
definition-at (d ∷ ds) (suc p) h = definition-at ds p (omega (arith, h))

positions-are : (base : Base) (ps : List ℕ) → All (λ p. p < length base.definitions) ps
    → positions_weight base ps ≡ summed (map definition_weight base.definitions) ps
positions-are base [] a = refl
positions-are base (p ∷ ps) a =
    omega (arith, definition-at base.definitions p (a 0 p (omega arith)), positions-are base ps (λ k d h. a (suc k) d (omega (arith, h))))

pub order-weight : (base : Base) (ps : List ℕ) → IsOrder base ps → positions_weight base ps ≤ sum_by definition_weight base.definitions
order-weight base ps o =
    omega (arith, positions-are base ps o.within, summed-within (map definition_weight base.definitions) ps o.once, total-is base.definitions)

-- ---- calls

pub body-less : (whole : Whole) (depth f : ℕ) → (depth ≡ 0 → ⊥) → block_size whole (depth - 1) (body_of whole.core f) ≡ body_size whole depth f
body-less whole zero f h = absurd (h refl)
body-less whole (suc n) f h =
    let one : suc n - 1 ≡ n = omega arith in
    ap (λ m. block_size whole m (body_of whole.core f)) one

pub body-turns : (whole : Whole) (depth f : ℕ) → (depth ≡ 0 → ⊥) → block_turns whole (depth - 1) (body_of whole.core f) ≡ body_turns whole.core.bodies depth f
body-turns whole zero f h = absurd (h refl)
body-turns whole (suc n) f h =
    let one : suc n - 1 ≡ n = omega arith in
    ap (λ m. block_turns whole m (body_of whole.core f)) one

-- ---- what is left, with one item more

pub weight-last : (whole : Whole) (ws : List Work) (w : Work) → left_weight whole (ws ++ w ∷ []) ≡ left_weight whole ws + work_weight whole w
weight-last whole [] w = omega arith
weight-last whole (v ∷ ws) w = omega (arith, weight-last whole ws w)

pub turns-last : (whole : Whole) (ws : List Work) (w : Work) → left_turns whole (ws ++ w ∷ []) ≡ left_turns whole ws + work_turns whole w
turns-last whole [] w = omega arith
turns-last whole (v ∷ ws) w = omega (arith, turns-last whole ws w)

-- each block and each item takes a turn
pub block-some : (whole : Whole) (depth : ℕ) (b : Block) → 1 ≤ block_turns whole depth b
block-some whole depth no_actions = omega arith
block-some whole depth (an_action a rest) = omega arith

pub some-turns : (whole : Whole) (w : Work) → 1 ≤ work_turns whole w
some-turns whole (Run depth block) = block-some whole depth (block_of block.now)
some-turns whole (Under k) = omega arith
some-turns whole (Restore before) = omega arith
some-turns whole (Return cells outer) = omega arith

-- ---- the first cells

pub placed-cells : (n : ℕ) (vs : List Variable) → vs ≡ placed_from n (map (λ (v : Variable). v.item) vs) → (i : ℕ) (v : Variable) → slice_get vs i ≡ Some v
    → v.cells ≡ variable_cells v.item
placed-cells n [] e zero v is = cc
placed-cells n [] e (suc i) v is = cc
placed-cells n (x ∷ xs) e zero v is =
    let same : x ≡ v = cc in
    let head : x.cells ≡ variable_cells x.item = ap (λ (l : List Variable). first-cells l x) e in
    subst (λ (y : Variable). y.cells ≡ variable_cells y.item) same head
  where
    first-cells : List Variable → Variable → ℕ
    first-cells [] d = d.cells
    first-cells (y ∷ ys) d = y.cells
placed-cells n (x ∷ xs) e (suc i) v is = placed-cells (n + variable_cells x.item) xs (ap rest e) i v is
  where
    rest : List Variable → List Variable
    rest [] = []
    rest (y ∷ ys) = ys

-- the cells of a variable, and those of the others
pub owners-next : (v : Variable) (vs : List Variable) → length (owners_from 0 (v ∷ vs)) ≡ v.cells + length (owners_from 0 vs)
owners-next v vs =
    length-append (replicate v.cells 0) (owners_from 1 vs)
    ∙ (λ i. replicate-long {A = ℕ} v.cells 0 i + (sym (start-long [] 0 1 vs) ∙ start-long [] 0 0 vs) i)
