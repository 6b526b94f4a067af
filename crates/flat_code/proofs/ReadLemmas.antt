-- Readings of nodes, by their numbers.
use Rattle.std.proofs.Common.{◌≡◌, ℕ, zero, suc, ◌+◌, ◌<◌, List, [], ◌∷◌, ◌++◌, length, refl, ap, sym, ◌∙◌, subst, arith}
use Rattle.std.specs.Prelude.{fold}
use Rattle.std.proofs.lemmas.List.{get_or_append_left, get_or_push, length_push}
use Rattle.std.proofs.lemmas.List.Sums.{fold_push}
use Rattle.flat_code.specs.declared.program.Node.{Node}
use Rattle.flat_code.specs.declared.program.Node.TheVariants.{Input, Lit, Do}
use Rattle.flat_code.specs.Runs.{Reading, entry, entry_of, entries_of, IsNode, AreNodes}
use Rattle.flat_code.specs.Entries.{node_at, entry_at}
use Rattle.flat_code.specs.inner.Renumber.{entry_by, AreValid}

-- strong induction over numbers
pub strong : (P : ℕ → Type 0) → ((p : ℕ) → ((q : ℕ) → q < p → P q) → P p) → (p : ℕ) → P p
strong P each p = go (suc p) p (omega arith)
  where
    go : (k q : ℕ) → q < k → P q
    go zero q lt = absurd (omega arith)
    go (suc k) q lt = each q (λ s l. go k s (omega arith))

-- ---- nodes by their numbers

valid_from : (inputs i j k : ℕ) (nodes : List Node) → AreNodes inputs i nodes → j < length nodes → k ≡ i + j → IsNode inputs k (node_at nodes j)
valid_from inputs i j k [] h lt e = absurd (omega arith)
valid_from inputs i zero k (node ∷ nodes) h lt e = let here : i ≡ k = omega arith in rw here at h.0
valid_from inputs i (suc j) k (node ∷ nodes) h lt e = valid_from inputs (i + 1) j k nodes h.1 (omega arith) (omega arith)

pub are-valid : (inputs : ℕ) (nodes : List Node) → AreNodes inputs 0 nodes → AreValid inputs nodes
are-valid inputs nodes h p lt = valid_from inputs 0 p p nodes h lt (omega arith)

nodes_from : (inputs i : ℕ) (nodes : List Node) → ((j k : ℕ) → j < length nodes → k ≡ i + j → IsNode inputs k (node_at nodes j)) → AreNodes inputs i nodes
nodes_from inputs i [] h = tt
nodes_from inputs i (node ∷ nodes) h = (
  h 0 i (omega arith) (omega arith),
  nodes_from inputs (i + 1) nodes
      (λ j k lt e. h (suc j) k (omega arith) (omega arith)),
)

pub are-nodes : (inputs : ℕ) (nodes : List Node) → AreValid inputs nodes → AreNodes inputs 0 nodes
are-nodes inputs nodes h = nodes_from inputs 0 nodes (λ j k lt e. let same : j ≡ k = omega arith in subst (λ k. IsNode inputs k (node_at nodes j)) same
    (h j lt))

-- ---- entries

pub entry-by : {X : Type 0} (r : Reading X) (xs : List X) (node : Node) → entry_of r xs node ≡ entry_by r (entry r xs) node
entry-by r xs (Input n) = refl
entry-by r xs (Lit v) = refl
entry-by r xs (Do op a b c) = refl

-- one more entry
abbrev more : {X : Type 0} → Reading X → List X → Node → List X
more r xs node = xs ++ entry_of r xs node ∷ []

from-length : {X : Type 0} (r : Reading X) (xs : List X) (nodes : List Node) → length (fold (more r) xs nodes) ≡ length xs + length nodes
from-length r xs [] = omega arith
from-length r xs (node ∷ nodes) = omega (arith, from-length r (more r xs node) nodes, length_push xs (entry_of r xs node))

pub entries-length : {X : Type 0} (r : Reading X) (nodes : List Node) → length (entries_of r nodes) ≡ length nodes
entries-length r nodes = omega (arith, from-length r [] nodes)

from-prefix : {X : Type 0} (r : Reading X) (xs : List X) (nodes : List Node) (p : ℕ) → p < length xs → entry r (fold (more r) xs nodes) p ≡ entry r xs p
from-prefix r xs [] p lt = refl
from-prefix r xs (node ∷ nodes) p lt = from-prefix r (more r xs node) nodes p (omega (arith, length_push xs (entry_of r xs node)))
    ∙ get_or_append_left xs (entry_of r xs node ∷ []) r.nothing p lt

pub apply-same : {X : Type 0} (f : X → X → X → X) {a a' b b' c c' : X} → a ≡ a' → b ≡ b' → c ≡ c' → f a b c ≡ f a' b' c'
apply-same f p q s = cc

-- an entry depends only on those of the arguments
pub entry-same : {X : Type 0} (r : Reading X) (before before' : ℕ → X) (inputs p : ℕ) (node : Node) → IsNode inputs p node
    → ((q : ℕ) → q < p → before q ≡ before' q) → entry_by r before node ≡ entry_by r before' node
entry-same r before before' inputs p (Input n) h same = refl
entry-same r before before' inputs p (Lit v) h same = refl
entry-same r before before' inputs p (Do op a b c) h same = apply-same (r.apply op) (same a h.0) (same b h.1) (same c h.2)

from-at : {X : Type 0} (r : Reading X) (xs : List X) (nodes : List Node) (inputs p i : ℕ) → p < length nodes → i ≡ length xs + p
    → IsNode inputs i (node_at nodes p) → entry r (fold (more r) xs nodes) i ≡ entry_by r (entry r (fold (more r) xs nodes)) (node_at nodes p)
from-at r xs [] inputs p i lt e h = absurd (omega arith)
from-at r xs (node ∷ nodes) inputs zero i lt e h =
    let here : length xs ≡ i = omega arith in
    let one = entry_of r xs node in
    from-prefix r (more r xs node) nodes i (omega (arith, length_push xs one)) ∙ get_or_push xs one r.nothing i here
    ∙ entry-by r xs node
    ∙ entry-same r (entry r xs) (entry r (fold (more r) xs (node ∷ nodes))) inputs i node h (λ q l. sym (from-prefix r xs (node ∷ nodes) q (omega arith)))
from-at r xs (node ∷ nodes) inputs (suc p) i lt e h = from-at r (more r xs node) nodes inputs p i (omega arith)
    (omega (arith, length_push xs (entry_of r xs node))) h

-- the entry of a node is that of its arguments' entries
pub entry-at : {X : Type 0} (r : Reading X) (inputs : ℕ) (nodes : List Node) (p : ℕ) → AreValid inputs nodes → p < length nodes
    → entry_at r nodes p ≡ entry_by r (entry_at r nodes) (node_at nodes p)
entry-at r inputs nodes p h lt = from-at r [] nodes inputs p p lt (omega arith) (h p lt)

-- one more node doesn't change the entries of the others
pub entries-push : {X : Type 0} (r : Reading X) (nodes : List Node) (node : Node) → entries_of r (nodes ++ node ∷ []) ≡ entries_of r nodes
    ++ entry_of r (entries_of r nodes) node ∷ []
entries-push r nodes node = fold_push (more r) [] nodes node

pub at-push : {X : Type 0} (r : Reading X) (nodes : List Node) (node : Node) (p : ℕ) → p < length nodes → entry_at r (nodes ++ node ∷ []) p ≡ entry_at r nodes p
at-push r nodes node p lt = ap (λ xs. entry r xs p) (entries-push r nodes node)
    ∙ get_or_append_left (entries_of r nodes) (entry_of r (entries_of r nodes) node ∷ []) r.nothing p (omega (arith, entries-length r nodes))

pub at-last : {X : Type 0} (r : Reading X) (nodes : List Node) (node : Node) (p : ℕ) → p ≡ length nodes
    → entry_at r (nodes ++ node ∷ []) p ≡ entry_of r (entries_of r nodes) node
at-last r nodes node p e = ap (λ xs. entry r xs p) (entries-push r nodes node)
    ∙ get_or_push (entries_of r nodes) (entry_of r (entries_of r nodes) node) r.nothing p (omega (arith, entries-length r nodes))

-- ---- a node more

pub node-push : (nodes : List Node) (node : Node) (p : ℕ) → p < length nodes → node_at (nodes ++ node ∷ []) p ≡ node_at nodes p
node-push nodes node p lt = get_or_append_left nodes (node ∷ []) _ p lt

pub node-last : (nodes : List Node) (node : Node) (p : ℕ) → p ≡ length nodes → node_at (nodes ++ node ∷ []) p ≡ node
node-last nodes node p e = get_or_push nodes node _ p (sym e)
