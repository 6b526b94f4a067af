-- Sums that saturate, and blocks whose parts are smaller.
use Rattle.std.proofs.Common.{◌≡◌, ℕ, zero, suc, ◌+◌, ◌*◌, ◌<◌, ◌≤◌, List, [], ◌∷◌, length, get_or, drop, sym, ap, ◌∙◌, arith}
use Rattle.std.specs.Prelude.{min, ◌^◌, ◌-◌, Some, None}
use Rattle.std.proofs.lemmas.List.{drop_more}
use Rattle.m_fixed.specs.declared.amount.Value.{Value}
use Rattle.micro_m.specs.Trees.{TreeOf, Tree, lit, cell, pick, apply, chain}
use Rattle.micro_m.specs.Leaves.{literal_in, written}
use Rattle.driver_core.specs.Leaves.{then_present, any_present}
use Rattle.driver_core.specs.Actions.{Action, action_nodes, nodes_of_block}
use Rattle.driver_core.specs.ActionView.{block_of}
use Rattle.driver_core.specs.Weights.{read_weight, tree_weight, steps_weight}
use Rattle.driver_core.specs.inner.Capped.{capped}

pub block-part : (all : List Action) (i : ℕ) (a : Action) → i < length all → a ≡ get_or all i a → action_nodes a < nodes_of_block (block_of all)
block-part [] i a h e = absurd (omega arith)
block-part (x ∷ xs) zero a h e = omega (arith, ap action_nodes e)
block-part (x ∷ xs) (suc i) a h e = omega (arith, block-part xs i a (omega arith) e)

pub drop-next : {A : Type 0} (xs : List A) (i : ℕ) (x : A) → i < length xs → x ≡ get_or xs i x → drop i xs ≡ x ∷ drop (i + 1) xs
drop-next xs i x h e = drop_more xs i x h ∙ ap (λ y. y ∷ drop (i + 1) xs) (sym e)

-- one more summand
pub sum-next : (t w r all c s : ℕ) → s ≡ min (t + c) (2 ^ 64 - 1) → c ≡ capped w → capped (t + (w + r)) ≡ capped all → capped (s + r) ≡ capped all
sum-next t w r all c s e f g = omega arith

pub capped-sum : (a b c d : ℕ) → capped a ≡ capped c → capped b ≡ capped d → capped (a + b) ≡ capped (c + d)
capped-sum a b c d e f = omega arith

-- a table read's weight, by its index's
pub read-capped : (size : ℕ) (index : Tree) (weight : ℕ) → capped (read_weight size index (capped weight)) ≡ capped (read_weight size index weight)
read-capped size (lit v) weight = omega arith
read-capped size (cell c) weight = omega arith
read-capped size (pick f s i) weight = omega arith
read-capped size (apply o a) weight = omega arith
read-capped size (chain f s) weight = omega arith

-- the weight of `exists` is 1, and 2 for each cell
then-weight : (cs : List ℕ) → steps_weight (then_present cs) ≡ 2 * length cs + 2
then-weight [] = omega arith
then-weight (c ∷ cs) = omega (arith, then-weight cs)

pub present-weight : (cs : List ℕ) → tree_weight (any_present cs) ≡ 2 * length cs + 1
present-weight [] = omega arith
present-weight (c ∷ cs) = omega (arith, then-weight cs)

-- a table read, at a constant or at no constant
pub read-some : {L : Type 0} (leaf : L → Tree) (size : ℕ) (index : TreeOf L) (n : ℕ) (v : Value) → literal_in index ≡ Some v
    → read_weight size (written leaf index) n ≡ n + 1
read-some leaf size (lit w) n v e = omega arith
read-some leaf size (cell c) n v e = absurd (cc)
read-some leaf size (pick f s i) n v e = absurd (cc)
read-some leaf size (apply o a) n v e = absurd (cc)
read-some leaf size (chain f s) n v e = absurd (cc)

whole-table : (size : ℕ) (t : Tree) (n : ℕ) → literal_in t ≡ None → read_weight size t n ≡ n + 2 * size + 2
whole-table size (lit v) n e = absurd (cc)
whole-table size (cell c) n e = omega arith
whole-table size (pick f s i) n e = omega arith
whole-table size (apply o a) n e = omega arith
whole-table size (chain f s) n e = omega arith

pub read-none : {L : Type 0} (leaf : L → Tree) → ((l : L) → literal_in (leaf l) ≡ None) → (size : ℕ) (index : TreeOf L) (n : ℕ) → literal_in index ≡ None
    → read_weight size (written leaf index) n ≡ n + 2 * size + 2
read-none leaf reads size (lit v) n e = absurd (cc)
read-none leaf reads size (cell l) n e = whole-table size (leaf l) n (reads l)
read-none leaf reads size (pick f s i) n e = omega arith
read-none leaf reads size (apply o a) n e = omega arith
read-none leaf reads size (chain f s) n e = omega arith
