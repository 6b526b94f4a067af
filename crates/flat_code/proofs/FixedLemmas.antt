-- The values of a program's nodes as the solution of one equation for each node.
use Rattle.std.proofs.Common.{◌≡◌, ℕ, zero, suc, ◌+◌, ◌<◌, length, get_or, take, drop, List, [], ◌∷◌, ◌++◌, sym, ◌∙◌, ap, subst, refl, arith, length-append}
use Rattle.std.specs.Prelude.{fold}
use Rattle.std.proofs.lemmas.List.{take-append-drop, drop_more, get_or_append_left, get_or_push, length-take-le}
use Rattle.std.proofs.lemmas.List.Sums.{fold-append}
use Rattle.m_fixed.specs.declared.amount.Value.{Value}
use Rattle.m_fixed.specs.declared.amount.Value.TheVariants.{Undef}
use Rattle.m_fixed.specs.Operators.{op_value}
use Rattle.flat_code.specs.declared.program.Node.{Node}
use Rattle.flat_code.specs.declared.program.Node.TheVariants.{Input, Lit, Do}
use Rattle.flat_code.specs.Runs.{Reading, IsNode, AreNodes, entry_of, values_for, node_values, value_at}
use Rattle.flat_code.proofs.RunLemmas.{length-node_values}

-- one node more
abbrev more : {X : Type 0} → Reading X → List X → Node → List X
more reading entries node = entries ++ entry_of reading entries node ∷ []

-- further nodes don't change the entries before them
fold_keeps : {X : Type 0} (reading : Reading X) (nodes : List Node) (entries : List X) (k : ℕ) (d : X) → k < length entries
    → get_or (fold (more reading) entries nodes) k d ≡ get_or entries k d
fold_keeps reading [] entries k d h = refl
fold_keeps reading (node ∷ nodes) entries k d h =
    fold_keeps reading nodes (more reading entries node) k d (omega (arith, length-append entries (entry_of reading entries node ∷ [])))
    ∙ get_or_append_left entries (entry_of reading entries node ∷ []) d k h

-- the node at a place
pub node_or : (inputs j : ℕ) (nodes : List Node) (k : ℕ) (d : Node) → AreNodes inputs j nodes → k < length nodes → IsNode inputs (j + k) (get_or nodes k d)
node_or inputs j [] k d all h = absurd (omega arith)
node_or inputs j (n ∷ nodes) zero d all h =
    let here : j ≡ j + 0 = omega arith in
    subst (λ i. IsNode inputs i n) here all.0
node_or inputs j (n ∷ nodes) (suc k) d all h =
    let there : (j + 1) + k ≡ j + suc k = omega arith in
    subst (λ i. IsNode inputs i (get_or nodes k d)) there (node_or inputs (j + 1) nodes k d all.1 (omega arith))

-- a node reads only nodes below its place
pub entry_below : (inputs : List Value) (m k : ℕ) (vs ws : List Value) (node : Node) → IsNode m k node → ((j : ℕ) → j < k → value_at vs j ≡ value_at ws j)
    → entry_of (values_for inputs) vs node ≡ entry_of (values_for inputs) ws node
entry_below inputs m k vs ws (Input n) h same = refl
entry_below inputs m k vs ws (Lit v) h same = refl
entry_below inputs m k vs ws (Do op a b c) h same =
    let first = same a h.0 in
    let second = same b h.1 in
    let third = same c h.2 in
    ap (λ v. op_value op v (value_at vs b) (value_at vs c)) first
    ∙ ap (λ v. op_value op (value_at ws a) v (value_at vs c)) second
    ∙ ap (λ v. op_value op (value_at ws a) (value_at ws b) v) third

-- Each value is that of its node, given all values.
pub values_fixed : (inputs : List Value) (m : ℕ) (nodes : List Node) (k : ℕ) (d : Node) → AreNodes m 0 nodes → k < length nodes
    → value_at (node_values inputs nodes) k ≡ entry_of (values_for inputs) (node_values inputs nodes) (get_or nodes k d)
values_fixed inputs m nodes k d all h =
    let node = get_or nodes k d in
    let before = node_values inputs (take k nodes) in
    let rest = drop (k + 1) nodes in
    let entry = entry_of (values_for inputs) before node in
    let split : node_values inputs nodes ≡ fold (more (values_for inputs)) (before ++ entry ∷ []) rest =
    ap (node_values inputs) (sym (take-append-drop k nodes)) ∙ fold-append (more (values_for inputs)) [] (take k nodes) (drop k nodes)
    ∙ ap (fold (more (values_for inputs)) before) (drop_more nodes k d h) in
    let so_many : length before ≡ k = omega (arith, length-node_values inputs (take k nodes), length-take-le k nodes (omega arith)) in
    let longer : length (before ++ entry ∷ []) ≡ k + 1 = omega (arith, length-append before (entry ∷ [])) in
    let kept : (j : ℕ) → j < k → value_at before j ≡ value_at (node_values inputs nodes) j =
    λ j below. sym (ap (λ vs. value_at vs j) split ∙ fold_keeps (values_for inputs) rest (before ++ entry ∷ []) j Undef (omega arith)
    ∙ get_or_append_left before (entry ∷ []) Undef j (omega arith)) in
    let place : 0 + k ≡ k = omega arith in
    let here : IsNode m k node = subst (λ i. IsNode m i (get_or nodes k d)) place (node_or m 0 nodes k d all h) in
    ap (λ vs. value_at vs k) split ∙ fold_keeps (values_for inputs) rest (before ++ entry ∷ []) k Undef (omega arith)
    ∙ get_or_push before entry Undef k so_many
    ∙ entry_below inputs m k before (node_values inputs nodes) node here kept
