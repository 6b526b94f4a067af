-- Marking of reached nodes.
use Rattle.std.proofs.Common.{◌≡◌, ℕ, ◌-◌, ◌<◌, ◌≤◌, Bool, true, false, List, length, get_or, ap, sym, ◌∙◌, subst, inl, inr, ⊎_elim, arith}
use Rattle.std.proofs.lemmas.Bool.{cases_lt, true≢false}
use Rattle.std.proofs.lemmas.List.{get_or_read}
use Rattle.m_fixed.specs.declared.amount.Value.TheVariants.{Undef}
use Rattle.flat_code.specs.declared.program.Node.{Node}
use Rattle.flat_code.specs.declared.program.Node.TheVariants.{Input, Lit, Do}
use Rattle.flat_code.specs.declared.program.Flat.{Flat}
use Rattle.flat_code.specs.Runs.{IsFlat, IsNode}
use Rattle.flat_code.specs.Entries.{node_at}
use Rattle.flat_code.specs.Tidy.{Reads, IsReached, root, argument}
use Rattle.flat_code.proofs.PartLemmas.{reads-node}
use Rattle.flat_code.proofs.ReadLemmas.{are-valid}
use Rattle.dead_rules.specs.inner.Steps.{ReadsBelow, is_live, Marks, IsLive, IsClosedFrom, IsAnOutput, IsOfACheck}

-- a node's arguments are earlier nodes
pub reads-below : (inputs k : ℕ) (node : Node) → IsNode inputs k node → ReadsBelow k node
reads-below inputs k (Input n) h = tt
reads-below inputs k (Lit v) h = tt
reads-below inputs k (Do op a b c) h = h

pub below-more : (j k : ℕ) (node : Node) → j ≤ k → ReadsBelow j node → ReadsBelow k node
below-more j k (Input n) le h = tt
below-more j k (Lit v) le h = tt
below-more j k (Do op a b c) le h = let x : a < j = h.0 in let y : b < j = h.1 in let z : c < j = h.2 in (omega arith, omega arith, omega arith)

-- the arguments of a marked node are marked
pub closed-step : (flat : Flat) (p : ℕ) (old live live' : List Bool) → IsFlat flat → 0 < p → p ≤ length flat.nodes → IsClosedFrom flat p old live
    → is_live live (p - 1) ≡ true → Marks (Reads (node_at flat.nodes (p - 1))) live live' → IsClosedFrom flat (p - 1) old live'
closed-step flat p old live live' program some within h here marks = record {
  size = marks.size ∙ h.size;
  keeps = λ x l. marks.keeps x (h.keeps x l);
  closed = λ q x le lt l r. ⊎_elim
      (λ (g : q < p). let e : q ≡ p - 1 = omega arith in marks.marks x (subst (λ q. Reads (node_at flat.nodes q) x) e r))
      (λ (g : p ≤ q). ⊎_elim
      (λ l'. marks.keeps x (h.closed q x g lt l' r))
      (λ r'. let z = reads-node flat.inputs (p - 1) q (node_at flat.nodes (p - 1)) (are-valid flat.inputs flat.nodes program.nodes (p - 1) (omega arith)) r' in
      absurd (omega arith))
      (marks.only q l))
      (cases_lt q p);
  reached = λ x l. ⊎_elim (λ l'. h.reached x l') (λ r. argument (h.reached (p - 1) here) (omega arith) r) (marks.only x l);
}

-- all roots are marked, and nothing else
pub roots-reached : (flat : Flat) (none outputs checks : List Bool) → ((x : ℕ) → is_live none x ≡ false)
    → Marks (IsAnOutput flat.outputs (length flat.outputs)) none outputs → Marks (IsOfACheck flat.checks (length flat.checks)) outputs checks → (x : ℕ)
    → is_live checks x ≡ true → IsReached flat x
roots-reached flat none outputs checks empty a b x l =
    ⊎_elim
    (λ l'. ⊎_elim (λ l''. absurd (true≢false (sym l'' ∙ empty x))) (λ r. root (inl r)) (a.only x l'))
    (λ r. root (inr r))
    (b.only x l)

pub live-from : (flat : Flat) (none outputs checks live : List Bool) → Marks (IsAnOutput flat.outputs (length flat.outputs)) none outputs
    → Marks (IsOfACheck flat.checks (length flat.checks)) outputs checks → IsClosedFrom flat 0 checks live → IsLive flat (is_live live)
live-from flat none outputs checks live a b c = record {
  roots = λ x r. c.keeps x (⊎_elim (λ o. b.keeps x (a.marks x o)) (λ k. b.marks x k) r);
  closed = λ q x lt l r. c.closed q x (omega arith) lt l r;
  reached = c.reached;
}

-- what is reached is marked
pub live-reached : (flat : Flat) (live : ℕ → Bool) → IsLive flat live → {x : ℕ} → IsReached flat x → live x ≡ true
live-reached flat live h {x} (root r) = h.roots x r
live-reached flat live h {x} (argument {p} before lt r) = h.closed p x lt (live-reached flat live h before) r

-- a node that isn't marked has nothing to mark
pub closed-skip : (flat : Flat) (p : ℕ) (old live : List Bool) → 0 < p → IsClosedFrom flat p old live → is_live live (p - 1) ≡ false
    → IsClosedFrom flat (p - 1) old live
closed-skip flat p old live some h left = record {
  size = h.size;
  keeps = h.keeps;
  closed = λ q x le lt l r. ⊎_elim
      (λ (g : q < p). let e : q ≡ p - 1 = omega arith in absurd (true≢false (sym (subst (λ q. is_live live q ≡ true) e l) ∙ left)))
      (λ (g : p ≤ q). h.closed q x g lt l r)
      (cases_lt q p);
  reached = h.reached;
}

-- an element of a slice is the node at that place
pub node-read : (nodes slice : List Node) (i : ℕ) (node : Node) → slice ≡ nodes → i < length nodes → node ≡ get_or slice i node → node ≡ node_at nodes i
node-read nodes slice i node e lt is = get_or_read nodes i node lt (is ∙ ap (λ xs. get_or xs i node) e) (Lit Undef)
