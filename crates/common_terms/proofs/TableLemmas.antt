-- The contents of a table of nodes after a node is entered.
use Rattle.std.proofs.Common.{◌≡◌, ℕ, ◌+◌, ◌<◌, ◌⊎◌, List, [], ◌∷◌, ◌++◌, length, ◌≤◌, refl, ap, sym, subst, ◌∙◌, inl, inr, ⊎_elim, arith}
use Rattle.std.specs.Prelude.{Result, Ok, Err, IfOk, OnOk, OnErr}
use Rattle.std.proofs.lemmas.Bool.{cases_lt}
use Rattle.std.proofs.lemmas.List.{length_push}
use Rattle.flat_code.specs.declared.program.Node.{Node}
use Rattle.flat_code.specs.Entries.{node_at}
use Rattle.flat_code.proofs.ReadLemmas.{node-push, node-last}
use Rattle.common_terms.specs.Numbers.{IsAbsent, AreApart, IsEntered}

-- a node that was found
pub entered-found : (nodes : List Node) (node : Node) (k : ℕ) → k < length nodes → node_at nodes k ≡ node → IsEntered nodes nodes node k
entered-found nodes node k lt is = record { within = lt; is = is; adds = inl refl }

-- a node that was added
pub entered-added : {E : Type 0} (r : Result ℕ E) (old mid new : List Node) (node : Node) → mid ≡ old → IsAbsent old node → IfOk r (λ k. k ≡ length mid)
    → OnOk r (new ≡ mid ++ node ∷ []) → IfOk r (IsEntered old new node)
entered-added (Err e) old mid new node same absent number added = tt
entered-added (Ok k) old mid new node same absent number added =
    let whole : new ≡ old ++ node ∷ [] = added ∙ ap (λ xs. xs ++ node ∷ []) same in
    let place : k ≡ length old = number ∙ ap length same in
    let size : length new ≡ length old + 1 = ap length whole ∙ length_push old node in
    record {
      within = omega arith;
      is = ap (λ xs. node_at xs k) whole ∙ node-last old node k place;
      adds = inr (whole, absent);
    }

pub apart-none : AreApart []
apart-none p q lt l e = absurd (omega arith)

push-cases : (nodes : List Node) (node : Node) (p : ℕ) → p < length (nodes ++ node ∷ []) → (p < length nodes) ⊎ (p ≡ length nodes)
push-cases nodes node p lt = ⊎_elim (λ l. inl l) (λ (g : length nodes ≤ p). let e : p ≡ length nodes = omega (arith, length_push nodes node) in inr e)
    (cases_lt p (length nodes))

apart-push : (nodes : List Node) (node : Node) → AreApart nodes → IsAbsent nodes node → AreApart (nodes ++ node ∷ [])
apart-push nodes node apart absent p q lp lq e = ⊎_elim
    (λ l. ⊎_elim
    (λ k. apart p q l k (sym (node-push nodes node p l) ∙ e ∙ node-push nodes node q k))
    (λ d. absurd (absent p l (sym (node-push nodes node p l) ∙ e ∙ node-last nodes node q d)))
    (push-cases nodes node q lq))
    (λ d. ⊎_elim
    (λ k. absurd (absent q k (sym (node-push nodes node q k) ∙ sym e ∙ node-last nodes node p d)))
    (λ d'. d ∙ sym d')
    (push-cases nodes node q lq))
    (push-cases nodes node p lp)

-- no two nodes are equal after one was entered
pub apart-entered : (old new : List Node) (node : Node) (k : ℕ) → AreApart old → IsEntered old new node k → AreApart new
apart-entered old new node k apart entered = ⊎_elim
    (λ e. subst AreApart (sym e) apart)
    (λ a. subst AreApart (sym a.0) (apart-push old node apart a.1))
    entered.adds

-- at most one node is added
few-entered : (old new : List Node) (node : Node) (k : ℕ) → IsEntered old new node k → length new ≤ length old + 1
few-entered old new node k entered = ⊎_elim
    (λ e. let z : length new ≡ length old = ap length e in omega arith)
    (λ a. let z : length new ≡ length old + 1 = ap length a.0 ∙ length_push old node in omega arith)
    entered.adds

-- the same, for every result of the table
pub apart-either : {E : Type 0} (r : Result ℕ E) (old new : List Node) (node : Node) → AreApart old → IfOk r (IsEntered old new node) → OnErr r (new ≡ old)
    → AreApart new
apart-either (Ok k) old new node apart entered same = apart-entered old new node k apart entered
apart-either (Err e) old new node apart entered same = subst AreApart (sym same) apart

pub few-either : {E : Type 0} (r : Result ℕ E) (old new : List Node) (node : Node) → IfOk r (IsEntered old new node) → OnErr r (new ≡ old)
    → length new ≤ length old + 1
few-either (Ok k) old new node entered same = few-entered old new node k entered
few-either (Err e) old new node entered same = let z : length new ≡ length old = ap length same in omega arith

pub err-then : {X E : Type 0} (r : Result X E) {P Q : Type 0} → (P → Q) → OnErr r P → OnErr r Q
err-then (Ok x) f p = tt
err-then (Err e) f p = f p
