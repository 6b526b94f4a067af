-- Termination of the direct evaluator: a turn adds more to the measure than the nodes of any term.
use Rattle.std.proofs.Common.{◌≡◌, ℕ, zero, suc, ◌+◌, ◌*◌, ◌-◌, ◌<◌, ◌≤◌, max, true, false, cond, nat_eq, List, [], ◌∷◌, length, get_or, Some, ap, sym, ◌∙◌}
use Rattle.std.proofs.Common.{arith}
use Rattle.micro_m.specs.Trees.{Tree, nodes, nodes_all, nodes_along}
use Rattle.micro_m.specs.Views.{trees_of, steps_of}
use Rattle.micro_m.specs.declared.base.Base.{Base}
use Rattle.micro_m.specs.declared.term.Step.{Step}
use Rattle.micro_m.specs.Bases.{Definition, definition_among, definition_of}
use Rattle.micro_m.proofs.NumberLemmas.{cases}

-- the nodes of the greatest term
abbrev pub greatest : List Definition → ℕ
greatest [] = 0
greatest (d ∷ ds) = max (nodes d.1) (greatest ds)

-- the measure of a number of turns
abbrev pub reach : Base → ℕ → ℕ
reach base turns = turns * (greatest base.definitions + 2)

nodes-greatest-among : (ds : List Definition) (c : ℕ) (t : Tree) → definition_among ds c ≡ Some t → nodes t ≤ greatest ds
nodes-greatest-among [] c t e = absurd (cc)
nodes-greatest-among (d ∷ ds) c t e = cases (nat_eq c d.0)
    (λ (y : nat_eq c d.0 ≡ true).
    let is : Some d.1 ≡ Some t = sym (ap (λ b. cond b (Some d.1) (definition_among ds c)) y) ∙ e in
    let same : d.1 ≡ t = cc in
    let n : nodes d.1 ≡ nodes t = ap nodes same in omega arith)
    (λ (n : nat_eq c d.0 ≡ false).
    let low = nodes-greatest-among ds c t (sym (ap (λ b. cond b (Some d.1) (definition_among ds c)) n) ∙ e) in omega arith)

pub reach-less : (base : Base) (c turns : ℕ) (t : Tree) → 1 ≤ turns → definition_of base c ≡ Some t → reach base (turns - 1) + nodes t < reach base turns
reach-less base c zero t h e = absurd (omega arith)
reach-less base c (suc turns) t h e =
    let low = nodes-greatest-among base.definitions c t e in
    let is : suc turns - 1 ≡ turns = omega arith in
    rw is (grind arith)

pub nodes-argument : (all : List Tree) (at : ℕ) (x : Tree) → at < length all → x ≡ get_or all at x → nodes x < nodes_all (trees_of all)
nodes-argument [] at x h e = absurd (omega arith)
nodes-argument (a ∷ all) zero x h e = let n : nodes x ≡ nodes a = ap nodes e in omega arith
nodes-argument (a ∷ all) (suc at) x h e = let low = nodes-argument all at x (omega arith) e in omega arith

pub nodes-step : (all : List (Step ℕ)) (at : ℕ) (x : Step ℕ) → at < length all → x ≡ get_or all at x → nodes x.term < nodes_along (steps_of all)
nodes-step [] at x h e = absurd (omega arith)
nodes-step (a ∷ all) zero x h e = let n : nodes x.term ≡ nodes a.term = ap (λ (s : Step ℕ). nodes s.term) e in omega arith
nodes-step (a ∷ all) (suc at) x h e = let low = nodes-step all at x (omega arith) e in omega arith
