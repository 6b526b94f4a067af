use Rattle.std.proofs.Common.{◌≡◌, drop, length}
use Rattle.std.specs.Prelude.{fold, ◌++◌, [], ◌∷◌}
use Rattle.flat_code.specs.Facts.{facts_with}
use Rattle.flat_code.specs.Runs.{AreNodes, entry_of, entries_of}
use Rattle.m_lint.proofs.facts.facts_of.Given as goal

abbrev pub invariant-loop-node : goal.invariant-loop-node
invariant-loop-node l =
    (fold (λ known node. known ++ entry_of (facts_with l.given) known node ∷ []) l.known.items (drop l.node-index l.nodes) ≡ entries_of (facts_with l.given)
    l.nodes)
    × AreNodes l.inputs (length l.known.items) (drop l.node-index l.nodes)
    × (length l.known.items ≡ l.node-index)
