use Rattle.std.proofs.Common.{◌≡◌, ◌++◌, drop, map}
use Rattle.flat_code.specs.Facts.{fact_at}
use Rattle.m_facts.proofs.find.facts_at.Given as goal

abbrev pub invariant-loop-p : goal.invariant-loop-p
invariant-loop-p l = l.facts.items ++ map (fact_at l.known) (drop l.p-index l.nodes) ≡ map (fact_at l.known) l.nodes
