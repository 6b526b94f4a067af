use Rattle.std.proofs.Common.{◌≡◌, ◌++◌, drop, map}
use Rattle.m_facts.specs.Found.{node_of}
use Rattle.m_facts.proofs.find.nodes_of.Given as goal

abbrev pub invariant-loop-k : goal.invariant-loop-k
invariant-loop-k l = l.wanted.items ++ map (node_of l.nodes) (drop l.k-index l.outputs) ≡ map (node_of l.nodes) l.outputs
