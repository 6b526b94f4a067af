use Rattle.std.proofs.Common.{◌≡◌, ◌++◌, drop}
use Rattle.mpp_inline.specs.inner.Observation.{nodes_of}
use Rattle.mpp_inline.proofs.begin.nodes_of.Given as goal

abbrev pub invariant-loop-node : goal.invariant-loop-node
invariant-loop-node l = l.nodes.items ++ nodes_of (drop l.node-index l.notes) ≡ nodes_of l.notes
