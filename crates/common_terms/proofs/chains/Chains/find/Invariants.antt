use Rattle.std.proofs.Common.{◌%◌, length}
use Rattle.common_terms.proofs.ChainLemmas.{IsSearch}
use Rattle.common_terms.proofs.chains.Chains.find.Given as goal

abbrev pub invariant-loop-left : goal.invariant-loop-left
invariant-loop-left l = IsSearch l.self.nodes.items l.self.links.items l.self.heads.items l.node (l.hash % length l.self.heads.items) l.left

abbrev pub decreases-loop-left : goal.decreases-loop-left
decreases-loop-left l = l.left
