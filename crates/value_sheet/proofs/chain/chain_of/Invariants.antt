use Rattle.std.proofs.Common.{◌≤◌, length}
use Rattle.value_sheet.specs.inner.EdgeChain.{IsChain}
use Rattle.value_sheet.proofs.chain.chain_of.Given as goal

abbrev pub invariant-loop-left : goal.invariant-loop-left
invariant-loop-left l = record {
  chain : IsChain l.sources l.count l.left l.firsts.items l.nexts.items;
  within : l.left ≤ length l.sources;
}

abbrev pub decreases-loop-left : goal.decreases-loop-left
decreases-loop-left l = l.left
