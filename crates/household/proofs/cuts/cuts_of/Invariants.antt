use Rattle.std.proofs.Common.{length}
use Rattle.household.specs.inner.Cuts.{left_at}
use Rattle.household.proofs.CutLemmas.{CutsTo}
use Rattle.household.proofs.cuts.cuts_of.Given as goal

abbrev pub invariant-loop-next : goal.invariant-loop-next
invariant-loop-next l = record {
  so_far : CutsTo l.bytes (left_at l.bytes l.fn.first) l.cuts.items l.cut;
}

abbrev pub decreases-loop-next : goal.decreases-loop-next
decreases-loop-next l = length (left_at l.bytes l.cut)
