use Rattle.input_reads.specs.inner.Lists.{lists_in, IsPut}
use Rattle.input_reads.proofs.lists.put_by_mask.Given as goal

abbrev pub invariant-loop-rest : goal.invariant-loop-rest
invariant-loop-rest l = IsPut l.mask l.rest l.n (lists_in l.initial.lists) (lists_in l.lists)

abbrev pub decreases-loop-rest : goal.decreases-loop-rest
decreases-loop-rest l = l.rest
