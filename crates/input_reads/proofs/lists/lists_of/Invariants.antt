use Rattle.input_reads.specs.inner.Lists.{lists_in, AreLists}
use Rattle.input_reads.proofs.lists.lists_of.Given as goal

abbrev pub invariant-loop-n : goal.invariant-loop-n
invariant-loop-n l = AreLists l.masks l.n l.count (lists_in l.lists.items)
