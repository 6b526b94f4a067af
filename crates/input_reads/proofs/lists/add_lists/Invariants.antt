use Rattle.std.proofs.Common.{◌≡◌, ◌++◌}
use Rattle.input_reads.specs.inner.Lists.{lists_in}
use Rattle.input_reads.proofs.lists.add_lists.Given as goal

abbrev pub invariant-loop-list : goal.invariant-loop-list
invariant-loop-list l = l.found.items ≡ l.initial.found.items ++ lists_in l.yielded
