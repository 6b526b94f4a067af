use Rattle.dead_rules.specs.inner.Steps.{Marks, IsAnOutput}
use Rattle.dead_rules.proofs.mark.mark_outputs.Given as goal

abbrev pub invariant-loop-i : goal.invariant-loop-i
invariant-loop-i l = Marks (IsAnOutput l.outputs l.i) l.initial.live l.live
