use Rattle.dead_rules.specs.inner.Steps.{Marks, IsOfACheck}
use Rattle.dead_rules.proofs.mark.mark_checks.Given as goal

abbrev pub invariant-loop-i : goal.invariant-loop-i
invariant-loop-i l = Marks (IsOfACheck l.checks l.i) l.initial.live l.live
