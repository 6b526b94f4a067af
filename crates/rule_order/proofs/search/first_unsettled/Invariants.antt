use Rattle.rule_order.specs.inner.Marks.{AllPassed, KnowsSettled}
use Rattle.rule_order.proofs.search.first_unsettled.Given as goal

abbrev pub invariant-loop-place : goal.invariant-loop-place
invariant-loop-place l = KnowsSettled l.marks l.known × AllPassed l.marks l.reads l.from l.place
