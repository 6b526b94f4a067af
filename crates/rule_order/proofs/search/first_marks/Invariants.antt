use Rattle.rule_order.proofs.MarkLemmas.{AreMarked}
use Rattle.rule_order.proofs.search.first_marks.Given as goal

abbrev pub invariant-loop-position : goal.invariant-loop-position
invariant-loop-position l = AreMarked l.base l.marks.items l.position
