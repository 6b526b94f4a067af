use Rattle.rule_order.specs.inner.Runs.{run}
use Rattle.rule_order.specs.inner.Marks.{RunIsSettled}
use Rattle.rule_order.proofs.search.passed_from.Given as goal

abbrev pub invariant-loop-passed : goal.invariant-loop-passed
invariant-loop-passed l = RunIsSettled l.marks (run l.run.first l.passed)
