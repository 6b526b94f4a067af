use Rattle.micro_m.specs.ReadTests.{is_in_run}
use Rattle.why_report.specs.inner.Plans.{Marks}
use Rattle.why_report.proofs.marks.mark_rest.Given as goal

abbrev pub invariant-loop-passed : goal.invariant-loop-passed
invariant-loop-passed l = Marks l.spots l.initial.marked l.marked (is_in_run l.first l.passed)
