use Rattle.why_report.specs.inner.Standing.{AllStand}
use Rattle.why_report.proofs.standing.rest_is_marked.Given as goal

abbrev pub invariant-loop-passed : goal.invariant-loop-passed
invariant-loop-passed l = AllStand l.marks l.first l.passed
