use Rattle.std.proofs.Common.{◌-◌}
use Rattle.why_report.proofs.PassLemmas.{IsPass}
use Rattle.why_report.proofs.needed.find_needed.Given as goal

abbrev pub invariant-loop-spot : goal.invariant-loop-spot
invariant-loop-spot l = IsPass l.ordered.value l.cell l.plan l.marked l.known l.needed l.from l.at

abbrev pub decreases-loop-spot : goal.decreases-loop-spot
decreases-loop-spot l = l.ordered.value.base.cells - l.from
