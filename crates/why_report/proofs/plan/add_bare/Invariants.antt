use Rattle.std.proofs.Common.{◌≡◌, ◌≤◌, ◌++◌}
use Rattle.why_report.specs.Reasons.{bare_below}
use Rattle.why_report.proofs.plan.add_bare.Given as goal

abbrev pub invariant-loop-left : goal.invariant-loop-left
invariant-loop-left l = (l.left ≤ l.base.cells) × (l.cells.items ++ bare_below l.base l.left ≡ l.initial.cells.items ++ bare_below l.base l.base.cells)

abbrev pub decreases-loop-left : goal.decreases-loop-left
decreases-loop-left l = l.left
