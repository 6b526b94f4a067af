use Rattle.std.proofs.Common.{◌≡◌, ◌≤◌, [], length, drop}
use Rattle.why_report.specs.Reasons.{targets_down}
use Rattle.why_report.proofs.plan.add_targets.Given as goal

abbrev pub invariant-loop-left : goal.invariant-loop-left
invariant-loop-left l = (l.left ≤ length l.sequence) × (l.cells.items ≡ targets_down l.ordered.base (drop l.left l.sequence) [])

abbrev pub decreases-loop-left : goal.decreases-loop-left
decreases-loop-left l = l.left
