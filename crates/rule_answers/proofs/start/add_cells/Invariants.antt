use Rattle.std.proofs.Common.{◌≡◌, ◌++◌, replicate}
use Rattle.rule_answers.proofs.start.add_cells.Given as goal

abbrev pub invariant-loop-left : goal.invariant-loop-left
invariant-loop-left l = l.env.items ++ replicate l.left l.value ≡ l.initial.env.items ++ replicate l.cells l.value

abbrev pub decreases-loop-left : goal.decreases-loop-left
decreases-loop-left l = l.left
