use Rattle.std.proofs.Common.{◌≡◌, ◌+◌, drop}
use Rattle.micro_m.specs.Trees.{nodes, nodes_all, nodes_along}
use Rattle.micro_m.specs.Views.{trees_of, steps_of}
use Rattle.micro_m.specs.Values.{environment, folded, value_in}
use Rattle.micro_m.proofs.SlowLemmas.{reach}
use Rattle.micro_m.proofs.slow.+slow.Given as goal

abbrev pub decreases-slow_argument : goal.decreases-slow_argument
decreases-slow_argument l = reach l.base.now l.turns + nodes_all (trees_of l.arguments.now)

abbrev pub decreases-slow_cell : goal.decreases-slow_cell
decreases-slow_cell l = reach l.base.now l.turns

abbrev pub decreases-slow_fold : goal.decreases-slow_fold
decreases-slow_fold l = reach l.base.now l.turns + nodes_along (steps_of l.steps.now)

abbrev pub decreases-slow_term : goal.decreases-slow_term
decreases-slow_term l = reach l.base.now l.turns + nodes l.term.now

abbrev pub invariant-slow_fold-loop-step : goal.invariant-slow_fold-loop-step
invariant-slow_fold-loop-step l =
    let values = value_in l.base (environment l.env) l.turns in
    folded values l.value (steps_of (drop l.step-index l.steps)) ≡ folded values l.fn.so_far (steps_of l.steps)
