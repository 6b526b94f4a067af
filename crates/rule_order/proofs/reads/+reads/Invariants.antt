use Rattle.std.proofs.Common.{◌≡◌, ◌++◌, drop}
use Rattle.micro_m.specs.Views.{trees_of, steps_of}
use Rattle.rule_order.specs.inner.Runs.{runs_among, runs_along}
use Rattle.rule_order.proofs.reads.+reads.Given as goal

abbrev pub invariant-add_all-loop-argument : goal.invariant-add_all-loop-argument
invariant-add_all-loop-argument l = l.runs.items ++ runs_among (trees_of (drop l.argument-index l.arguments)) ≡ l.initial.runs.items
    ++ runs_among (trees_of l.arguments)

abbrev pub invariant-add_along-loop-step : goal.invariant-add_along-loop-step
invariant-add_along-loop-step l = l.runs.items ++ runs_along (steps_of (drop l.step-index l.steps)) ≡ l.initial.runs.items ++ runs_along (steps_of l.steps)
