use Rattle.std.proofs.Common.{◌≡◌, drop}
use Rattle.micro_m.specs.Views.{trees_of, steps_of}
use Rattle.m_lint.specs.inner.Marks.{reach_of_all, reach_along}
use Rattle.m_lint.proofs.reads.+reads.Given as goal

abbrev pub invariant-read_all-loop-argument : goal.invariant-read_all-loop-argument
invariant-read_all-loop-argument l = reach_of_all (trees_of (drop l.argument-index l.arguments)) l.reach ≡ reach_of_all (trees_of l.arguments) l.initial.reach

abbrev pub invariant-read_along-loop-step : goal.invariant-read_along-loop-step
invariant-read_along-loop-step l = reach_along (steps_of (drop l.step-index l.steps)) l.reach ≡ reach_along (steps_of l.steps) l.initial.reach
