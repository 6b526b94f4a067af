use Rattle.std.proofs.Common.{◌≡◌, length, drop}
use Rattle.micro_m.specs.Views.{trees_of, steps_of}
use Rattle.micro_m.specs.Bases.{AreWithin, StepsAreWithin}
use Rattle.why_report.specs.inner.Standing.{KnowsStanding, arguments_stand, steps_stand}
use Rattle.why_report.proofs.standing.+standing.Given as goal

abbrev pub invariant-arguments_stand-loop-argument : goal.invariant-arguments_stand-loop-argument
invariant-arguments_stand-loop-argument l =
    KnowsStanding l.marks l.known
    × AreWithin (length l.marks) (trees_of (drop l.argument-index l.arguments))
    × (arguments_stand l.marks (trees_of (drop l.argument-index l.arguments)) ≡ arguments_stand l.marks (trees_of l.arguments))

abbrev pub invariant-steps_stand-loop-step : goal.invariant-steps_stand-loop-step
invariant-steps_stand-loop-step l =
    KnowsStanding l.marks l.known
    × StepsAreWithin (length l.marks) (steps_of (drop l.step-index l.steps))
    × (steps_stand l.marks (steps_of (drop l.step-index l.steps)) ≡ steps_stand l.marks (steps_of l.steps))
