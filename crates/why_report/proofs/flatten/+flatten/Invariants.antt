use Rattle.std.proofs.Common.{◌≡◌, ◌++◌, drop}
use Rattle.micro_m.specs.Views.{trees_of, steps_of}
use Rattle.why_report.specs.inner.Parts.{argument_parts, step_parts}
use Rattle.why_report.proofs.flatten.+flatten.Given as goal

abbrev pub invariant-append_arguments-loop-argument : goal.invariant-append_arguments-loop-argument
invariant-append_arguments-loop-argument l =
    l.parts.items ++ argument_parts (trees_of (drop l.argument-index l.arguments)) ≡ l.initial.parts.items ++ argument_parts (trees_of l.arguments)

abbrev pub invariant-append_steps-loop-step : goal.invariant-append_steps-loop-step
invariant-append_steps-loop-step l =
    l.parts.items ++ step_parts (steps_of (drop l.step-index l.steps)) ≡ l.initial.parts.items ++ step_parts (steps_of l.steps)
