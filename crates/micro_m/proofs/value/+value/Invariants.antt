use Rattle.std.proofs.Common.{◌≡◌, drop}
use Rattle.micro_m.specs.Views.{steps_of}
use Rattle.micro_m.specs.Values.{environment, folded}
use Rattle.micro_m.proofs.value.+value.Given as goal

abbrev pub invariant-folded-loop-step : goal.invariant-folded-loop-step
invariant-folded-loop-step l = folded (environment l.values) l.value (steps_of (drop l.step-index l.steps)) ≡ folded (environment l.values) l.fn.so_far
    (steps_of l.steps)
