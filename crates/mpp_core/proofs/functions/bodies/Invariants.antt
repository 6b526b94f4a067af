use Rattle.std.proofs.Common.{◌≡◌, [], drop}
use Rattle.mpp_parser.specs.CommandView.{block_of as acts_of}
use Rattle.mpp_core.specs.Names.{resolved_each}
use Rattle.mpp_core.specs.Bodies.{resolved_acts}
use Rattle.mpp_core.proofs.functions.bodies.Given as goal

abbrev pub invariant-loop-function : goal.invariant-loop-function
invariant-loop-function l = resolved_each (λ f. resolved_acts l.scope l.names [] (acts_of f.body)) l.bodies.items (drop l.function-index l.functions)
    ≡ resolved_each (λ f. resolved_acts l.scope l.names [] (acts_of f.body)) [] l.functions
