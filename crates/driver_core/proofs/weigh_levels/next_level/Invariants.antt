use Rattle.std.proofs.Common.{◌≡◌, take, map}
use Rattle.std.specs.Prelude.{slice_index_or}
use Rattle.driver_core.specs.ActionView.{block_of}
use Rattle.driver_core.specs.Weights.{block_weight}
use Rattle.driver_core.specs.inner.Capped.{capped}
use Rattle.driver_core.proofs.weigh_levels.next_level.Given as goal

abbrev pub invariant-loop-body : goal.invariant-loop-body
invariant-loop-body l = l.next.items ≡ map (λ commands. capped (block_weight l.rules l.cells (λ f. slice_index_or l.weights f 0) (block_of commands)))
    (take l.body-index l.bodies)
