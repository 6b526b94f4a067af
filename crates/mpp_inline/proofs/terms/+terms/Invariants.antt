use Rattle.std.proofs.Common.{◌≤◌, ◌+◌, ◌*◌, drop}
use Rattle.micro_m.specs.Values.{environment}
use Rattle.micro_m.specs.Leaves.{along_written}
use Rattle.micro_m.specs.Views.{steps_of}
use Rattle.micro_m.specs.Values.{folded}
use Rattle.driver_core.specs.Weights.{steps_weight}
use Rattle.mpp_inline.specs.inner.Growth.{IsUsable, at, denoted, Sane, Known, Along}
use Rattle.mpp_inline.specs.inner.Sizes.{load}
use Rattle.mpp_inline.proofs.terms.+terms.Given as goal

abbrev pub invariant-emit_steps-loop-step : goal.invariant-emit_steps-loop-step
invariant-emit_steps-loop-step g l = record {
  step : Sane l.fn.b → Known l.fn.b l.env → IsUsable l.fn.b l.fn.so_far
      → Along l.fn.b l.b (λ inputs v. folded (environment (denoted l.fn.b inputs l.env))
      v (along_written g.L.Leaf.leaf_tree (steps_of (drop l.step-index l.steps))))
      (λ inputs. folded (environment (denoted l.fn.b inputs l.env)) (at l.fn.b inputs l.fn.so_far) (along_written g.L.Leaf.leaf_tree (steps_of l.steps)))
      l.number;
  size : load l.b + 2 * steps_weight (along_written g.L.Leaf.leaf_tree (steps_of (drop l.step-index l.steps)))
      ≤ load l.fn.b + 2 * steps_weight (along_written g.L.Leaf.leaf_tree (steps_of l.steps));
}
