use Rattle.std.proofs.Common.{◌≡◌, ◌+◌, ◌<◌, ◌^◌, drop}
use Rattle.micro_m.specs.Leaves.{all_written, along_written}
use Rattle.micro_m.specs.Views.{trees_of, steps_of}
use Rattle.driver_core.specs.Weights.{trees_weight, steps_weight}
use Rattle.driver_core.specs.inner.Capped.{capped}
use Rattle.driver_core.proofs.weigh_base.+trees.Given as goal

abbrev pub invariant-weigh_trees-loop-argument : goal.invariant-weigh_trees-loop-argument
invariant-weigh_trees-loop-argument g l = record {
  sum : capped (l.total + trees_weight (all_written g.L.Leaf.leaf_tree (trees_of (drop l.argument-index l.arguments))))
      ≡ capped (trees_weight (all_written g.L.Leaf.leaf_tree (trees_of l.arguments)));
  fits : l.total < 2 ^ 64;
}

abbrev pub invariant-weigh_steps-loop-step : goal.invariant-weigh_steps-loop-step
invariant-weigh_steps-loop-step g l = record {
  sum : capped (l.total + steps_weight (along_written g.L.Leaf.leaf_tree (steps_of (drop l.step-index l.steps))))
      ≡ capped (steps_weight (along_written g.L.Leaf.leaf_tree (steps_of l.steps)));
  fits : l.total < 2 ^ 64;
}
