use Rattle.std.proofs.Common.{◌≡◌, ◌+◌, ◌*◌, ◌<◌, ◌^◌, drop, get_or}
use Rattle.driver_core.specs.Actions.{action_nodes, nodes_of_block}
use Rattle.driver_core.specs.ActionView.{block_of}
use Rattle.driver_core.specs.Weights.{block_weight}
use Rattle.driver_core.specs.inner.Capped.{capped}
use Rattle.driver_core.proofs.weigh_blocks.+weigh.Given as goal

abbrev pub decreases-weigh_block : goal.decreases-weigh_block
decreases-weigh_block l = 2 * nodes_of_block (block_of l.block.now) + 1

abbrev pub decreases-weigh_command : goal.decreases-weigh_command
decreases-weigh_command l = 2 * action_nodes l.command.now

abbrev pub invariant-weigh_block-loop-command : goal.invariant-weigh_block-loop-command
invariant-weigh_block-loop-command l = record {
  sum : capped (l.total + block_weight l.rules l.cells (λ f. get_or l.table f 0) (block_of (drop l.command-index l.block))) ≡ capped
      (block_weight l.rules l.cells (λ f. get_or l.table f 0) (block_of l.block));
  fits : l.total < 2 ^ 64;
}
