use Rattle.std.proofs.Common.{◌+◌, ◌*◌, drop}
use Rattle.driver_core.specs.Actions.{action_nodes, nodes_of_block}
use Rattle.driver_core.specs.ActionView.{block_of}
use Rattle.driver_core.specs.inner.WeightTable.{IsDone, CallsOnly}
use Rattle.driver_core.proofs.weigh_blocks.+done.Given as goal

abbrev pub decreases-calls_are_done : goal.decreases-calls_are_done
decreases-calls_are_done l = 2 * nodes_of_block (block_of l.block.now) + 1

abbrev pub decreases-command_is_done : goal.decreases-command_is_done
decreases-command_is_done l = 2 * action_nodes l.command.now

abbrev pub invariant-calls_are_done-loop-command : goal.invariant-calls_are_done-loop-command
invariant-calls_are_done-loop-command l = CallsOnly (IsDone l.done) (block_of (drop l.command-index l.block)) → CallsOnly (IsDone l.done) (block_of l.block)
