use Rattle.std.proofs.Common.{◌+◌, ◌*◌}
use Rattle.driver_core.specs.Actions.{action_nodes, nodes_of_block}
use Rattle.driver_core.specs.ActionView.{block_of}
use Rattle.driver_core.proofs.weigh_calls.+calls.Given as goal

abbrev pub decreases-add_calls : goal.decreases-add_calls
decreases-add_calls l = 2 * nodes_of_block (block_of l.block.now) + 1

abbrev pub decreases-add_call : goal.decreases-add_call
decreases-add_call l = 2 * action_nodes l.command.now
