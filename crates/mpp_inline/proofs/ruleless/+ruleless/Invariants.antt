use Rattle.std.proofs.Common.{◌≡◌, ◌+◌, ◌*◌, [], drop}
use Rattle.driver_core.specs.Actions.{action_nodes, nodes_of_block}
use Rattle.driver_core.specs.ActionView.{block_of}
use Rattle.mpp_inline.specs.inner.Ruleless.{left_behind}
use Rattle.mpp_inline.proofs.ruleless.+ruleless.Given as goal

abbrev pub decreases-block_left : goal.decreases-block_left
decreases-block_left l = 3 * nodes_of_block (block_of l.block.now) + 1

abbrev pub decreases-add_left : goal.decreases-add_left
decreases-add_left l = 3 * action_nodes l.command.now

abbrev pub decreases-branch_left : goal.decreases-branch_left
decreases-branch_left l = 3 * (nodes_of_block (block_of l.first.now) + nodes_of_block (block_of l.second.now)) + 2

abbrev pub invariant-block_left-loop-command : goal.invariant-block_left-loop-command
invariant-block_left-loop-command l = left_behind l.made.items (block_of (drop l.command-index l.block)) ≡ left_behind [] (block_of l.block)
