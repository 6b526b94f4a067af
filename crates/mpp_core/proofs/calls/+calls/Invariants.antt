use Rattle.std.proofs.Common.{◌≡◌, ◌+◌, ◌*◌, ◌++◌, drop}
use Rattle.driver_core.specs.Actions.{action_nodes, nodes_of_block}
use Rattle.driver_core.specs.ActionView.{block_of}
use Rattle.mpp_core.specs.inner.Calls.{block_steps}
use Rattle.mpp_core.proofs.calls.+calls.Given as goal

abbrev pub decreases-add_action : goal.decreases-add_action
decreases-add_action l = 2 * action_nodes l.command.now

abbrev pub decreases-add_calls : goal.decreases-add_calls
decreases-add_calls l = 2 * nodes_of_block (block_of l.commands.now) + 1

abbrev pub invariant-add_calls-loop-command : goal.invariant-add_calls-loop-command
invariant-add_calls-loop-command l = l.steps.items ++ block_steps (block_of (drop l.command-index l.commands)) ≡ l.initial.steps.items
    ++ block_steps (block_of l.commands)
