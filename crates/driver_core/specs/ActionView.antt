-- The command of a node, and the block of a list of commands.
use Rattle.std.specs.Prelude.{List, [], ◌∷◌}
use Rattle.driver_core.specs.declared.command.CCommandNode.{CCommandNode}
use Rattle.driver_core.specs.declared.command.CCommandNode.TheVariants.{Set, Del, If, Partition, Call, Rules}
use Rattle.driver_core.specs.Leaves.{rule_term}
use Rattle.driver_core.specs.Actions.{Action, assign, clear, branch, partition, call, solve, Block, no_actions, an_action}

abbrev pub block_of : List Action → Block
block_of [] = no_actions
block_of (action ∷ rest) = an_action action (block_of rest)

abbrev pub action_of : CCommandNode → Action
action_of (Set line c term) = assign line c (rule_term term)
action_of (Del line c) = clear line c
action_of (If line condition first second) = branch line (rule_term condition) (block_of first.items) (block_of second.items)
action_of (Partition line cells block) = partition line cells (block_of block.items)
action_of (Call line names received function) = call line names received function
action_of (Rules line names received) = solve line names received
