-- A command has more commands in it than each command in it.
use Rattle.std.specs.Prelude.{◌+◌, ◌≤◌, max, List, [], ◌∷◌}
use Rattle.std.proofs.Common.{arith}
use Rattle.driver_core.specs.declared.command.CCommandNode.{CCommandNode}
use Rattle.driver_core.specs.declared.command.CCommandNode.TheVariants.{Set, Del, If, Partition, Call, Rules}
use Rattle.driver_core.specs.declared.command.CCommand.TheDeep.{deep-CCommandNode}
use denote.Param.Weighed.{most}
use Rattle.driver_core.specs.Actions.{Action, action_nodes, nodes_of_block}
use Rattle.driver_core.specs.ActionView.{action_of, block_of}

pub block_falls : (all : List Action) → most (λ s. action_nodes s + 1) all ≤ nodes_of_block (block_of all)
block_falls [] = omega arith
block_falls (a ∷ rest) = omega (arith, block_falls rest)

pub falls : (n : CCommandNode) → max (deep-CCommandNode n) 0 ≤ action_nodes (action_of n)
falls (Set n c t) = omega arith
falls (Del n c) = omega arith
falls (If n t a b) = omega (arith, block_falls a.items, block_falls b.items)
falls (Partition n cs a) = omega (arith, block_falls a.items)
falls (Call n m cs f) = omega arith
falls (Rules n m cs) = omega arith
