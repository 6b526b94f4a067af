-- A command has more commands in it than each command in it.
use Rattle.std.specs.Prelude.{◌+◌, ◌≤◌, max, List, [], ◌∷◌}
use Rattle.std.proofs.Common.{arith}
use Rattle.mpp_parser.specs.declared.command.CommandNode.{CommandNode}
use Rattle.mpp_parser.specs.declared.command.CommandNode.TheVariants.{Set, Del, If, Partition, Call}
use Rattle.mpp_parser.specs.declared.command.Command.TheDeep.{deep-CommandNode}
use denote.Param.Weighed.{most}
use Rattle.mpp_parser.specs.Commands.{Act, act_nodes, nodes_of_acts}
use Rattle.mpp_parser.specs.CommandView.{command_of, block_of}

block_falls : (all : List Act) → most (λ s. act_nodes s + 1) all ≤ nodes_of_acts (block_of all)
block_falls [] = omega arith
block_falls (a ∷ rest) = omega (arith, block_falls rest)

pub falls : (n : CommandNode) → max (deep-CommandNode n) 0 ≤ act_nodes (command_of n)
falls (Set n c t) = omega arith
falls (Del n c) = omega arith
falls (If n t a b) = omega (arith, block_falls a.items, block_falls b.items)
falls (Partition n k a) = omega (arith, block_falls a.items)
falls (Call n cs f) = omega arith
