-- The command of a node, and the block of a list of commands.
use Rattle.std.specs.Prelude.{List, [], ◌∷◌}
use Rattle.mpp_parser.specs.declared.command.CommandNode.{CommandNode}
use Rattle.mpp_parser.specs.declared.command.CommandNode.TheVariants.{Set, Del, If, Partition, Call}
use Rattle.mpp_parser.specs.Commands.{Act, set, del, when, partition, call, Acts, no_acts, an_act}

abbrev pub block_of : List Act → Acts
block_of [] = no_acts
block_of (a ∷ rest) = an_act a (block_of rest)

abbrev pub command_of : CommandNode → Act
command_of (Set n c t) = set n c t
command_of (Del n c) = del n c
command_of (If n t a b) = when n t (block_of a.items) (block_of b.items)
command_of (Partition n k a) = partition n k (block_of a.items)
command_of (Call n cs f) = call n cs f
