use Rattle.std.proofs.Common.{◌≤◌, ◌+◌, ◌*◌, length}
use Rattle.mpp_parser.specs.inner.Blocks.{command_at, commands_at, block_at}
use Rattle.mpp_parser.proofs.Manys.{Going}
use Rattle.mpp_parser.proofs.blocks.+blocks.Given as goal

abbrev pub decreases-read_block : goal.decreases-read_block
decreases-read_block l = 8 * l.depth

abbrev pub decreases-read_otherwise : goal.decreases-read_otherwise
decreases-read_otherwise l = 8 * l.depth + 1

abbrev pub decreases-read_written : goal.decreases-read_written
decreases-read_written l = 8 * l.depth + 2

abbrev pub decreases-read_command : goal.decreases-read_command
decreases-read_command l = 8 * l.depth + 3

abbrev pub decreases-read_commands : goal.decreases-read_commands
decreases-read_commands l = 8 * l.depth + 4

abbrev pub invariant-read_commands-commands : goal.invariant-read_commands-commands
invariant-read_commands-commands l = record {
  shorter : length l.lines ≤ length l.fn.lines;
  going : Going (command_at (block_at l.depth) l.indent) (commands_at (block_at l.depth) l.indent l.fn.lines) l.commands.items l.lines;
}

abbrev pub decreases-read_commands-commands : goal.decreases-read_commands-commands
decreases-read_commands-commands l = length l.lines
