use Rattle.std.proofs.Common.{arith}
use Rattle.driver_core.proofs.SumLemmas.{block-part}
use Rattle.driver_core.proofs.weigh_blocks.+done.Goals as goal

pub calls_are_done-command_is_done-requires : goal.calls_are_done-command_is_done-requires
calls_are_done-command_is_done-requires t
    c = (omega (arith, block-part c.args.block.now c.loop-command.command-index c.command-item.result c.loop-command-test.true c.command-item.is), tt)
