use Rattle.std.proofs.Common.{arith}
use Rattle.driver_core.proofs.SumLemmas.{block-part}
use Rattle.mpp_inline.proofs.ruleless.+ruleless.Goals as goal

pub block_left-add_left-requires : goal.block_left-add_left-requires
block_left-add_left-requires t c = (
  omega (
    arith,
    block-part c.args.block.now c.loop-command.command-index c.command-item.result c.loop-command-test.true
        c.command-item.is,
  ),
  tt,
)
