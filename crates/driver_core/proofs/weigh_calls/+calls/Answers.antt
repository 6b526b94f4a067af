use Rattle.std.proofs.Common.{arith}
use Rattle.driver_core.proofs.SumLemmas.{block-part}
use Rattle.driver_core.proofs.weigh_calls.+calls.Goals as goal

pub add_calls-add_call-requires : goal.add_calls-add_call-requires
add_calls-add_call-requires t c = (
  omega (
    arith,
    block-part c.args.block.now c.loop-command.command-index c.command-item.result c.loop-command-test.true
        c.command-item.is,
  ),
  tt,
)
