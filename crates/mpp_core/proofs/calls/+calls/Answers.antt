use Rattle.std.proofs.Common.{arith}
use Rattle.mpp_core.proofs.CallLemmas.{command_size}
use Rattle.mpp_core.proofs.calls.+calls.Goals as goal

pub add_calls-add_action-requires : goal.add_calls-add_action-requires
add_calls-add_action-requires t c = (
  omega (arith, command_size c.args.commands.now c.loop-command.command-index _ c.loop-command-test.true c.command-item.is),
  tt,
)
