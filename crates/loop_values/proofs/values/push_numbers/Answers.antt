use Rattle.std.proofs.Common.{length, ◌+◌}
use Rattle.loop_values.proofs.Numbers.{range_push}
use Rattle.loop_values.specs.Values.{number_word}
use Rattle.loop_values.proofs.values.push_numbers.Goals as goal

pub loop-n-preserved : goal.loop-n-preserved
loop-n-preserved c =
    range_push (number_word (length c.args.from.now)) c.loop-n.values.items _ _ c.loop-n.n (c.number-behind.result + 1) _ c.loop-n-test.true c.loop-n.invariant
    c.in_ok-number_word.ensures c.in_ok-push.ensures.items
