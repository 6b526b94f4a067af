use Rattle.std.proofs.Common.{◌+◌}
use Rattle.loop_values.proofs.Numbers.{range_push}
use Rattle.loop_values.specs.Values.{letter_word}
use Rattle.loop_values.proofs.values.push_letters.Goals as goal

pub loop-letter-preserved : goal.loop-letter-preserved
loop-letter-preserved c =
    range_push letter_word c.loop-letter.values.items _ _ c.loop-letter.letter (c.args.to + 1) _ c.loop-letter-test.true c.loop-letter.invariant
    c.in_ok-new.ensures c.in_ok-push.ensures.items
