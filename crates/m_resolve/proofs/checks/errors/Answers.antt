use Rattle.std.proofs.Common.{arith}
use Rattle.m_resolve.proofs.Words.{words_more}
use Rattle.m_resolve.proofs.checks.errors.Goals as goal

pub loop-number-preserved : goal.loop-number-preserved
loop-number-preserved c =
    words_more c.args.symbols.now.errors c.loop-number.number _ _ _ (omega (arith, c.loop-number-test.true, c.errors-number-end.ensures)) c.error.ensures
    c.loop-number.invariant (rw c.in_ok-words_of.ensures at c.in_ok-push.ensures.items)
