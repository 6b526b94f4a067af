use Rattle.std.proofs.Common.{arith}
use Rattle.loop_values.proofs.BoundLemmas.{all_bound}
use Rattle.loop_values.proofs.letters.bound_values.Goals as goal

pub returns : goal.returns
returns c = all_bound c.args.letters.now c.loop-letter.values.items c.loop-letter.letter (omega (arith, c.requires, c.loop-letter-test.false))
    c.loop-letter.invariant
