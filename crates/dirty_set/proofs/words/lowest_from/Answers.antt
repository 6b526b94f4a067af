use Rattle.std.proofs.Common.{arith}
use Rattle.dirty_set.proofs.WordLemmas.{none_from, lowest_is}
use Rattle.dirty_set.proofs.words.lowest_from.Goals as goal

pub returns-then-rest-eq0-clause-next : goal.returns-then-rest-eq0-clause-next
returns-then-rest-eq0-clause-next c i h = none_from c.args.word c.args.k c.if-rest-eq0.true i h

pub returns-else-rest-eq0-clause-next : goal.returns-else-rest-eq0-clause-next
returns-else-rest-eq0-clause-next c = (lowest_is c.args.word c.args.k c.ranges.word.fits (omega (arith, c.if-rest-eq0.false))).0

pub returns-else-rest-eq0-clause-within : goal.returns-else-rest-eq0-clause-within
returns-else-rest-eq0-clause-within c = (lowest_is c.args.word c.args.k c.ranges.word.fits (omega (arith, c.if-rest-eq0.false))).1
