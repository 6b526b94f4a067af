use Rattle.std.proofs.Common.{arith}
use Rattle.household_session.proofs.ByteLemmas.{kept_front, kept_there}
use Rattle.household_session.proofs.pieces.keep.Goals as goal

pub returns-clause-front : goal.returns-clause-front
returns-clause-front c =
    kept_front c.args.room.now c.copy_within.new.self c.args.from c.args.filled c.min-count.result c.requires.order c.requires.within c.min-count.ensures
    c.copy_within.ensures.after

pub returns-then-from-eq0-clause-front : goal.returns-then-from-eq0-clause-front
returns-then-from-eq0-clause-front c =
    kept_there c.args.room.now c.args.from c.args.filled c.min-count.result c.if-from-eq0.true (omega (arith, c.min-count.ensures))
