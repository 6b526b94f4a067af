use Rattle.std.proofs.Common.{◌/◌}
use Rattle.dirty_set.proofs.WordLemmas.{none_near, none_behind, next_far}
use Rattle.dirty_set.proofs.words.next_summed.Goals as goal

pub returns-in-None : goal.returns-in-None
returns-in-None c =
    none_behind c.args.words.now c.args.summary.now c.args.p (c.args.p / 64) c.requires.summed
    (none_near c.args.words.now c.args.p c.in_default.ensures.next) c.in-None.ensures

pub returns-in-Some-next_one : goal.returns-in-Some-next_one
returns-in-Some-next_one c =
    next_far c.args.words.now c.args.summary.now c.args.p c.in-Some-next_one.v c.lowest.result c.requires.summed c.lowest.ensures.within
    c.in_default.ensures.next c.in-Some-next_one.ensures c.lowest.ensures.next
