use Rattle.dirty_set.proofs.WordLemmas.{lowest_of}
use Rattle.dirty_set.proofs.words.lowest.Goals as goal

pub returns : goal.returns
returns c = let h = lowest_of c.args.word c.ranges.word.fits c.requires in record { next = h.0; within = h.1 }
