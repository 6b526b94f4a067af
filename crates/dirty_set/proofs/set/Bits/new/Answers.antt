use Rattle.dirty_set.proofs.SetLemmas.{none_of_zeros}
use Rattle.dirty_set.proofs.set.Bits.new.Goals as goal

pub returns : goal.returns
returns c = none_of_zeros _ _ _ (c.in_ok-words.ensures.items_if_clones_equal (λ y h. h))
