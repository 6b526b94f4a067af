use Rattle.std.proofs.Common.{⊎_elim, length}
use Rattle.std.proofs.lemmas.Bool.{cases_lt}
use Rattle.dirty_set.proofs.SetLemmas.{all_false}
use Rattle.dirty_set.proofs.set.Bits.clear.Goals as goal

pub returns : goal.returns
returns c =
    all_false c.loop-k.self (length c.args.self.now) c.loop-k.invariant.so_many
    (λ i. ⊎_elim (λ lt. c.loop-k.invariant.below i lt) (λ ge. c.in_default.ensures.next i ge) (cases_lt i c.loop-k.p))
