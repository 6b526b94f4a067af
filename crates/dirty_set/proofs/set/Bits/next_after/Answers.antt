use Rattle.std.proofs.Common.{length, ap, arith}
use Rattle.dirty_set.proofs.SetLemmas.{length-members}
use Rattle.dirty_set.proofs.set.Bits.next_after.Goals as goal

pub overflow_add-k : goal.overflow_add-k
overflow_add-k c =
    let s = c.self.inside in
    omega (arith, ap length c.self.view_is, length-members s.words.items s.count, c.requires, c.self.invariant.lower.within)
