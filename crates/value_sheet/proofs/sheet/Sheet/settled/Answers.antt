use Rattle.std.proofs.Common.{length, refl, rules}
use Rattle.dirty_set.proofs.SetLemmas.{all_false}
use Rattle.value_sheet.proofs.SettleLemmas.{unput_same}
use Rattle.value_sheet.proofs.sheet.Sheet.settled.Goals as goal

pub returns-in-None-clause-unput : goal.returns-in-None-clause-unput
returns-in-None-clause-unput c =
    let s = c.self.inside in
    (λ h. rw (← c.self.view_is) (all_false s.puts (length s.puts) refl (λ k. c.in-None.ensures.next k)), λ h. search rules)

pub returns-in-None-clause-settled : goal.returns-in-None-clause-settled
returns-in-None-clause-settled c h =
    let s = c.self.inside in
    rw (← c.self.view_is)
    (unput_same s.tidy.inputs s.last.value.items s.inputs.items s.puts c.self.invariant.before c.self.invariant.given c.self.invariant.same
    (λ k. c.in-None.ensures.next k))
