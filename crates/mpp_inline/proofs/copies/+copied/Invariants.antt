use Rattle.std.proofs.Common.{◌≡◌, take}
use Rattle.mpp_inline.proofs.copies.+copied.Given as goal

abbrev pub invariant-copied_terms-loop-term : goal.invariant-copied_terms-loop-term
invariant-copied_terms-loop-term l = l.copies.items ≡ take l.term-index l.terms

abbrev pub invariant-copied_steps-loop-step : goal.invariant-copied_steps-loop-step
invariant-copied_steps-loop-step l = l.copies.items ≡ take l.step-index l.steps
