use Rattle.std.proofs.Common.{◌≡◌, ◌-◌, length}
use Rattle.household.specs.inner.Cuts.{left_at}
use Rattle.household.proofs.cuts.record_end.Given as goal

abbrev pub invariant-loop-at : goal.invariant-loop-at
invariant-loop-at l = left_at l.bytes l.at ≡ left_at l.bytes l.fn.from

abbrev pub decreases-loop-at : goal.decreases-loop-at
decreases-loop-at l = length l.bytes - l.at
