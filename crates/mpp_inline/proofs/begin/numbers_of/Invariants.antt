use Rattle.std.proofs.Common.{◌≡◌, ◌++◌, drop}
use Rattle.mpp_inline.specs.inner.Observation.{numbers_of}
use Rattle.mpp_inline.proofs.begin.numbers_of.Given as goal

abbrev pub invariant-loop-number : goal.invariant-loop-number
invariant-loop-number l = l.numbers.items ++ numbers_of (drop l.number-index l.notes) ≡ numbers_of l.notes
