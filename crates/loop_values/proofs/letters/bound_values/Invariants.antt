use Rattle.std.proofs.Common.{◌≡◌, ◌++◌, drop}
use Rattle.loop_values.specs.inner.Bound.{bound_from}
use Rattle.loop_values.proofs.letters.bound_values.Given as goal

abbrev pub invariant-loop-letter : goal.invariant-loop-letter
invariant-loop-letter l = l.values.items ++ bound_from l.letter (drop l.letter l.letters) ≡ bound_from 0 l.letters
