use Rattle.std.proofs.Common.{ℕ, ◌<◌, get_or}
use Rattle.flat_code.specs.declared.program.Check.{Check}
use Rattle.code_tests.proofs.programs.are_below.Given as goal

abbrev pub invariant-loop-i : goal.invariant-loop-i
invariant-loop-i l = (j : ℕ) (d : Check) → j < l.i → (get_or l.checks j d).label < l.labels
