use Rattle.std.proofs.Common.{drop}
use Rattle.std.specs.List.{AllByRecursion}
use Rattle.code_file.specs.inner.Read.{IsReadInstr}
use Rattle.code_file.proofs.fits.instrs_are_read.Given as goal

abbrev pub invariant-loop-place : goal.invariant-loop-place
invariant-loop-place l = AllByRecursion IsReadInstr (drop l.place l.code.instrs) → AllByRecursion IsReadInstr l.code.instrs
