use Rattle.std.proofs.Common.{drop}
use Rattle.std.specs.List.{AllByRecursion}
use Rattle.code_file.specs.Reading.{IsFittingOutput}
use Rattle.code_file.proofs.fits.outputs_fit.Given as goal

abbrev pub invariant-loop-k : goal.invariant-loop-k
invariant-loop-k l = AllByRecursion IsFittingOutput (drop l.k l.outputs) → AllByRecursion IsFittingOutput l.outputs
