use Rattle.std.proofs.Common.{drop}
use Rattle.std.specs.List.{AllByRecursion}
use Rattle.code_file.specs.Reading.{IsFittingLabel}
use Rattle.code_file.proofs.fits.labels_fit.Given as goal

abbrev pub invariant-loop-k : goal.invariant-loop-k
invariant-loop-k l = AllByRecursion IsFittingLabel (drop l.k l.labels) → AllByRecursion IsFittingLabel l.labels
