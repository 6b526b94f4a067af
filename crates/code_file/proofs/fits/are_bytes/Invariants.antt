use Rattle.std.proofs.Common.{drop}
use Rattle.std.specs.List.{AllByRecursion}
use Rattle.std.specs.Prelude.{◌<◌}
use Rattle.code_file.proofs.fits.are_bytes.Given as goal

abbrev pub invariant-loop-k : goal.invariant-loop-k
invariant-loop-k l = AllByRecursion (λ b. b < 256) (drop l.k l.text) → AllByRecursion (λ b. b < 256) l.text
