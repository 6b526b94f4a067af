use Rattle.std.proofs.Common.{◌≡◌, true, take}
use Rattle.household.specs.Table.{are_fitting}
use Rattle.household.proofs.codes.Codes.all_fit.Given as goal

abbrev pub invariant-loop-pair : goal.invariant-loop-pair
invariant-loop-pair l = are_fitting l.self (take l.pair-index l.pairs) ≡ true
