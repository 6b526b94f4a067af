use Rattle.std.proofs.Common.{◌≡◌, take, map}
use Rattle.std.specs.List.{sum_by}
use Rattle.index_expand.specs.Expansion.{condition_of}
use Rattle.index_expand.specs.Faults.{check_parts}
use Rattle.index_expand.specs.inner.Taken.{IsTaken}
use Rattle.index_expand.proofs.items.take_checks.Given as goal

abbrev pub invariant-loop-check : goal.invariant-loop-check
invariant-loop-check l = record {
  letters : l.letters ≡ l.initial.letters;
  taken : IsTaken l.initial.conditions.items l.conditions.items (map (condition_of l.verif) (take l.check-index l.check-items))
      (sum_by check_parts (take l.check-index l.check-items)) l.total l.count;
}
