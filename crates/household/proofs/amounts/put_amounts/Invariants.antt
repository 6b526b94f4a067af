use Rattle.std.proofs.Common.{◌≡◌, ◌≤◌, length, drop}
use Rattle.household.specs.Household.{values_of}
use Rattle.household.proofs.amounts.put_amounts.Given as goal

abbrev pub invariant-loop-left : goal.invariant-loop-left
invariant-loop-left l = record {
  within : l.left ≤ length l.pairs;
  counted : length l.values ≡ length l.initial.values;
  filled : l.values ≡ values_of (drop l.left l.pairs) (length l.initial.values);
}

abbrev pub decreases-loop-left : goal.decreases-loop-left
decreases-loop-left l = l.left
