use Rattle.std.proofs.Common.{◌≡◌, ◌≤◌, length, drop}
use Rattle.household.specs.Household.{values_of}
use Rattle.household_session.specs.Seats.{noted_pairs}
use Rattle.household_session.proofs.seat.put_all.Given as goal

abbrev pub invariant-loop-left : goal.invariant-loop-left
invariant-loop-left l = record {
  within : l.left ≤ length l.pairs;
  sheet : l.sheet ≡ record l.initial.sheet {
    now = values_of (drop l.left l.pairs) l.initial.sheet.flat.inputs;
    put = noted_pairs (drop l.left l.pairs) l.initial.sheet.put;
  };
}

abbrev pub decreases-loop-left : goal.decreases-loop-left
decreases-loop-left l = l.left
