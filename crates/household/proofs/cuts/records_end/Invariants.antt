use Rattle.std.proofs.Common.{◌≡◌, ◌≤◌, drop, length}
use Rattle.household.specs.inner.Cuts.{IsCut, left_at}
use Rattle.household.proofs.cuts.records_end.Given as goal

abbrev pub invariant-loop : goal.invariant-loop
invariant-loop l = record {
  cut : IsCut l.bytes l.at;
  here : left_at l.bytes l.at ≡ drop l.counter (left_at l.bytes l.fn.from);
  some : l.counter ≤ length (left_at l.bytes l.fn.from);
}
