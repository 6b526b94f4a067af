use Rattle.std.proofs.Common.{◌<◌, ◌≤◌, length}
use Rattle.csv.specs.Records.{fields_of}
use Rattle.household.proofs.table.count_filled.Given as goal

abbrev pub invariant-loop-place : goal.invariant-loop-place
invariant-loop-place l = record {
  before : l.count < l.place;
  few : l.count ≤ length (fields_of l.row);
}
