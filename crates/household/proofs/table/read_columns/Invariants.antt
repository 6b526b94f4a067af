use Rattle.std.proofs.Common.{◌≡◌, [], drop, length}
use Rattle.csv.specs.Records.{fields_of}
use Rattle.household.specs.InTurn.{in_turn}
use Rattle.household.specs.Table.{column_of}
use Rattle.household.specs.Marks.{Marks}
use Rattle.household.proofs.table.read_columns.Given as goal

abbrev pub invariant-loop-place : goal.invariant-loop-place
invariant-loop-place l = record {
  whole : in_turn (column_of l.codes) l.columns.items (drop l.place (fields_of l.row)) ≡ in_turn (column_of l.codes) [] (drop 1 (fields_of l.row));
  marks : Marks l.marked.items l.columns.items;
  counted : length l.marked.items ≡ length l.codes;
}
