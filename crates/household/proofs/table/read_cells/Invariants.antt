use Rattle.std.proofs.Common.{◌≡◌, ◌+◌, [], drop}
use Rattle.csv.specs.Records.{fields_of}
use Rattle.household.specs.Table.{cells_read}
use Rattle.household.proofs.table.read_cells.Given as goal

abbrev pub invariant-loop-column : goal.invariant-loop-column
invariant-loop-column l =
    cells_read l.line l.pairs.items (drop l.column l.columns) (drop (l.column + 1) (fields_of l.row)) ≡ cells_read l.line [] l.columns
    (drop 1 (fields_of l.row))
