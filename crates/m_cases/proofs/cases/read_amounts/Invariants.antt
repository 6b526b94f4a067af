use Rattle.std.proofs.Common.{◌≡◌, ◌+◌, [], drop}
use Rattle.csv.specs.Records.{fields_of}
use Rattle.household.specs.Table.{cells_read}
use Rattle.m_cases.specs.Columns.{column_inputs, input_cells}
use Rattle.m_cases.proofs.cases.read_amounts.Given as goal

abbrev pub invariant-loop-place : goal.invariant-loop-place
invariant-loop-place l =
    cells_read l.line l.pairs.items (column_inputs (drop l.place l.columns)) (input_cells (drop l.place l.columns) (drop (l.place + 1) (fields_of l.row)))
    ≡ cells_read l.line [] (column_inputs l.columns) (input_cells l.columns (drop 1 (fields_of l.row)))
