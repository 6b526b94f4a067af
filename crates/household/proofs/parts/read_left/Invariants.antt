use Rattle.std.proofs.Common.{◌≡◌, [], length}
use Rattle.household.specs.InTurn.{in_turn}
use Rattle.household.specs.Reader.{left_of}
use Rattle.household.specs.Table.{table_row}
use Rattle.household.proofs.parts.read_left.Given as goal

abbrev pub invariant-loop-rows : goal.invariant-loop-rows
invariant-loop-rows l = in_turn (table_row l.codes l.columns) l.rows.items (left_of l.records) ≡ in_turn (table_row l.codes l.columns) [] (left_of l.fn.records)

abbrev pub decreases-loop-rows : goal.decreases-loop-rows
decreases-loop-rows l = length (left_of l.records)
