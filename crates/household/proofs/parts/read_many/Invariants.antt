use Rattle.std.proofs.Common.{◌≡◌, ◌-◌, ◌*◌, ◌≤◌, [], length, take}
use Rattle.household.specs.InTurn.{in_turn}
use Rattle.household.specs.inner.Parts.{table_row_behind}
use Rattle.household.specs.Reader.{left_of}
use Rattle.household.specs.declared.cuts.TheConstants.{BETWEEN}
use Rattle.household.proofs.parts.read_many.Given as goal

abbrev pub invariant-loop-records : goal.invariant-loop-records
invariant-loop-records l = record {
  whole : in_turn (table_row_behind l.codes l.columns (l.start * BETWEEN)) l.rows.items (take (l.many * BETWEEN - length l.rows.items) (left_of l.records))
      ≡ in_turn (table_row_behind l.codes l.columns (l.start * BETWEEN)) [] (take (l.many * BETWEEN) (left_of l.fn.records));
  few : length l.rows.items ≤ l.many * BETWEEN;
}

abbrev pub decreases-loop-records : goal.decreases-loop-records
decreases-loop-records l = length (left_of l.records)
