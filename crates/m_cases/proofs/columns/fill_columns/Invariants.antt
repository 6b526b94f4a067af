use Rattle.std.proofs.Common.{◌≡◌, [], drop, length}
use Rattle.csv.specs.Records.{fields_of}
use Rattle.observables.specs.Outputs.{names_of}
use Rattle.household.specs.InTurn.{in_turn}
use Rattle.m_cases.specs.Columns.{column_of}
use Rattle.m_cases.specs.inner.Outputs.{AreSeen}
use Rattle.m_cases.proofs.columns.fill_columns.Given as goal

abbrev pub invariant-loop-place : goal.invariant-loop-place
invariant-loop-place l = record {
  whole : in_turn (column_of l.codes (names_of l.outputs.outputs.now)) l.columns.items (drop l.place (fields_of l.row))
      ≡ in_turn (column_of l.codes (names_of l.outputs.outputs.now)) [] (drop 1 (fields_of l.row));
  seen : AreSeen l.seen l.columns.items;
  inputs : length l.seen.inputs.items ≡ length l.codes;
  outputs : length l.seen.outputs.items ≡ length l.outputs.outputs.now;
}
