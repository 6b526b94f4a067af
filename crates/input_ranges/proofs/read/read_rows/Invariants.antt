use Rattle.std.proofs.Common.{◌≡◌, [], length}
use Rattle.household.specs.InTurn.{in_turn}
use Rattle.household.specs.Reader.{left_of}
use Rattle.household.specs.Marks.{Marks}
use Rattle.input_ranges.specs.Ranges.{inputs_of, row_of}
use Rattle.input_ranges.proofs.read.read_rows.Given as goal

abbrev pub invariant-loop-ranges : goal.invariant-loop-ranges
invariant-loop-ranges l = record {
  whole : in_turn (row_of l.inputs) l.ranges.items (left_of l.records) ≡ in_turn (row_of l.inputs) [] (left_of l.fn.records);
  marks : Marks l.marked.items (inputs_of l.ranges.items);
  counted : length l.marked.items ≡ length l.inputs;
}

abbrev pub decreases-loop-ranges : goal.decreases-loop-ranges
decreases-loop-ranges l = length (left_of l.records)
