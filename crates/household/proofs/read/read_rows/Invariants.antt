use Rattle.std.proofs.Common.{◌≡◌, [], length}
use Rattle.household.specs.InTurn.{in_turn}
use Rattle.household.specs.Household.{inputs_of, row_of}
use Rattle.household.specs.Reader.{left_of}
use Rattle.household.specs.Marks.{Marks}
use Rattle.household.proofs.read.read_rows.Given as goal

abbrev pub invariant-loop-pairs : goal.invariant-loop-pairs
invariant-loop-pairs l = record {
  whole : in_turn (row_of l.codes) l.pairs.items (left_of l.records) ≡ in_turn (row_of l.codes) [] (left_of l.fn.records);
  marks : Marks l.marked.items (inputs_of l.pairs.items);
  counted : length l.marked.items ≡ length l.codes;
}

abbrev pub decreases-loop-pairs : goal.decreases-loop-pairs
decreases-loop-pairs l = length (left_of l.records)
