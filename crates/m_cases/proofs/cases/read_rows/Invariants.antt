use Rattle.std.proofs.Common.{◌≡◌, [], length}
use Rattle.household.specs.InTurn.{in_turn}
use Rattle.household.specs.Reader.{left_of}
use Rattle.m_cases.specs.Cases.{case_of}
use Rattle.m_cases.proofs.cases.read_rows.Given as goal

abbrev pub invariant-loop-cases : goal.invariant-loop-cases
invariant-loop-cases l = record {
  whole : in_turn (case_of l.codes l.columns) l.cases.items (left_of l.records) ≡ in_turn (case_of l.codes l.columns) [] (left_of l.fn.records);
}

abbrev pub decreases-loop-cases : goal.decreases-loop-cases
decreases-loop-cases l = length (left_of l.records)
