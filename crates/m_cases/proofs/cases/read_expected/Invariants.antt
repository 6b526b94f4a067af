use Rattle.std.proofs.Common.{◌≡◌, ◌+◌, [], drop}
use Rattle.csv.specs.Records.{fields_of}
use Rattle.m_cases.specs.Cases.{expected_read}
use Rattle.m_cases.proofs.cases.read_expected.Given as goal

abbrev pub invariant-loop-place : goal.invariant-loop-place
invariant-loop-place l =
    expected_read l.line l.expected.items (drop l.place l.columns) (drop (l.place + 1) (fields_of l.row)) ≡ expected_read l.line [] l.columns
    (drop 1 (fields_of l.row))
