-- The meaning of a table of cases: households, and expectations of their answers.
use Rattle.std.specs.Prelude.{ℕ, ℤ, ◌+◌, ◌<◌, ◌^◌, ◌==◌, nat_le, ◌&&◌, List, [], ◌∷◌, ◌++◌, drop, length, map, Result, Ok, Err, codes, if◌then◌else◌}
use Rattle.std.specs.Str.{bytes_eq}
use Rattle.std.specs.List.{AllByRecursion}
use Rattle.m_places.specs.declared.limits.TheConstants.{ROWS}
use Rattle.m_fixed.specs.declared.amount.Value.TheVariants.{Undef, Num, Over}
use Rattle.m_fixed.specs.declared.read.AmountFault.{AmountFault}
use Rattle.m_fixed.specs.Text.{text_value, amount_read}
use Rattle.observables.specs.declared.inputs.Coded.{Coded}
use Rattle.observables.specs.declared.face.Face.{Face}
use Rattle.observables.specs.Outputs.{names_of, notes_of}
use Rattle.household.specs.declared.fault.HouseholdFault.{HouseholdFault}
use Rattle.household.specs.declared.fault.HouseholdFault.TheVariants as household
use Rattle.household.specs.InTurn.{if_read, in_turn}
use Rattle.household.specs.Records.{records_of}
use Rattle.household.specs.Household.{line_behind}
use Rattle.household.specs.Table.{is_label, is_table_header, pairs_read}
use Rattle.m_cases.specs.declared.columns.Column.{Column}
use Rattle.m_cases.specs.declared.columns.Column.TheVariants.{Input, Output}
use Rattle.m_cases.specs.declared.fault.CasesFault.{CasesFault}
use Rattle.m_cases.specs.declared.fault.CasesFault.TheVariants.{BadHeader, TooManyRows, BadRow, UnknownCode, CodeTwice, BadAmount, NotOfType, BadExpected}
use Rattle.m_cases.specs.declared.fault.CasesFault.TheVariants.{Memory}
use Rattle.m_cases.specs.declared.cases.Case.{Case}
use Rattle.m_cases.specs.declared.cases.Cases.{Cases}
use Rattle.m_cases.specs.declared.expected.Expected.{Expected}
use Rattle.m_cases.specs.declared.expected.Expected.TheVariants.{Is, Stop}
use Rattle.m_cases.specs.Columns.{column_of, column_inputs, input_cells}

-- the fault of a case for a fault of a household's row
abbrev pub case_fault : HouseholdFault → CasesFault
case_fault household.BadHeader = BadHeader
case_fault household.TooManyRows = TooManyRows
case_fault (household.BadRow line) = BadRow line
case_fault (household.UnknownCode line) = UnknownCode line
case_fault (household.BadAmount line) = BadAmount line
case_fault (household.NotOfType line) = NotOfType line
case_fault (household.CodeTwice line) = CodeTwice line
case_fault household.Memory = Memory

-- a result with its fault mapped to one of a case
abbrev pub of_household : {A : Type 0} → Result A HouseholdFault → Result A CasesFault
of_household (Ok value) = Ok value
of_household (Err fault) = Err (case_fault fault)

-- the expectation of a parsed amount, or a fault of the record with this number
abbrev pub amount_expected : ℕ → Result ℤ AmountFault → Result Expected CasesFault
amount_expected line (Ok millionths) = Ok (Is (Num millionths))
amount_expected line (Err why) = Err (BadExpected line)

-- The expectation of a non-empty cell, or a fault of the record with this number: `undefined`,
-- `over`, `stop` or an amount.
abbrev pub parsed_expectation : ℕ → List ℕ → Result Expected CasesFault
parsed_expectation line cell =
    if bytes_eq cell (codes "undefined") then Ok (Is Undef)
    else if bytes_eq cell (codes "over") then Ok (Is Over)
    else if bytes_eq cell (codes "stop") then Ok Stop
    else amount_expected line (amount_read (text_value cell))

-- The expectations of cells in these columns, after cells with these expectations: for each output
-- whose cell isn't empty the one in the cell, or the first bad cell. In columns of the outputs 2
-- and 0 the cells `stop` and an empty one expect a stop of output 2.
abbrev pub expected_read : ℕ → List (ℕ × Expected) → List Column → List (List ℕ) → Result (List (ℕ × Expected)) CasesFault
expected_read line before [] cells = Ok before
expected_read line before (column ∷ columns) [] = Ok before
expected_read line before (Input input ∷ columns) (cell ∷ cells) = expected_read line before columns cells
expected_read line before (Output output ∷ columns) (cell ∷ cells) =
    if length cell == 0 then expected_read line before columns cells
    else if_read (λ expected. expected_read line (before ++ (output, expected) ∷ []) columns cells) (parsed_expectation line cell)

-- the case with this label, these pairs and these expectations
abbrev pub case_with : List ℕ → List (ℕ × ℤ) → List (ℕ × Expected) → Case
case_with label pairs expected = record { row = record { label = label; household = record { pairs = pairs } }; expected = expected }

-- The case of the fields of the record with this number, in these columns: a label, which only has
-- to be valid; the pairs of the cells of inputs; and the expectations of the cells of outputs. A
-- bad amount is reported before an amount that isn't of its input's type, and that before a bad
-- expectation, wherever they are in the record.
abbrev pub parsed_case : List Coded → ℕ → List Column → List (List ℕ) → Result Case CasesFault
parsed_case inputs line columns [] = Err (BadRow line)
parsed_case inputs line columns (label ∷ cells) =
    if (length cells == length columns) && is_label label
    then if_read (λ pairs. if_read (λ expected. Ok (case_with label pairs expected)) (expected_read line [] columns cells))
    (of_household (pairs_read inputs line (column_inputs columns) (input_cells columns cells)))
    else Err (BadRow line)

-- the case of a record after these cases, or a fault, such as one row too many
abbrev pub case_of : List Coded → List Column → List Case → List (List ℕ) → Result Case CasesFault
case_of inputs columns before fields = if nat_le ROWS (length before) then Err TooManyRows else parsed_case inputs (line_behind (length before)) columns fields

-- the cases of a table's records, or their first fault
abbrev pub cases_read : List Coded → List (List ℕ) → List (List (List ℕ)) → Result (List Case) CasesFault
cases_read inputs names [] = Err BadHeader
cases_read inputs names (first ∷ rows) =
    if is_table_header first
    then if_read (λ columns. in_turn (case_of inputs columns) [] rows) (in_turn (column_of inputs names) [] (drop 1 first))
    else Err BadHeader

-- the rows and the expectations of cases
abbrev pub cases_made : List Case → Cases
cases_made cases = record { rows = map (λ c. c.row) cases; expected = map (λ c. c.expected) cases }

-- The meaning of the bytes of a table of cases, for these inputs and names of outputs: its rows and
-- the expectations of each row's answer, or the fault for which it is rejected. If `1AJ` has the
-- number 0 and `IRN` is the first name, the records `name,1AJ,=IRN` and `dupont,2500.5,1500.5`
-- denote the row `dupont` with the pair (0, 2500500000), where output 0 is expected to be
-- 1500500000.
abbrev pub cases_of : List Coded → List (List ℕ) → List ℕ → Result Cases CasesFault
cases_of inputs names bytes = if_read (λ cases. Ok (cases_made cases)) (cases_read inputs names (records_of bytes))

-- Expectations are of outputs below this count, and their number fits 32 bits.
pub record AreExpected (outputs : ℕ) (expected : List (ℕ × Expected)) : Type 0 where
  pub known : AllByRecursion (λ e. e.0 < outputs) expected
  pub few : length expected < 2 ^ 32

-- Expectations renumbered: from the number among outputs with names to that among all outputs,
-- after this many notes.
abbrev pub numbered : ℕ → List (ℕ × Expected) → List (ℕ × Expected)
numbered notes expected = map (λ e. (notes + e.0, e.1)) expected

abbrev pub numbered_cases : ℕ → Cases → Cases
numbered_cases notes cases = record { rows = cases.rows; expected = map (numbered notes) cases.expected }

-- The same for a face: outputs are numbered as in the face, from 0, notes before names. After one
-- note the field `=IRN` is output 1, if `IRN` is the first name.
abbrev pub face_cases : List Coded → Face → List ℕ → Result Cases CasesFault
face_cases inputs face bytes = if_read (λ cases. Ok (numbered_cases (length (notes_of face.outputs)) cases)) (cases_of inputs (names_of face.outputs) bytes)
