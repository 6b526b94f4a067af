-- A valid table of cases, by its records and its cases.
use Rattle.std.specs.Prelude.{◌≡◌, ◌≢◌, ℕ, ◌≤◌, true, List, [], ◌∷◌, drop, length, Ok}
use Rattle.std.specs.List.{AllByRecursion, AllZip}
use Rattle.m_places.specs.declared.limits.TheConstants.{ROWS}
use Rattle.observables.specs.declared.inputs.Coded.{Coded}
use Rattle.household.specs.Records.{records_of}
use Rattle.household.specs.Table.{are_fitting, is_label, is_table_header}
use Rattle.household.specs.TableRows.{AreCells}
use Rattle.m_cases.specs.declared.cases.Case.{Case}
use Rattle.m_cases.specs.declared.columns.Column.{Column}
use Rattle.m_cases.specs.declared.columns.Column.TheVariants.{Input, Output}
use Rattle.m_cases.specs.declared.expected.Expected.{Expected}
use Rattle.m_cases.specs.Cases.{parsed_expectation}
use Rattle.m_cases.specs.Columns.{column_inputs, parsed_field, input_cells}

-- the expectation of a cell, whatever the number of its record
abbrev pub Expects : List ℕ → Expected → Type 0
Expects cell expected = (line : ℕ) → parsed_expectation line cell ≡ Ok expected

-- The expectations of cells in as many columns: none for an empty cell or in the column of an
-- input, and for each other cell one of its column's output, in order.
abbrev pub AreExpectations : List Column → List (List ℕ) → List (ℕ × Expected) → Type 0
AreExpectations [] [] [] = Unit {0}
AreExpectations (Input input ∷ columns) (cell ∷ cells) expected = AreExpectations columns cells expected
AreExpectations (Output output ∷ columns) ([] ∷ cells) expected = AreExpectations columns cells expected
AreExpectations (Output output ∷ columns) ((byte ∷ bytes) ∷ cells) (one ∷ expected) = (one.0 ≡ output) × Expects (byte ∷ bytes) one.1
    × AreExpectations columns cells expected
AreExpectations _ _ _ = ⊥

-- the columns are distinct
abbrev pub AreApart : List Column → Type 0
AreApart [] = Unit {0}
AreApart (column ∷ columns) = AllByRecursion (λ other. other ≢ column) columns × AreApart columns

-- A case alone, in these columns: a label, and a cell for each column.
pub record IsCase (inputs : List Coded) (columns : List Column) (fields : List (List ℕ)) (case : Case) : Type 0 where
  pub cells : List (List ℕ)
  pub split : fields ≡ case.row.label ∷ cells
  pub many : length cells ≡ length columns
  pub label : is_label case.row.label ≡ true
  pub says : AreCells (column_inputs columns) (input_cells columns cells) case.row.household.pairs
  pub fits : are_fitting inputs case.row.household.pairs ≡ true
  pub expects : AreExpectations columns cells case.expected

-- The bytes are a table with these cases: the header is `name` and, for each column, a distinct
-- code of an input or `=` and a name of an output; one record for each case follows, in order; and
-- the number of cases is within the limit.
pub record IsCaseTable (inputs : List Coded) (names : List (List ℕ)) (bytes : List ℕ) (cases : List Case) : Type 0 where
  pub first : List (List ℕ)
  pub others : List (List (List ℕ))
  pub columns : List Column
  pub records : records_of bytes ≡ first ∷ others
  pub header : is_table_header first ≡ true
  pub known : AllZip (λ field column. parsed_field inputs names field ≡ Ok column) (drop 1 first) columns
  pub once : AreApart columns
  pub in_order : AllZip (IsCase inputs columns) others cases
  pub few : length cases ≤ ROWS
