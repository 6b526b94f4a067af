-- The columns of a table of cases.
use Rattle.std.specs.Prelude.{ℕ, ◌==◌, Bool, false, List, [], ◌∷◌, Option, Some, None, Result, Ok, Err, if◌then◌else◌}
use Rattle.std.specs.List.{list_any}
use Rattle.m_names.specs.Names.{index_of}
use Rattle.observables.specs.declared.inputs.Coded.{Coded}
use Rattle.observables.specs.Inputs.{codes_of}
use Rattle.household.specs.InTurn.{if_read}
use Rattle.m_cases.specs.declared.columns.Column.{Column}
use Rattle.m_cases.specs.declared.columns.Column.TheVariants.{Input, Output}
use Rattle.m_cases.specs.declared.fault.CasesFault.{CasesFault}
use Rattle.m_cases.specs.declared.fault.CasesFault.TheVariants.{UnknownCode, UnknownOutput, CodeTwice}

-- a column of amounts of an input
abbrev pub input_declared : Option ℕ → Result Column CasesFault
input_declared None = Err (UnknownCode 1)
input_declared (Some input) = Ok (Input input)

-- a column of expectations of an output
abbrev pub parsed_output : Option ℕ → Result Column CasesFault
parsed_output None = Err (UnknownOutput 1)
parsed_output (Some output) = Ok (Output output)

-- The column of a field of the header alone: after an equals sign (byte 61), the first output with
-- this name; otherwise the input with this code. `names` are the names of the outputs that have
-- one, and an output is numbered by its position among them: if the requests are `REV` and `IRN`,
-- the field `=IRN` is output 1.
abbrev pub parsed_field : List Coded → List (List ℕ) → List ℕ → Result Column CasesFault
parsed_field inputs names [] = input_declared (index_of [] (codes_of inputs))
parsed_field inputs names (byte ∷ bytes) =
    if byte == 61 then parsed_output (index_of bytes names) else input_declared (index_of (byte ∷ bytes) (codes_of inputs))

-- whether two columns are of the same input or output
abbrev pub is_same_column : Column → Column → Bool
is_same_column (Input a) (Input b) = b == a
is_same_column (Output a) (Output b) = b == a
is_same_column (Input a) (Output b) = false
is_same_column (Output a) (Input b) = false

-- a column, which must differ from earlier ones
abbrev pub new_column : List Column → Column → Result Column CasesFault
new_column before column = if list_any (is_same_column column) before then Err (CodeTwice 1) else Ok column

-- The column of a field of the header, after these columns.
abbrev pub column_of : List Coded → List (List ℕ) → List Column → List ℕ → Result Column CasesFault
column_of inputs names before field = if_read (new_column before) (parsed_field inputs names field)

-- the inputs of columns of amounts, in order
abbrev pub column_inputs : List Column → List ℕ
column_inputs [] = []
column_inputs (Input input ∷ columns) = input ∷ column_inputs columns
column_inputs (Output output ∷ columns) = column_inputs columns

-- the cells in columns of amounts, in order
abbrev pub input_cells : List Column → List (List ℕ) → List (List ℕ)
input_cells [] cells = []
input_cells (column ∷ columns) [] = []
input_cells (Input input ∷ columns) (cell ∷ cells) = cell ∷ input_cells columns cells
input_cells (Output output ∷ columns) (cell ∷ cells) = input_cells columns cells
