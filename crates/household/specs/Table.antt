-- The meaning of a table of households.
use Rattle.std.specs.Prelude.{ℕ, ◌==◌, Bool, false, nat_le, nat_lt, ◌&&◌, List, [], ◌∷◌, ◌++◌, drop, length, Option, Some, None, Result, Ok, Err, ℤ, codes}
use Rattle.std.specs.Prelude.{if◌then◌else◌}
use Rattle.std.specs.Str.{bytes_eq}
use Rattle.std.specs.List.{list_all}
use Rattle.m_places.specs.declared.limits.TheConstants.{ROWS}
use Rattle.m_fixed.specs.declared.read.AmountFault.{AmountFault}
use Rattle.m_fixed.specs.Text.{text_value, amount_read}
use Rattle.m_names.specs.Names.{index_of}
use Rattle.observables.specs.declared.inputs.Coded.{Coded}
use Rattle.observables.specs.Inputs.{codes_of}
use Rattle.household.specs.declared.fault.HouseholdFault.{HouseholdFault}
use Rattle.household.specs.declared.fault.HouseholdFault.TheVariants.{BadHeader, TooManyRows, BadRow, UnknownCode, BadAmount, NotOfType, CodeTwice}
use Rattle.household.specs.declared.table.Row.{Row}
use Rattle.household.specs.InTurn.{if_read, in_turn}
use Rattle.household.specs.Records.{records_of}
use Rattle.household.specs.Household.{is_fitting, is_input_among, line_behind}

-- a column's input, which must differ from those of earlier columns
abbrev pub new_column : List ℕ → Option ℕ → Result ℕ HouseholdFault
new_column before None = Err (UnknownCode 1)
new_column before (Some input) = if is_input_among input before then Err (CodeTwice 1) else Ok input

-- The input of the column of a field of a table's header, after columns of these inputs.
abbrev pub column_of : List Coded → List ℕ → List ℕ → Result ℕ HouseholdFault
column_of inputs before code = new_column before (index_of code (codes_of inputs))

-- whether a text can be a row's label: it isn't empty, and no byte is below 32
abbrev pub is_label : List ℕ → Bool
is_label text = nat_lt 0 (length text) && list_all (nat_le 32) text

-- the pair of an input and a parsed amount, or a fault of the record with this number
abbrev pub parsed_amount : ℕ → ℕ → Result ℤ AmountFault → Result (ℕ × ℤ) HouseholdFault
parsed_amount line input (Err why) = Err (BadAmount line)
parsed_amount line input (Ok millionths) = Ok (input, millionths)

-- The pairs of cells in columns of these inputs, after cells with these pairs: one for each cell
-- that isn't empty, or the bad amount of the record with this number. In columns of the inputs 2
-- and 0 the cells `7` and an empty one denote the pair (2, 7000000).
abbrev pub cells_read : ℕ → List (ℕ × ℤ) → List ℕ → List (List ℕ) → Result (List (ℕ × ℤ)) HouseholdFault
cells_read line before [] cells = Ok before
cells_read line before (input ∷ columns) [] = Ok before
cells_read line before (input ∷ columns) (cell ∷ cells) =
    if length cell == 0 then cells_read line before columns cells
    else if_read (λ pair. cells_read line (before ++ pair ∷ []) columns cells) (parsed_amount line input (amount_read (text_value cell)))

-- whether the amount of each pair is of its input's type
abbrev pub are_fitting : List Coded → List (ℕ × ℤ) → Bool
are_fitting inputs pairs = list_all (is_fitting inputs) pairs

-- the pairs, if their amounts are of their inputs' types, or else a fault of the record with this
-- number
abbrev pub fitting_pairs : List Coded → ℕ → List (ℕ × ℤ) → Result (List (ℕ × ℤ)) HouseholdFault
fitting_pairs inputs line pairs = if are_fitting inputs pairs then Ok pairs else Err (NotOfType line)

-- The pairs of cells in columns of these inputs. A bad amount is reported before an amount that
-- isn't of its input's type, wherever they are in the record.
abbrev pub pairs_read : List Coded → ℕ → List ℕ → List (List ℕ) → Result (List (ℕ × ℤ)) HouseholdFault
pairs_read inputs line columns cells = if_read (fitting_pairs inputs line) (cells_read line [] columns cells)

-- The row of the fields of the record with this number, in columns of these inputs: a label, and
-- the pairs of as many cells as there are columns.
abbrev pub labelled : List Coded → ℕ → List ℕ → List (List ℕ) → Result Row HouseholdFault
labelled inputs line columns [] = Err (BadRow line)
labelled inputs line columns (label ∷ cells) =
    if (length cells == length columns) && is_label label
    then if_read (λ pairs. Ok (record { label = label; household = record { pairs = pairs } })) (pairs_read inputs line columns cells)
    else Err (BadRow line)

-- A row after this many rows, or its first fault of: too many rows, a wrong number of fields or a
-- bad label, a bad amount, an amount not of its input's type.
abbrev pub row_behind : List Coded → List ℕ → ℕ → List (List ℕ) → Result Row HouseholdFault
row_behind inputs columns many fields = if nat_le ROWS many then Err TooManyRows else labelled inputs (line_behind many) columns fields

-- a row after these rows
abbrev pub table_row : List Coded → List ℕ → List Row → List (List ℕ) → Result Row HouseholdFault
table_row inputs columns before fields = row_behind inputs columns (length before) fields

-- the rows after a table's header, given the codes in it
abbrev pub rows_read : List Coded → List (List ℕ) → List (List (List ℕ)) → Result (List Row) HouseholdFault
rows_read inputs fields rows = if_read (λ columns. in_turn (table_row inputs columns) [] rows) (in_turn (column_of inputs) [] fields)

-- whether these fields are the header of a table: `name` and then codes
abbrev pub is_table_header : List (List ℕ) → Bool
is_table_header [] = false
is_table_header (name ∷ fields) = bytes_eq name (codes "name")

-- the rows of a table's records, or their first fault
abbrev pub table_read : List Coded → List (List (List ℕ)) → Result (List Row) HouseholdFault
table_read inputs [] = Err BadHeader
table_read inputs (first ∷ rows) = if is_table_header first then rows_read inputs (drop 1 first) rows else Err BadHeader

-- The meaning of the bytes of a table: its rows, each a label and the pairs of a household, or the
-- fault for which it is rejected. If `1AJ` has the number 0, `name,1AJ`, `dupont,2500.5` and
-- `martin,` denote the row `dupont` with the pair (0, 2500500000) and the row `martin` without a
-- pair.
abbrev pub table_of : List Coded → List ℕ → Result (List Row) HouseholdFault
table_of inputs bytes = table_read inputs (records_of bytes)
