-- A valid table, by its records and its rows.
use Rattle.std.specs.Prelude.{◌≡◌, ℕ, ℤ, ◌≤◌, true, List, [], ◌∷◌, drop, length, Some, Ok}
use Rattle.std.specs.List.{AllZip}
use Rattle.m_places.specs.declared.limits.TheConstants.{ROWS}
use Rattle.m_fixed.specs.Text.{text_value, amount_read}
use Rattle.m_names.specs.Names.{index_of}
use Rattle.observables.specs.declared.inputs.Coded.{Coded}
use Rattle.observables.specs.Inputs.{codes_of}
use Rattle.household.specs.declared.table.Row.{Row}
use Rattle.household.specs.Records.{records_of}
use Rattle.household.specs.Household.{AreDifferent}
use Rattle.household.specs.Table.{are_fitting, is_label, is_table_header}

-- The pairs of cells in as many columns of these inputs: none for an empty cell, and for each other
-- the pair of its column's input and its amount, in order.
abbrev pub AreCells : List ℕ → List (List ℕ) → List (ℕ × ℤ) → Type 0
AreCells [] [] [] = Unit {0}
AreCells (input ∷ columns) ([] ∷ cells) pairs = AreCells columns cells pairs
AreCells (input ∷ columns) ((byte ∷ bytes) ∷ cells) (pair ∷ pairs) = (pair.0 ≡ input) × (amount_read (text_value (byte ∷ bytes)) ≡ Ok pair.1)
    × AreCells columns cells pairs
AreCells _ _ _ = ⊥

-- A row of a table alone, in columns of these inputs: a label, and a cell for each column, with
-- amounts of their inputs' types.
pub record IsTableRow (inputs : List Coded) (columns : List ℕ) (fields : List (List ℕ)) (row : Row) : Type 0 where
  pub cells : List (List ℕ)
  pub split : fields ≡ row.label ∷ cells
  pub label : is_label row.label ≡ true
  pub says : AreCells columns cells row.household.pairs
  pub fits : are_fitting inputs row.household.pairs ≡ true

-- The bytes are a table with these rows: the header is `name` and a distinct code of an input for
-- each column; one record for each row follows, in order; and the number of rows is within the
-- limit.
pub record IsTable (inputs : List Coded) (bytes : List ℕ) (rows : List Row) : Type 0 where
  pub first : List (List ℕ)
  pub others : List (List (List ℕ))
  pub columns : List ℕ
  pub records : records_of bytes ≡ first ∷ others
  pub header : is_table_header first ≡ true
  pub known : AllZip (λ code input. index_of code (codes_of inputs) ≡ Some input) (drop 1 first) columns
  pub once : AreDifferent columns
  pub in_order : AllZip (IsTableRow inputs columns) others rows
  pub few : length rows ≤ ROWS
