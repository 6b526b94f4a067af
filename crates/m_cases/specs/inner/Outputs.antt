-- The index of names of outputs, and the marks of columns.
use Rattle.std.specs.Prelude.{◌≡◌, ℕ, ◌<◌, List, [], ◌∷◌, length, slice_index_or}
use Rattle.std.specs.Option.{option_map}
use Rattle.m_names.specs.Names.{index_of}
use Rattle.household.specs.Marks.{Marks}
use Rattle.m_cases.specs.declared.columns.Column.{Column}
use Rattle.m_cases.specs.declared.columns.Column.TheVariants.{Input, Output}
use Rattle.m_cases.specs.declared.columns.Seen.{Seen}
use Rattle.m_cases.specs.Columns.{column_inputs}

-- The index has each name once, with the position of its first occurrence among the names. For `REV
-- IRN REV` it has `REV IRN` with the positions 0 and 1.
pub record Finds (names known : List (List ℕ)) (places : List ℕ) : Type 0 where
  pub many : length places ≡ length known
  pub each : (name : List ℕ) → index_of name names ≡ option_map (λ i. slice_index_or places i 0) (index_of name known)

-- the outputs of columns of expectations, in order
abbrev pub column_outputs : List Column → List ℕ
column_outputs [] = []
column_outputs (Input input ∷ columns) = column_outputs columns
column_outputs (Output output ∷ columns) = output ∷ column_outputs columns

-- a column is of an input or an output below these counts
abbrev pub IsBelow : ℕ → ℕ → Column → Type 0
IsBelow inputs outputs (Input input) = input < inputs
IsBelow inputs outputs (Output output) = output < outputs

-- the marks are those of the inputs and outputs of the columns
pub record AreSeen (seen : Seen) (columns : List Column) : Type 0 where
  pub inputs : Marks seen.inputs.items (column_inputs columns)
  pub outputs : Marks seen.outputs.items (column_outputs columns)
