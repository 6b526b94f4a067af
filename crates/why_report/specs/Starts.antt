-- The initial environment, by the values of the inputs, and the state of a reporter.
use Rattle.std.specs.Prelude.{◌≡◌, ℕ, ◌+◌, List, [], ◌∷◌, ◌++◌, length, replicate, if◌then◌else◌, slice_index, slice_index_or, slice_set}
use Rattle.m_fixed.specs.declared.amount.Value.{Value}
use Rattle.m_fixed.specs.declared.amount.Value.TheVariants.{Undef, Num}
use Rattle.m_ast.specs.declared.variable.Role.{Role}
use Rattle.m_ast.specs.declared.variable.Role.TheVariants.{Input, Computed, Constant}
use Rattle.m_ast.specs.Items.{is_input}
use Rattle.m_symbols.specs.declared.variable.Variable.{Variable}
use Rattle.m_symbols.specs.Declarations.{Declared, inputs_from}
use Rattle.m_symbols.specs.Placed.{IsPlaced}
use Rattle.rule_order.specs.declared.ordered.Ordered.{Ordered}
use Rattle.why_report.specs.declared.line.ReportLine.{ReportLine}

-- the initial value of a variable's cells, where the next input has this number: an input's value,
-- a constant's amount, else undefined
abbrev pub start_value : List Value → ℕ → Role → Value
start_value inputs n (Input code) = slice_index_or inputs n Undef
start_value inputs n (Computed size) = Undef
start_value inputs n (Constant amount) = Num amount

-- the number of the input after a variable
abbrev pub input_behind : ℕ → Role → ℕ
input_behind n role = if is_input role then n + 1 else n

-- the initial values of the cells of variables, where the first input among them has this number
abbrev pub start_among : List Value → ℕ → List Variable → List Value
start_among inputs n [] = []
start_among inputs n (v ∷ vs) = replicate v.cells (start_value inputs n v.item.role) ++ start_among inputs (input_behind n v.item.role) vs

-- The initial environment, for a value of each input in order of declaration: for the input `V`,
-- the constant `C` of 2 and the table `T` of 2 cells it is, for 7, the list 7, 2, undefined,
-- undefined.
abbrev pub start_env : Declared → List Value → List Value
start_env declared inputs = start_among inputs 0 declared.variables

-- the cells of the inputs among these variables, in order
abbrev pub input_cells_among : List Variable → List ℕ
input_cells_among [] = []
input_cells_among (v ∷ vs) = if is_input v.item.role then v.first_cell ∷ input_cells_among vs else input_cells_among vs

-- The cells of the inputs in order: for the table `T` of 2 cells and the inputs `V` and `W` they
-- are 2 and 3.
abbrev pub input_cells : Declared → List ℕ
input_cells declared = input_cells_among declared.variables

-- The state of a reporter: a base with its order, the cells and the values of the inputs, the
-- environment, and the lines that were found last.
pub record Reporting : Type 0 where
  pub ordered : Ordered
  pub input_cells : List ℕ
  pub inputs : List Value
  pub env : List Value
  pub lines : List ReportLine

-- the state before an input is set: all inputs are undefined
abbrev pub begun : Ordered → Declared → Reporting
begun ordered declared =
    let inputs : List Value = replicate (length (inputs_from 0 declared.variables)) Undef in
    record { ordered = ordered; input_cells = input_cells declared; inputs = inputs; env = start_env declared inputs; lines = [] }

-- the state after an input is set
abbrev pub with_input : Reporting → ℕ → Value → Reporting
with_input held input v = record held { inputs = slice_set held.inputs input v; env = slice_set held.env (slice_index held.input_cells input) v }

-- the state after these lines are found
abbrev pub with_lines : Reporting → List ReportLine → Reporting
with_lines held lines = record held { lines = lines }

-- The environment is the initial one of these declarations, for the inputs' values.
pub record IsStart (declared : Declared) (held : Reporting) : Type 0 where
  pub placed : IsPlaced declared
  pub cells : held.input_cells ≡ input_cells declared
  pub size : length held.inputs ≡ length (inputs_from 0 declared.variables)
  pub env : held.env ≡ start_env declared held.inputs
