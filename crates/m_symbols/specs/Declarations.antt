-- What a list of items declares: its variables, numbered in order, with their cells numbered in
-- order, and its errors. Every look-up is a function of these two lists.
use Rattle.std.specs.Prelude.{ℕ, ◌+◌, ℤ, Bool, true, false, ◌&&◌, List, [], ◌∷◌, ◌++◌, map, replicate, Option, Some, None, if◌then◌else◌}
use Rattle.std.specs.List.{filter_map}
use Rattle.std.specs.Str.{bytes_eq}
use Rattle.m_ast.specs.declared.item.Item.{Item}
use Rattle.m_ast.specs.declared.item.ErrorItem.{ErrorItem}
use Rattle.m_ast.specs.declared.variable.VariableItem.{VariableItem}
use Rattle.m_ast.specs.Items.{variables_of, errors_of, variable_cells, variable_code, is_input}
use Rattle.m_symbols.specs.declared.variable.Variable.{Variable}

-- the declared variables and errors
pub record Declared : Type 0 where
  pub variables : List Variable
  pub errors : List ErrorItem

-- variables with their cells, of which the first has this number: for `A`, the table `T` of 3 cells
-- and `B`, from 0 on, the first cells are 0, 1 and 4
abbrev pub placed_from : ℕ → List VariableItem → List Variable
placed_from first [] = []
placed_from first (v ∷ vs) = record { item = v; first_cell = first; cells = variable_cells v } ∷ placed_from (first + variable_cells v) vs

-- the declarations of items
abbrev pub declared_by : List Item → Declared
declared_by items = record { variables = placed_from 0 (variables_of items); errors = errors_of items }

abbrev pub name_of : Variable → List ℕ
name_of v = v.item.name

-- the names of variables in order
abbrev pub names_of : List Variable → List (List ℕ)
names_of = map name_of

-- the names of errors in order
abbrev pub error_names_of : List ErrorItem → List (List ℕ)
error_names_of = map (λ e. e.name)

-- the code of a variable, if it is an input
abbrev pub code_of : Variable → Option (List ℕ)
code_of v = variable_code v.item

-- the codes of the inputs in order
abbrev pub codes_of : List Variable → List (List ℕ)
codes_of = filter_map code_of

-- for each cell in order the number of its variable, where the first variable has this number: 0,
-- 1, 1, 1, 2 for `A`, the table `T` of 3 cells and `B`
abbrev pub owners_from : ℕ → List Variable → List ℕ
owners_from number [] = []
owners_from number (v ∷ vs) = replicate v.cells number ++ owners_from (number + 1) vs

-- the numbers of the variables that are inputs, in order, where the first variable has this number
abbrev pub inputs_from : ℕ → List Variable → List ℕ
inputs_from number [] = []
inputs_from number (v ∷ vs) = if is_input v.item.role then number ∷ inputs_from (number + 1) vs else inputs_from (number + 1) vs
