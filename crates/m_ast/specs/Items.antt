-- The declarations in a list of items, in the order of the file: variables and errors, with the
-- names, codes and kinds of variables.
use Rattle.std.specs.Prelude.{ℕ, Bool, true, false, List, Option, Some, None}
use Rattle.std.specs.List.{filter_map}
use Rattle.m_ast.specs.declared.item.Item.{Item}
use Rattle.m_ast.specs.declared.item.Item.TheVariants.{Variable, Error}
use Rattle.m_ast.specs.declared.item.ErrorItem.{ErrorItem}
use Rattle.m_ast.specs.declared.variable.VariableItem.{VariableItem}
use Rattle.m_ast.specs.declared.variable.Role.{Role}
use Rattle.m_ast.specs.declared.variable.Role.TheVariants.{Input, Computed, Constant}

abbrev pub variable_in : Item → Option VariableItem
variable_in (Variable v) = Some v
variable_in _ = None

abbrev pub error_in : Item → Option ErrorItem
error_in (Error e) = Some e
error_in _ = None

-- the declared variables
abbrev pub variables_of : List Item → List VariableItem
variables_of = filter_map variable_in

-- the declared errors
abbrev pub errors_of : List Item → List ErrorItem
errors_of = filter_map error_in

-- the code of an input, as `1AJ`
abbrev pub code_in : Role → Option (List ℕ)
code_in (Input code) = Some code
code_in _ = None

-- the declared size of a table
abbrev pub size_in : Role → Option ℕ
size_in (Computed size) = size
size_in _ = None

abbrev pub is_input : Role → Bool
is_input (Input code) = true
is_input _ = false

abbrev pub is_constant : Role → Bool
is_constant (Constant amount) = true
is_constant _ = false

-- the number of cells of a variable: the size of a table, and 1 for any other
abbrev pub cells_in : Option ℕ → ℕ
cells_in (Some size) = size
cells_in None = 1

abbrev pub variable_code : VariableItem → Option (List ℕ)
variable_code v = code_in v.role

abbrev pub variable_size : VariableItem → Option ℕ
variable_size v = size_in v.role

abbrev pub variable_cells : VariableItem → ℕ
variable_cells v = cells_in (size_in v.role)
