-- The error of a list of items: that of the earliest wrong declaration.
use Rattle.std.specs.Prelude.{ℕ, ◌+◌, ◌==◌, ◌||◌, nat_lt, List, [], ◌∷◌, ◌++◌, length, map, Option, Some, None, if◌then◌else◌}
use Rattle.std.specs.List.{filter_map}
use Rattle.std.specs.Option.{option_and_then, option_map, option_or}
use Rattle.std.specs.Str.{bytes_eq}
use Rattle.m_places.specs.declared.place.Place.{Place}
use Rattle.m_places.specs.declared.limits.TheConstants.{TABLE_CELLS, CELLS}
use Rattle.m_ast.specs.declared.item.Item.{Item}
use Rattle.m_ast.specs.declared.item.Item.TheVariants.{Variable, Error}
use Rattle.m_ast.specs.declared.item.ErrorItem.{ErrorItem}
use Rattle.m_ast.specs.declared.variable.VariableItem.{VariableItem}
use Rattle.m_ast.specs.Items.{variable_cells, variable_code, variable_size}
use Rattle.m_symbols.specs.declared.variable.Variable.{Variable as Declaration}
use Rattle.m_symbols.specs.declared.fault.DeclareFault.{DeclareFault}
use Rattle.m_symbols.specs.declared.fault.DeclareFault.TheVariants.{DeclaredTwice, AliasTwice, TableSize, TooManyCells}
use Rattle.m_symbols.specs.Declarations.{Declared, declared_by, owners_from}

-- the place of a name, in a list of names and places
abbrev pub paired_place : List ℕ → List (List ℕ × Place) → Option Place
paired_place name [] = None
paired_place name (n ∷ earlier) = if bytes_eq name n.0 then Some n.1 else paired_place name earlier

-- names of variables, codes of inputs, and names of errors, each with the place of its declaration
abbrev pub placed_name : Declaration → List ℕ × Place
placed_name v = (v.item.name, v.item.place)

abbrev pub placed_code : Declaration → Option (List ℕ × Place)
placed_code v = option_map (λ code. (code, v.item.place)) (variable_code v.item)

abbrev pub placed_error : ErrorItem → List ℕ × Place
placed_error e = (e.name, e.place)

-- a name that an earlier variable has
abbrev pub name_fault : Declared → VariableItem → Option DeclareFault
name_fault earlier v = option_map (λ place. DeclaredTwice v.name place v.place) (paired_place v.name (map placed_name earlier.variables))

-- a code that an earlier input has
abbrev pub code_fault : Declared → VariableItem → Option DeclareFault
code_fault earlier v = option_and_then
    (λ code. option_map (λ place. AliasTwice code place v.place) (paired_place code (filter_map placed_code earlier.variables))) (variable_code v)

-- a table without cells, or with too many
abbrev pub size_fault : VariableItem → Option DeclareFault
size_fault v =
    option_and_then (λ size. if (size == 0) || nat_lt TABLE_CELLS size then Some (TableSize v.place) else None) (variable_size v)

-- with this variable, more cells than a base may have
abbrev pub cells_fault : Declared → VariableItem → Option DeclareFault
cells_fault earlier v = if nat_lt CELLS (length (owners_from 0 earlier.variables) + variable_cells v) then Some (TooManyCells v.place) else None

-- the fault of a variable, given the earlier declarations
abbrev pub variable_fault : Declared → VariableItem → Option DeclareFault
variable_fault earlier v = option_or (name_fault earlier v) (option_or (code_fault earlier v) (option_or (size_fault v) (cells_fault earlier v)))

-- the fault of an error item, given the earlier declarations: variables and errors have separate
-- names
abbrev pub error_fault : Declared → ErrorItem → Option DeclareFault
error_fault earlier e = option_map (λ place. DeclaredTwice e.name place e.place) (paired_place e.name (map placed_error earlier.errors))

-- the fault of an item, given the earlier declarations
abbrev pub fault_at : Declared → Item → Option DeclareFault
fault_at earlier (Variable v) = variable_fault earlier v
fault_at earlier (Error e) = error_fault earlier e
fault_at earlier _ = None

-- the fault of the first item that has one, given the items before them
abbrev pub fault_behind : List Item → List Item → Option DeclareFault
fault_behind earlier [] = None
fault_behind earlier (item ∷ later) = option_or (fault_at (declared_by earlier) item) (fault_behind (earlier ++ item ∷ []) later)

-- The fault of items. For `A : .. ; B : .. ; A : .. ;` it is `DeclaredTwice A` with the places of
-- the first and the third item.
abbrev pub first_fault : List Item → Option DeclareFault
first_fault items = fault_behind [] items
