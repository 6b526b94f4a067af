-- The invariant of the tables.
use Rattle.std.specs.Prelude.{◌≡◌, ◌<◌, ◌≤◌, ◌+◌, ◌^◌, [], ◌∷◌, ◌++◌, All, length}
use Rattle.m_places.specs.declared.limits.TheConstants.{CELLS}
use Rattle.m_ast.specs.declared.item.Item.{Item}
use Rattle.m_ast.specs.declared.item.Item.TheVariants.{Variable, Rule, Verif, Error, Silent}
use Rattle.m_ast.specs.declared.item.ErrorItem.{ErrorItem}
use Rattle.m_ast.specs.declared.variable.VariableItem.{VariableItem}
use Rattle.m_ast.specs.Items.{variable_cells}
use Rattle.m_symbols.specs.declared.symbols.Tables.{Tables}
use Rattle.m_symbols.specs.Declarations.{Declared, names_of, codes_of, owners_from, inputs_from, error_names_of}

-- the declarations that tables hold
abbrev pub declared_in : Tables → Declared
declared_in t = record { variables = t.variables.items; errors = t.errors.items }

-- each table is the index of the declared variables and errors that its name states, and counts fit
-- their types
pub record AreIndexed (t : Tables) : Type 0 where
  pub names : t.names ≡ names_of t.variables.items
  pub longest : All (λ v. length v.item.name ≤ t.longest) t.variables.items
  pub codes : t.codes ≡ codes_of t.variables.items
  pub owners : t.owners.items ≡ owners_from 0 t.variables.items
  pub inputs : t.inputs.items ≡ inputs_from 0 t.variables.items
  pub error_names : t.error_names ≡ error_names_of t.errors.items
  pub few : length t.owners.items ≤ CELLS
  pub few_variables : length t.variables.items < 2 ^ 32
  pub few_errors : length t.errors.items < 2 ^ 32

-- there is room for one more declaration
abbrev pub HasRoom : Tables → Type 0
HasRoom t = (length t.variables.items + 1 < 2 ^ 32) × (length t.errors.items + 1 < 2 ^ 32)

-- with one more variable, whose first cell is the next free one
abbrev pub with_variable : Declared → VariableItem → Declared
with_variable d v = record d { variables = d.variables ++ record { item = v; first_cell = length (owners_from 0 d.variables); cells = variable_cells v } ∷ [] }

-- with one more error
abbrev pub with_error : Declared → ErrorItem → Declared
with_error d e = record d { errors = d.errors ++ e ∷ [] }

-- with the declaration of one more item
abbrev pub with_item : Declared → Item → Declared
with_item d (Variable v) = with_variable d v
with_item d (Error e) = with_error d e
with_item d (Rule r) = d
with_item d (Verif v) = d
with_item d (Silent p) = d
