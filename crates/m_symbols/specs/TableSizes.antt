-- The sizes of declared tables.
use Rattle.std.specs.Prelude.{◌≢◌, ℕ, List, [], ◌∷◌, All, Option, Some, None, if◌then◌else◌}
use Rattle.std.specs.Str.{bytes_eq}
use Rattle.m_ast.specs.Items.{variable_size}
use Rattle.m_symbols.specs.declared.variable.Variable.{Variable}
use Rattle.m_symbols.specs.Declarations.{Declared}

-- the size of the table with this name among variables: none if no variable has the name, or if it
-- isn't a table
abbrev pub size_among : List Variable → List ℕ → Option ℕ
size_among [] name = None
size_among (v ∷ vs) name = if bytes_eq name v.item.name then variable_size v.item else size_among vs name

-- the size of a declared table
abbrev pub table_size : Declared → List ℕ → Option ℕ
table_size declared name = size_among declared.variables name

-- a variable isn't a table without cells
abbrev pub HasACell : Variable → Type 0
HasACell v = variable_size v.item ≢ Some 0

-- Each table has a cell. Declarations without a fault satisfy this.
abbrev pub TablesHaveCells : Declared → Type 0
TablesHaveCells declared = All HasACell declared.variables
