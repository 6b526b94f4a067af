-- The printed names of cells, and the cells that names denote.
use Rattle.std.specs.Prelude.{ℕ, ◌+◌, ◌-◌, ◌==◌, ◌&&◌, ◌||◌, nat_lt, nat_le, Bool, false, List, [], ◌∷◌, ◌++◌, length, codes, decimal, map, Option, Some, None}
use Rattle.std.specs.Prelude.{if◌then◌else◌, slice_get, slice_index_or}
use Rattle.std.specs.Option.{option_map, option_map_or, option_and_then}
use Rattle.std.specs.List.{flat_map, range_with_len}
use Rattle.m_text.specs.Numbers.{whole_number}
use Rattle.m_text.specs.Parts.{split_at}
use Rattle.m_names.specs.Names.{has, index_of}
use Rattle.m_ast.specs.Items.{variable_size}
use Rattle.m_symbols.specs.declared.variable.Variable.{Variable}
use Rattle.m_symbols.specs.Declarations.{Declared, names_of, owners_from}
use Rattle.m_text.specs.Pieces.{joined}

-- ---- from cells to names

-- the printed name of a variable's cell: `IRN`, or `T[1]` for a table
abbrev pub cell_text : Option ℕ → List ℕ → ℕ → List ℕ
cell_text None name k = name
cell_text (Some size) name k = joined (name ∷ codes "[" ∷ decimal k ∷ codes "]" ∷ [])

-- the printed name of a cell of this variable
abbrev pub printed_cell : ℕ → Variable → List ℕ
printed_cell cell v = cell_text (variable_size v.item) v.item.name (cell - v.first_cell)

-- the variable of a cell
abbrev pub owner_of : Declared → ℕ → Option Variable
owner_of declared cell = slice_get declared.variables (slice_index_or (owners_from 0 declared.variables) cell 0)

-- The printed name of a cell: of `A` and the table `T` of 3 cells, the cells 0 and 2 are `A` and
-- `T[1]`.
abbrev pub cell_name : Declared → ℕ → List ℕ
cell_name declared cell = option_map_or (printed_cell cell) (owner_of declared cell) []

-- ---- from names to cells

-- the variable with a name
abbrev pub variable_named : Declared → List ℕ → Option Variable
variable_named declared name = option_and_then (slice_get declared.variables) (index_of name (names_of declared.variables))

-- the text before the first `[`, and the text after it, if there is one
abbrev pub split_at_bracket : List ℕ → List ℕ × Option (List ℕ)
split_at_bracket text = split_at 91 text

-- the text before a final `]`, if it ends so
abbrev pub before_closing : List ℕ → Option (List ℕ)
before_closing [] = None
before_closing (b ∷ []) = if b == 93 then Some [] else None
before_closing (b ∷ c ∷ bs) = option_map (λ front. b ∷ front) (before_closing (c ∷ bs))

-- whether one to four digits have no leading zeros: `0` and `12`, and not `00` or `012`
abbrev pub may_be_plain : List ℕ → Bool
may_be_plain [] = false
may_be_plain (b ∷ bs) = nat_le (length bs) 3 && (nat_lt 48 b || length bs == 0)

-- the number that one to four digits without leading zeros denote
abbrev pub plain_number : List ℕ → Option ℕ
plain_number digits = if may_be_plain digits then whole_number digits else None

-- the index of a cell from the text after `[`: 12 for `12]`, none for `012]` and `]`
abbrev pub parsed_index : List ℕ → Option ℕ
parsed_index text = option_and_then plain_number (before_closing text)

-- the cell at this index of a table of this size
abbrev pub cell_within : ℕ → ℕ → ℕ → Option ℕ
cell_within first size k = if nat_lt k size then Some (first + k) else None

-- the cell of a variable with or without an index: a table needs one, every other variable has none
abbrev pub cell_by : Option (List ℕ) → Option ℕ → ℕ → Option ℕ
cell_by None None first = Some first
cell_by None (Some size) first = None
cell_by (Some index) None first = None
cell_by (Some index) (Some size) first = option_and_then (cell_within first size) (parsed_index index)

-- the cell of the variable with a name, with or without an index
abbrev pub named_cell : Declared → List ℕ × Option (List ℕ) → Option ℕ
named_cell declared parts = option_and_then (λ v. cell_by parts.1 (variable_size v.item) v.first_cell) (variable_named declared parts.0)

-- The cell that a request names: `A` names the only cell of a variable that is not a table, `T[2]`
-- the third of a table.
abbrev pub request_cell : Declared → List ℕ → Option ℕ
request_cell declared text = named_cell declared (split_at_bracket text)

-- ---- returned cells

-- the cells of a variable, if it has the attribute `restituee`
abbrev pub returned_by : Variable → List ℕ
returned_by v = if has (codes "restituee") v.item.words then range_with_len v.first_cell v.cells else []

-- the cells of all variables with the attribute `restituee`, in order of declaration, and all cells
-- of a table
abbrev pub returned_cells : Declared → List ℕ
returned_cells declared = flat_map returned_by declared.variables
