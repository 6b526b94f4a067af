-- Resolves the names of a driver: to cells, to targets, to the inputs of a kind, and to functions.
use Rattle.std.specs.Prelude.{ℕ, ◌+◌, nat_lt, ◌==◌, ◌||◌, Bool, false, List, [], ◌∷◌, ◌++◌, Option, Some, None, Result, Ok, Err, if◌then◌else◌, codes}
use Rattle.std.specs.List.{flat_map}
use Rattle.std.specs.Option.{ok_or, option_and_then, option_map_or}
use Rattle.std.specs.Str.{bytes_eq}
use Rattle.m_names.specs.Names.{has, index_of}
use Rattle.m_ast.specs.Items.{variable_size, is_constant}
use Rattle.m_symbols.specs.declared.variable.Variable.{Variable}
use Rattle.m_symbols.specs.Declarations.{Declared}
use Rattle.m_symbols.specs.Cells.{variable_named}
use Rattle.driver_core.specs.Kinds.{of_kind}
use Rattle.mpp_parser.specs.declared.term.CellName.{CellName}
use Rattle.mpp_parser.specs.declared.term.Kind.{Kind}
use Rattle.mpp_parser.specs.declared.term.Kind.TheVariants.{Attribute}
use Rattle.mpp_parser.specs.declared.command.Function.{Function}
use Rattle.mpp_core.specs.declared.fault.CoreFault.{CoreFault}
use Rattle.mpp_core.specs.declared.fault.CoreFault.TheVariants.{FunctionTwice, NoMain, UnknownInDriver, BadTargetInDriver}

-- continues with a result, or passes the error on
abbrev pub if_resolved : {A B : Type 0} → (A → Result B CoreFault) → Result A CoreFault → Result B CoreFault
if_resolved next (Ok thing) = next thing
if_resolved next (Err fault) = Err fault

-- things in sequence, appended to those already resolved, or the first error
abbrev pub resolved_each : {A B : Type 0} → (A → Result B CoreFault) → List B → List A → Result (List B) CoreFault
resolved_each resolved before [] = Ok before
resolved_each resolved before (x ∷ xs) = if_resolved (λ y. resolved_each resolved (before ++ y ∷ []) xs) (resolved x)

-- ---- cells

-- The cell of a variable with this first cell, at an index or without one, by its size if it is a
-- table: a table needs an index below its size, and any other variable none.
abbrev pub cell_at : ℕ → Option ℕ → Option ℕ → Option ℕ
cell_at first None None = Some first
cell_at first (Some k) (Some size) = if nat_lt k size then Some (first + k) else None
cell_at first _ _ = None

-- The cell that a name on this line resolves to: if `T` is a table of 3 cells from the cell 5 on,
-- `T[1]` is the cell 6, and `T` and `T[3]` don't resolve.
abbrev pub resolved_cell : Declared → ℕ → CellName → Result ℕ CoreFault
resolved_cell declared line c =
    ok_or (option_and_then (λ v. cell_at v.first_cell c.index (variable_size v.item)) (variable_named declared c.name)) (UnknownInDriver c.name line)

-- whether there is a variable, and it is a constant
abbrev pub is_a_constant : Option Variable → Bool
is_a_constant found = option_map_or (λ v. is_constant v.item.role) found false

-- the cell of a target, which is assigned, deleted or received: that of any variable but a constant
abbrev pub resolved_target : Declared → ℕ → CellName → Result ℕ CoreFault
resolved_target declared line c = if_resolved (λ cell. if is_a_constant (variable_named declared c.name) then Err (BadTargetInDriver c.name line) else Ok cell)
    (resolved_cell declared line c)

-- inserts a cell into an ascending list, unless it is in it
abbrev pub with_cell : ℕ → List ℕ → List ℕ
with_cell c [] = c ∷ []
with_cell c (d ∷ ds) = if nat_lt c d then c ∷ d ∷ ds else if c == d then d ∷ ds else d ∷ with_cell c ds

-- cells in ascending order, without repetitions: 7, 3, 7 becomes 3, 7
abbrev pub each_once : List ℕ → List ℕ
each_once [] = []
each_once (c ∷ cs) = with_cell c (each_once cs)

-- ---- kinds

-- the cells of the inputs of a kind in order of declaration; a kind that no input has is empty
abbrev pub kind_cells : Declared → Kind → List ℕ
kind_cells declared (Attribute attribute values) = flat_map (of_kind attribute values) declared.variables

-- ---- functions

-- the name that calls the rules
abbrev pub rules_name : List ℕ
rules_name = codes "call_m"

-- appends the name of a function, which must be new and not `call_m`
abbrev pub resolved_name : List (List ℕ) → Function → Result (List (List ℕ)) CoreFault
resolved_name before f = if bytes_eq f.name rules_name || has f.name before then Err (FunctionTwice f.name f.line) else Ok (before ++ f.name ∷ [])

-- appends the names of functions in order
abbrev pub resolved_names : List (List ℕ) → List Function → Result (List (List ℕ)) CoreFault
resolved_names before [] = Ok before
resolved_names before (f ∷ fs) = if_resolved (λ names. resolved_names names fs) (resolved_name before f)

-- the number of `main` among the functions with these names
abbrev pub resolved_main : List (List ℕ) → Result ℕ CoreFault
resolved_main names = option_map_or (λ f. Ok f) (index_of (codes "main") names) (Err NoMain)

-- the number of the function that a name on this line resolves to
abbrev pub resolved_function : List (List ℕ) → ℕ → List ℕ → Result ℕ CoreFault
resolved_function names line name = option_map_or (λ f. Ok f) (index_of name names) (Err (UnknownInDriver name line))
