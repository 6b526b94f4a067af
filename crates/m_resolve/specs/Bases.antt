-- The base of expanded rules, or their first error.
use Rattle.std.specs.Prelude.{ℕ, ◌+◌, nat_lt, ◌||◌, Bool, not, ℤ, List, [], ◌∷◌, ◌++◌, length, map, drop, Option, Some, None, Result, Ok, Err}
use Rattle.std.specs.Prelude.{if◌then◌else◌, slice_get}
use Rattle.std.specs.List.{filter_map, flat_map}
use Rattle.std.specs.Option.{option_and_then, option_map_or}
use Rattle.m_places.specs.declared.place.Place.{Place}
use Rattle.m_places.specs.declared.verification.Label.{Label}
use Rattle.m_names.specs.Names.{index_of}
use Rattle.m_ast.specs.declared.item.ErrorItem.{ErrorItem}
use Rattle.m_ast.specs.declared.item.Slot.{Slot}
use Rattle.m_ast.specs.declared.item.Slot.TheVariants.{Whole, Cell, Every}
use Rattle.m_ast.specs.Items.{size_in, is_input, is_constant}
use Rattle.m_ast.specs.declared.variable.Role.{Role}
use Rattle.m_ast.specs.declared.variable.Role.TheVariants.{Input, Computed, Constant}
use Rattle.m_symbols.specs.Declarations.{Declared, owners_from, error_names_of}
use Rattle.micro_m.specs.Bases.{Definition as CellDefinition, is_among}
use Rattle.micro_m.specs.Failures.{Check}
use Rattle.micro_m.specs.declared.base.Base.{Base}
use Rattle.m_symbols.specs.Cells.{cell_name}
use Rattle.m_ast.specs.declared.plain_rules.Plain.{Plain}
use Rattle.m_ast.specs.declared.plain_rules.Definition.{Definition}
use Rattle.m_ast.specs.declared.plain_rules.Condition.{Condition}
use Rattle.m_resolve.specs.declared.fault.ResolveFault.{ResolveFault}
use Rattle.m_resolve.specs.declared.fault.ResolveFault.TheVariants.{NotATable, IsATable, BadTarget, DefinedTwice, UnknownError}
use Rattle.m_resolve.specs.Terms.{if_resolved, resolved_variable, resolved_term}

-- ---- targets

-- the cell of a target that isn't a table: it has no index, and is computed, neither an input nor a
-- constant
abbrev pub single_target : List ℕ → Place → ℕ → Bool → Slot → Result ℕ ResolveFault
single_target name place first is_computed Whole = if is_computed then Ok first else Err (BadTarget name place)
single_target name place first is_computed _ = Err (NotATable name place)

-- The cell of a target that is a table of this size: it has an index below the size. The expansion
-- has replaced `T[X]` of a declared table by its cells, so that case is an error only to make this a
-- total function.
abbrev pub table_target : List ℕ → Place → ℕ → ℕ → Slot → Result ℕ ResolveFault
table_target name place first size Whole = Err (IsATable name place)
table_target name place first size (Cell k) = if nat_lt k size then Ok (first + k) else Err (BadTarget name place)
table_target name place first size Every = Err (BadTarget name place)

-- the cell of a variable that is a target
abbrev pub target_in : List ℕ → Place → ℕ → Slot → Role → Result ℕ ResolveFault
target_in name place first slot role = option_map_or (λ size. table_target name place first size slot) (size_in role)
    (single_target name place first (not (is_input role || is_constant role)) slot)

-- the cell of a definition's target, regardless of other definitions
abbrev pub resolved_target : Declared → Definition → Result ℕ ResolveFault
resolved_target declared definition = if_resolved (λ v. target_in definition.target definition.place v.first_cell definition.slot v.item.role)
    (resolved_variable declared definition.target definition.place)

-- the cell, unless an earlier definition defines it
abbrev pub new_target : Declared → Place → List ℕ → ℕ → Result ℕ ResolveFault
new_target declared place earlier cell = if is_among cell earlier then Err (DefinedTwice (cell_name declared cell) place) else Ok cell

-- ---- definitions

abbrev pub cells_of : List CellDefinition → List ℕ
cells_of = map (λ d. d.0)

-- a definition over cells, after earlier ones: errors of its target come before those of its term
abbrev pub resolved_definition : Declared → List CellDefinition → Definition → Result CellDefinition ResolveFault
resolved_definition declared before definition =
    if_resolved (λ cell. if_resolved (λ tree. Ok (cell, tree, definition.place)) (resolved_term declared definition.term))
    (if_resolved (new_target declared definition.place (cells_of before)) (resolved_target declared definition))

-- definitions in order, appended to those before
abbrev pub resolved_definitions : Declared → List CellDefinition → List Definition → Result (List CellDefinition) ResolveFault
resolved_definitions declared before [] = Ok before
resolved_definitions declared before (d ∷ ds) = if_resolved (λ stated. resolved_definitions declared (before ++ stated ∷ []) ds)
    (resolved_definition declared before d)

-- ---- checks

-- a byte of a text as printed: one below 32 is a space
abbrev pub printable : ℕ → ℕ
printable b = if nat_lt b 32 then 32 else b

-- a text as printed, after a colon
abbrev pub behind_colon : List ℕ → List ℕ
behind_colon text = 58 ∷ map printable text

-- the text of an error: its texts, separated by colons, with each byte below 32 replaced by a space
abbrev pub error_text : List (List ℕ) → List ℕ
error_text texts = drop 1 (flat_map behind_colon texts)

-- the label of a check of this verification that raises this error
abbrev pub label_of : List ℕ → ErrorItem → Label
label_of verif e = record { verif = verif; error = e.name; kind = e.kind; text = error_text e.texts }

-- the error with a name
abbrev pub error_named : Declared → List ℕ → Option ErrorItem
error_named declared name = option_and_then (slice_get declared.errors) (index_of name (error_names_of declared.errors))

abbrev pub resolved_label : Condition → Option ErrorItem → Result Label ResolveFault
resolved_label condition None = Err (UnknownError condition.error condition.place)
resolved_label condition (Some e) = Ok (label_of condition.verif e)

-- checks and their labels: check k has label k
abbrev pub Checks : Type 0
Checks = List Check × List Label

-- a check and its label, appended to those before: errors of its term come before an unknown error
-- name
abbrev pub with_condition : Declared → Checks → Condition → Result Checks ResolveFault
with_condition declared before condition =
    if_resolved (λ tree. if_resolved (λ label. Ok (before.0 ++ (tree, length before.1, condition.place) ∷ [], before.1 ++ label ∷ []))
    (resolved_label condition (error_named declared condition.error)))
    (resolved_term declared condition.term)

abbrev pub resolved_conditions : Declared → Checks → List Condition → Result Checks ResolveFault
resolved_conditions declared before [] = Ok before
resolved_conditions declared before (condition ∷ conditions) = if_resolved (λ stated. resolved_conditions declared stated conditions)
    (with_condition declared before condition)

-- ---- the base

-- the cell of a constant and its amount
abbrev pub constant_in : ℕ → Role → Option (ℕ × ℤ)
constant_in first (Constant amount) = Some (first, amount)
constant_in first _ = None

-- the cells of constants and their amounts, in order of declaration
abbrev pub constants_of : Declared → List (ℕ × ℤ)
constants_of declared = filter_map (λ v. constant_in v.first_cell v.item.role) declared.variables

abbrev pub base_with : Declared → List CellDefinition → Checks → Base
base_with declared definitions checks =
    record {
      cells = length (owners_from 0 declared.variables);
      constants = constants_of declared;
      definitions = definitions;
      checks = checks.0;
      labels = checks.1;
    }

-- The base of expanded rules over the declared cells, or their first error: all definitions are
-- resolved first, in order, and then all conditions.
abbrev pub resolved : Declared → Plain → Result Base ResolveFault
resolved declared plain =
    if_resolved (λ definitions. if_resolved (λ checks. Ok (base_with declared definitions checks)) (resolved_conditions declared ([], []) plain.conditions))
    (resolved_definitions declared [] plain.definitions)
