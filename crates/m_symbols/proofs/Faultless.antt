-- Consequences of a declaration without an error.
use Rattle.std.proofs.Common.{◌≡◌, ◌≢◌, ℕ, ◌+◌, ◌≤◌, Bool, true, false, cond, List, [], ◌∷◌, map, length, refl, ap, arith}
use Rattle.std.specs.Prelude.{◌||◌, ◌==◌, Option, Some, None, IfSome, nat_lt}
use Rattle.std.specs.List.{filter_map}
use Rattle.std.specs.Option.{option_map, option_or, option_and_then}
use Rattle.std.proofs.lemmas.Bool.{eqb-false, ltb-false}
use Rattle.std.proofs.lemmas.Bool.Decides.{nat_tests}
use Rattle.m_names.proofs.NameLemmas.{or-false}
use Rattle.m_places.specs.declared.place.Place.{Place}
use Rattle.m_places.specs.declared.limits.TheConstants.{CELLS, TABLE_CELLS}
use Rattle.m_ast.specs.declared.variable.Role.{Role}
use Rattle.m_ast.specs.declared.variable.Role.TheVariants.{Input, Computed, Constant}
use Rattle.m_ast.specs.declared.variable.VariableItem.{VariableItem}
use Rattle.m_ast.specs.declared.item.ErrorItem.{ErrorItem}
use Rattle.m_ast.specs.Items.{code_in, variable_cells, variable_size}
use Rattle.m_names.specs.Names.{has}
use Rattle.m_symbols.specs.declared.variable.Variable.{Variable}
use Rattle.m_symbols.specs.declared.fault.DeclareFault.{DeclareFault}
use Rattle.m_symbols.specs.declared.fault.DeclareFault.TheVariants.{AliasTwice, TableSize}
use Rattle.m_symbols.specs.Declarations.{Declared, names_of, codes_of, error_names_of, owners_from}
use Rattle.m_symbols.specs.Faults.{name_fault, code_fault, size_fault, cells_fault, variable_fault, error_fault, paired_place}
use Rattle.m_symbols.specs.Faults.{placed_name, placed_code, placed_error}
use Rattle.m_symbols.proofs.Found.{has-none, has_code-none}

-- of two faults neither occurs
pub parts : (a b : Option DeclareFault) → option_or a b ≡ None → (a ≡ None) × (b ≡ None)
parts None b e = (refl, e)
parts (Some f) b e = (cc, cc)

unmapped : {X Y : Type 0} (f : X → Y) (o : Option X) → option_map f o ≡ None → o ≡ None
unmapped f None e = refl
unmapped f (Some x) e = cc

-- its name is new
pub new_name : (d : Declared) (v : VariableItem) → variable_fault d v ≡ None → has v.name (names_of d.variables) ≡ false
new_name d v e = has-none (λ (w : Variable). w.item.name) (λ (w : Variable). w.item.place) v.name d.variables (unmapped _ _ (parts (name_fault d v) _ e).0)

pub new_error : (d : Declared) (v : ErrorItem) → error_fault d v ≡ None → has v.name (error_names_of d.errors) ≡ false
new_error d v e = has-none (λ (w : ErrorItem). w.name) (λ (w : ErrorItem). w.place) v.name d.errors (unmapped _ _ e)

abbrev taken : List Variable → Place → List ℕ → Option DeclareFault
taken vs here code = option_map (λ place. AliasTwice code place here) (paired_place code (filter_map placed_code vs))

untaken : (r : Role) (vs : List Variable) (here : Place) → option_and_then (taken vs here) (code_in r) ≡ None
    → IfSome (code_in r) (λ code. has code (codes_of vs) ≡ false)
untaken (Input code) vs here e = has_code-none code vs (unmapped _ _ e)
untaken (Computed size) vs here e = tt
untaken (Constant amount) vs here e = tt

-- its code is new
pub new_code : (d : Declared) (v : VariableItem) → variable_fault d v ≡ None → IfSome (code_in v.role) (λ code. has code (codes_of d.variables) ≡ false)
new_code d v e = untaken v.role d.variables v.place (parts (code_fault d v) _ (parts (name_fault d v) _ e).1).0

unless : (b : Bool) (f : DeclareFault) → cond b (Some f) None ≡ None → b ≡ false
unless true f e = cc
unless false f e = refl

wrong_size : (here : Place) (size : Option ℕ) → option_and_then (λ n. cond ((n == 0) || nat_lt TABLE_CELLS n) (Some (TableSize here)) None) size ≡ None
    → IfSome size (λ n. (n ≢ 0) × (n ≤ TABLE_CELLS))
wrong_size here None e = tt
wrong_size here (Some size) e =
    let p = or-false (size == 0) (nat_lt TABLE_CELLS size) (unless _ (TableSize here) e) in
    (eqb-false size 0 p.0, ltb-false TABLE_CELLS size p.1)

-- a table has a cell, and no more than the limit
pub table_cells : (d : Declared) (v : VariableItem) → variable_fault d v ≡ None → IfSome (variable_size v) (λ n. (n ≢ 0) × (n ≤ TABLE_CELLS))
table_cells d v e = wrong_size v.place (variable_size v) (parts (size_fault v) _ (parts (code_fault d v) _ (parts (name_fault d v) _ e).1).1).0

not_above : (n : ℕ) → nat_lt CELLS n ≡ false → n ≤ CELLS
not_above n e = grind (arith, nat_tests)

-- its cells have room
pub few_cells : (d : Declared) (v : VariableItem) → variable_fault d v ≡ None → length (owners_from 0 d.variables) + variable_cells v ≤ CELLS
few_cells d v e =
    not_above _ (unless _ _ (parts (size_fault v) _ (parts (code_fault d v) _ (parts (name_fault d v) _ e).1).1).1)
