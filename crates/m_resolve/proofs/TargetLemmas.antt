-- The cell of a target is a declared cell.
use Rattle.std.proofs.Common.{◌≡◌, ◌≤◌, ◌<◌, ◌+◌, ℕ, Bool, true, false, cond, nat_lt, List, length, Option, None, Some, Result, Ok, Err, refl, sym, ap, ◌∙◌}
use Rattle.std.proofs.Common.{subst, arith, slice_get}
use Rattle.std.specs.Prelude.{IfOk, IfSome}
use Rattle.std.specs.Option.{ok_or, option_and_then}
use Rattle.std.proofs.lemmas.Bool.{ltb-true}
use Rattle.m_places.specs.declared.place.Place.{Place}
use Rattle.m_places.specs.Refusals.{Outcome}
use Rattle.m_names.specs.Names.{index_of}
use Rattle.m_ast.specs.Items.{cells_in, size_in, variable_size}
use Rattle.m_ast.specs.declared.item.Slot.{Slot}
use Rattle.m_ast.specs.declared.item.Slot.TheVariants.{Whole, Cell, Every}
use Rattle.m_ast.specs.declared.variable.Role.{Role}
use Rattle.m_ast.specs.declared.variable.Role.TheVariants.{Input, Computed, Constant}
use Rattle.m_symbols.specs.declared.variable.Variable.{Variable}
use Rattle.m_symbols.specs.Declarations.{Declared, names_of, owners_from}
use Rattle.m_symbols.specs.Cells.{variable_named}
use Rattle.m_symbols.specs.Placed.{IsPlaced}
use Rattle.m_symbols.proofs.Placing.{placed_ends, fits, table_sized}
use Rattle.m_ast.specs.declared.plain_rules.Definition.{Definition}
use Rattle.m_resolve.specs.Terms.{if_resolved}
use Rattle.m_resolve.specs.Bases.{target_in, resolved_target, single_target, table_target}
use Rattle.m_resolve.specs.declared.fault.ResolveFault.{ResolveFault}
use Rattle.m_resolve.specs.declared.fault.ResolveFault.TheVariants.{BadTarget, UnknownName, Memory}

-- the variable with a name is at some index
at_place : (vs : List Variable) (o : Option ℕ) (v : Variable) → option_and_then (slice_get vs) o ≡ Some v → (i : ℕ) × (slice_get vs i ≡ Some v)
at_place vs None v e = absurd (cc)
at_place vs (Some i) v e = (i, e)

pub named_at : (d : Declared) (name : List ℕ) (v : Variable) → variable_named d name ≡ Some v → (i : ℕ) × (slice_get d.variables i ≡ Some v)
named_at d name v e = at_place d.variables (index_of name (names_of d.variables)) v e

pub named_fits : (d : Declared) (name : List ℕ) (count : ℕ) (v : Variable) → IsPlaced d → variable_named d name ≡ Some v
    → count ≡ length (owners_from 0 d.variables) → v.first_cell + v.cells ≤ count
named_fits d name count v p e c = let k = named_at d name v e in fits d k.0 count v p k.1 c

pub named_sized : (d : Declared) (name : List ℕ) (v : Variable) → IsPlaced d → variable_named d name ≡ Some v → IfSome (variable_size v.item) (λ s. v.cells ≡ s)
named_sized d name v p e = let k = named_at d name v e in table_sized d k.0 v p k.1

in_table : (name : List ℕ) (place : Place) (first size all k : ℕ) (b : Bool) → nat_lt k size ≡ b → first + size ≤ all
    → IfOk (cond b (Ok (first + k)) (Err (BadTarget name place))) (λ c. c < all)
in_table name place first size all k true e h = let l = ltb-true k size e in omega (arith, h, l)
in_table name place first size all k false e h = tt

in_size : (name : List ℕ) (place : Place) (first size all : ℕ) (slot : Slot) → first + size ≤ all
    → IfOk (table_target name place first size slot) (λ c. c < all)
in_size name place first size all Whole h = tt
in_size name place first size all (Cell k) h = in_table name place first size all k (nat_lt k size) refl h
in_size name place first size all Every h = tt

in_single : (name : List ℕ) (place : Place) (first all : ℕ) (is_computed : Bool) (slot : Slot) → first + 1 ≤ all
    → IfOk (single_target name place first is_computed slot) (λ c. c < all)
in_single name place first all true Whole h = omega (arith, h)
in_single name place first all false Whole h = tt
in_single name place first all _ (Cell k) h = tt
in_single name place first all _ Every h = tt

in_variable : (name : List ℕ) (place : Place) (first all cells : ℕ) (slot : Slot) (role : Role) → cells ≡ cells_in (size_in role) → first + cells ≤ all
    → IfOk (target_in name place first slot role) (λ c. c < all)
in_variable name place first all cells slot (Computed (Some size)) e h = in_size name place first size all slot (omega (arith, e, h))
in_variable name place first all cells slot (Computed None) e h = in_single name place first all true slot (omega (arith, e, h))
in_variable name place first all cells slot (Input code) e h = in_single name place first all false slot (omega (arith, e, h))
in_variable name place first all cells slot (Constant amount) e h = in_single name place first all false slot (omega (arith, e, h))

if_target : (stated : Result ℕ ResolveFault) (cell all : ℕ) → stated ≡ Ok cell → IfOk stated (λ c. c < all) → cell < all
if_target stated cell all e h = subst (λ r. IfOk r (λ c. c < all)) e h

pub target_known : (d : Declared) (name : List ℕ) (place : Place) (slot : Slot) (v : Variable) (result : Result ℕ ResolveFault) → IsPlaced d
    → variable_named d name ≡ Some v
    → Outcome Memory result (λ cell. target_in name place v.first_cell slot v.item.role ≡ Ok cell)
    (λ fault. target_in name place v.first_cell slot v.item.role ≡ Err fault)
    → IfOk result (λ c. c < length (owners_from 0 d.variables))
target_known d name place slot v (Ok cell) p e o =
    let k = named_at d name v e in
    let m = placed_ends d k.0 v p k.1 in
    let all = length (owners_from 0 d.variables) in
    if_target (target_in name place v.first_cell slot v.item.role) cell all o (in_variable name place v.first_cell all v.cells slot v.item.role m.cells
    (omega (arith, m.ends)))
target_known d name place slot v (Err fault) p e o = tt

-- the cell of a definition's target, given its variable
abbrev target_by : Definition → Option Variable → Result ℕ ResolveFault
target_by definition o = if_resolved (λ v. target_in definition.target definition.place v.first_cell definition.slot v.item.role)
    (ok_or o (UnknownName definition.target definition.place))

-- the cell of a definition's target is a declared cell
pub resolved_target_within : (d : Declared) (definition : Definition) (cell : ℕ) → IsPlaced d → resolved_target d definition ≡ Ok cell
    → cell < length (owners_from 0 d.variables)
resolved_target_within d definition cell p e = by_variable (variable_named d definition.target) refl
  where
    by_variable : (o : Option Variable) → variable_named d definition.target ≡ o → cell < length (owners_from 0 d.variables)
    by_variable None n = let s = sym (ap (target_by definition) n) ∙ e in absurd (cc)
    by_variable (Some v) n =
        let k = named_at d definition.target v n in
        let m = placed_ends d k.0 v p k.1 in
        if_target (target_in definition.target definition.place v.first_cell definition.slot v.item.role) cell (length (owners_from 0 d.variables))
        (sym (ap (target_by definition) n) ∙ e)
        (in_variable definition.target definition.place v.first_cell (length (owners_from 0 d.variables)) v.cells definition.slot v.item.role m.cells
        (omega (arith, m.ends)))
