-- The variable of a name, and the cells of a kind.
use Rattle.std.proofs.Common.{◌≡◌, ◌≤◌, ◌+◌, ℕ, ℤ, Bool, true, false, cond, List, [], ◌∷◌, ◌++◌, length, Option, None, Some, refl, sym, ap, subst, ◌∙◌}
use Rattle.std.proofs.Common.{arith, slice_get}
use Rattle.std.specs.Prelude.{IfSome}
use Rattle.std.specs.List.{flat_map}
use Rattle.std.specs.Option.{option_and_then}
use Rattle.m_names.specs.Names.{index_of}
use Rattle.m_ast.specs.declared.variable.VariableItem.{VariableItem}
use Rattle.m_ast.specs.Items.{variable_size, variable_cells}
use Rattle.m_symbols.specs.declared.variable.Variable.{Variable}
use Rattle.m_symbols.specs.Declarations.{Declared, names_of, owners_from, placed_from}
use Rattle.m_symbols.specs.Kinds.{is_of_kind}
use Rattle.driver_core.specs.declared.kind_index.KindIndex.{KindIndex}
use Rattle.driver_core.specs.Ascending.{ascending, Ascends}
use Rattle.driver_core.specs.Groups.{groups_in}
use Rattle.driver_core.specs.Kinds.{of_kind, cells_with, IsIndexOf}
use Rattle.driver_core.proofs.Orders.{same, ascending-ascends, ascends-from, times-ascending}
use Rattle.driver_core.proofs.GroupLemmas.{groups-with}
use Rattle.m_symbols.specs.Cells.{variable_named}
use Rattle.m_symbols.specs.Placed.{IsPlaced, items_of}
use Rattle.m_symbols.proofs.Placing.{fits, table_sized}
use Rattle.mpp_parser.specs.declared.term.Kind.TheVariants.{Attribute}
use Rattle.mpp_core.specs.Names.{kind_cells}

at_place : (vs : List Variable) (o : Option ℕ) (v : Variable) → option_and_then (slice_get vs) o ≡ Some v → (i : ℕ) × (slice_get vs i ≡ Some v)
at_place vs None v e = absurd (cc)
at_place vs (Some i) v e = (i, e)

pub named_at : (d : Declared) (name : List ℕ) (v : Variable) → variable_named d name ≡ Some v → (i : ℕ) × (slice_get d.variables i ≡ Some v)
named_at d name v e = at_place d.variables (index_of name (names_of d.variables)) v e

pub named_fits : (d : Declared) (name : List ℕ) (count : ℕ) (v : Variable) → IsPlaced d → variable_named d name ≡ Some v
    → count ≡ length (owners_from 0 d.variables) → v.first_cell + v.cells ≤ count
named_fits d name count v p e c = let k = named_at d name v e in fits d k.0 count v p k.1 c

pub named_sized : (d : Declared) (name : List ℕ) (v : Variable) → IsPlaced d → variable_named d name ≡ Some v → IfSome (variable_size v.item) (λ s. v.cells ≡ s)
named_sized d name v p e = let k = named_at d name v e in table_sized d k.0 v p k.1

-- the cells of a kind are those that an index is compared with
kind-with : (a : List ℕ) (values : List ℤ) (vs : List Variable) → flat_map (of_kind a values) vs ≡ cells_with a values vs
kind-with a values [] = refl
kind-with a values (v ∷ vs) = ap (λ cells. of_kind a values v ++ cells) (kind-with a values vs)

-- the cells of a kind ascend, since cells are numbered in order
ascends-by : (first cell size : ℕ) (b : Bool) (rest : List ℕ) → first ≡ cell → Ascends (first + size) rest → Ascends first (cond b (cell ∷ []) [] ++ rest)
ascends-by first cell size true rest e h = (omega (arith, e), ascends-from cell (first + size) rest (omega (arith, e)) h)
ascends-by first cell size false rest e h = ascends-from first (first + size) rest (omega arith) h

kind-ascends : (a : List ℕ) (values : List ℤ) (first : ℕ) (items : List VariableItem) → Ascends first (cells_with a values (placed_from first items))
kind-ascends a values first [] = tt
kind-ascends a values first (item ∷ items) =
    ascends-by first first (variable_cells item) (is_of_kind (record { item = item; first_cell = first; cells = variable_cells item }) a values)
    (cells_with a values (placed_from (first + variable_cells item) items))
    refl (kind-ascends a values (first + variable_cells item) items)

-- the cells that an index has of a kind
pub kind-is : (d : Declared) (index : KindIndex) (a : List ℕ) (values : List ℤ) → IsPlaced d → IsIndexOf d.variables index
    → ascending (groups_in index a values) ≡ kind_cells d (Attribute a values)
kind-is d index a values p h =
    same 0 0 (ascending (groups_in index a values)) (cells_with a values d.variables)
    (ascending-ascends (groups_in index a values))
    (subst (λ (l : List Variable). Ascends 0 (cells_with a values l)) (sym p) (kind-ascends a values 0 (items_of d.variables)))
    (λ c. times-ascending c (groups_in index a values) ∙ groups-with c d.variables index a values h)
    ∙ sym (kind-with a values d.variables)
