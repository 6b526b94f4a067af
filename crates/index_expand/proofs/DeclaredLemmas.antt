-- Declarations without a fault have no table without cells.
use Rattle.std.proofs.Common.{◌≡◌, ◌≢◌, ℕ, zero, suc, ◌+◌, List, [], ◌∷◌, ◌++◌, Option, Some, None, refl, sym, subst, arith}
use Rattle.std.specs.Prelude.{◌≤◌, All, IfSome}
use Rattle.std.proofs.lemmas.List.Elements.{All-nil, All-cons, All-head, All-tail}
use Rattle.m_places.specs.declared.limits.TheConstants.{TABLE_CELLS}
use Rattle.m_ast.specs.declared.item.Item.{Item}
use Rattle.m_ast.specs.declared.item.Item.TheVariants.{Variable, Rule, Verif, Error, Silent}
use Rattle.m_ast.specs.declared.variable.VariableItem.{VariableItem}
use Rattle.m_ast.specs.Items.{variables_of, variable_size, variable_cells}
use Rattle.m_symbols.specs.Declarations.{Declared, declared_by, placed_from}
use Rattle.m_symbols.specs.Faults.{variable_fault, fault_at, fault_behind, first_fault}
use Rattle.m_symbols.specs.TableSizes.{HasACell, TablesHaveCells}
use Rattle.m_symbols.proofs.Faultless.{parts, table_cells}

abbrev IsSized : VariableItem → Type 0
IsSized v = variable_size v ≢ Some 0

not_zero : (size : Option ℕ) → IfSome size (λ n. (n ≢ 0) × (n ≤ TABLE_CELLS)) → size ≢ Some 0
not_zero None h = λ z. cc
not_zero (Some n) h = λ z. h.0 (cc)

sized : (earlier : Declared) (v : VariableItem) → variable_fault earlier v ≡ None → IsSized v
sized earlier v e = not_zero (variable_size v) (table_cells earlier v e)

all_sized : (earlier items : List Item) → fault_behind earlier items ≡ None → All IsSized (variables_of items)
all_sized earlier [] e = All-nil IsSized
all_sized earlier (Variable v ∷ items) e =
    let rest = fault_behind (earlier ++ Variable v ∷ []) items in
    All-cons IsSized v (variables_of items) (sized (declared_by earlier) v (parts (variable_fault (declared_by earlier) v) rest e).0)
    (all_sized (earlier ++ Variable v ∷ []) items (parts (variable_fault (declared_by earlier) v) rest e).1)
all_sized earlier (Rule r ∷ items) e = all_sized (earlier ++ Rule r ∷ []) items e
all_sized earlier (Verif v ∷ items) e = all_sized (earlier ++ Verif v ∷ []) items e
all_sized earlier (Error f ∷ items) e =
    all_sized (earlier ++ Error f ∷ []) items (parts (fault_at (declared_by earlier) (Error f)) (fault_behind (earlier ++ Error f ∷ []) items) e).1
all_sized earlier (Silent p ∷ items) e = all_sized (earlier ++ Silent p ∷ []) items e

placed_sized : (first : ℕ) (vs : List VariableItem) → All IsSized vs → All HasACell (placed_from first vs)
placed_sized first [] all = All-nil HasACell
placed_sized first (v ∷ vs) all =
    All-cons HasACell _ (placed_from (first + variable_cells v) vs) (All-head IsSized v vs all)
    (placed_sized (first + variable_cells v) vs (All-tail IsSized v vs all))

pub tables_have_cells : (items : List Item) (declared : Declared) → first_fault items ≡ None → declared ≡ declared_by items → TablesHaveCells declared
tables_have_cells items declared faultless e = subst TablesHaveCells (sym e) (placed_sized 0 (variables_of items) (all_sized [] items faultless))
