-- Words of declarations, and sizes of tables.
use Rattle.std.proofs.Common.{◌≡◌, ◌≢◌, ◌≤◌, ℕ, ◌+◌, Bool, true, false, cond, List, [], ◌∷◌, ◌++◌, Option, Some, None, refl}
use Rattle.std.specs.Prelude.{IfSome}
use Rattle.std.specs.List.{AllByRecursion, filter_map, cons_option}
use Rattle.m_places.specs.declared.limits.TheConstants.{TABLE_CELLS}
use Rattle.m_ast.specs.declared.item.Item.{Item}
use Rattle.m_ast.specs.declared.item.Item.TheVariants.{Variable, Rule, Verif, Error, Silent}
use Rattle.m_ast.specs.declared.variable.VariableItem.{VariableItem}
use Rattle.m_ast.specs.Items.{variable_in, error_in, variables_of, variable_size, variable_cells}
use Rattle.m_symbols.specs.declared.variable.Variable.{Variable as Declaration}
use Rattle.m_symbols.specs.Declarations.{Declared, declared_by, placed_from}
use Rattle.m_symbols.specs.Faults.{fault_at, fault_behind, first_fault}
use Rattle.m_symbols.proofs.Faultless.{parts, table_cells}
use Rattle.m_compile.proofs.words.Items.{IsWorded, IsWordedVariable, IsWordedError}

-- ---- lists

added : {B : Type 0} (Q : B → Type 0) (o : Option B) (ys : List B) → IfSome o Q → AllByRecursion Q ys → AllByRecursion Q (cons_option o ys)
added Q None ys h a = a
added Q (Some y) ys h a = (h, a)

pub all_filtered : {A B : Type 0} (f : A → Option B) (P : A → Type 0) (Q : B → Type 0) → ((x : A) → P x → IfSome (f x) Q) → (xs : List A) → AllByRecursion P xs
    → AllByRecursion Q (filter_map f xs)
all_filtered f P Q h [] a = tt
all_filtered f P Q h (x ∷ xs) a = added Q (f x) (filter_map f xs) (h x a.0) (all_filtered f P Q h xs a.1)

both_all : {A : Type 0} (P Q : A → Type 0) (xs : List A) → AllByRecursion P xs → AllByRecursion Q xs → AllByRecursion (λ x. P x × Q x) xs
both_all P Q [] h k = tt
both_all P Q (x ∷ xs) h k = ((h.0, k.0), both_all P Q xs h.1 k.1)

-- ---- sizes

-- the size of a table is within the limit
abbrev pub IsSmallTable : VariableItem → Type 0
IsSmallTable v = IfSome (variable_size v) (λ size. size ≤ TABLE_CELLS)

abbrev IsSmall : Item → Type 0
IsSmall (Variable v) = IsSmallTable v
IsSmall (Rule r) = Unit {0}
IsSmall (Verif v) = Unit {0}
IsSmall (Error e) = Unit {0}
IsSmall (Silent p) = Unit {0}

small : (size : Option ℕ) → IfSome size (λ n. (n ≢ 0) × (n ≤ TABLE_CELLS)) → IfSome size (λ n. n ≤ TABLE_CELLS)
small None h = tt
small (Some n) h = h.1

item_small : (d : Declared) (i : Item) → fault_at d i ≡ None → IsSmall i
item_small d (Variable v) e = small (variable_size v) (table_cells d v e)
item_small d (Rule r) e = tt
item_small d (Verif v) e = tt
item_small d (Error x) e = tt
item_small d (Silent p) e = tt

items_small : (earlier later : List Item) → fault_behind earlier later ≡ None → AllByRecursion IsSmall later
items_small earlier [] e = tt
items_small earlier (i ∷ later) e =
    let p = parts (fault_at (declared_by earlier) i) (fault_behind (earlier ++ i ∷ []) later) e in
    (item_small (declared_by earlier) i p.0, items_small (earlier ++ i ∷ []) later p.1)

-- ---- variables and errors

-- the properties of a declaration
abbrev pub IsGood : VariableItem → Type 0
IsGood v = IsWordedVariable v × IsSmallTable v

good : (i : Item) → IsWorded i × IsSmall i → IfSome (variable_in i) IsGood
good (Variable v) h = h
good (Rule r) h = tt
good (Verif v) h = tt
good (Error e) h = tt
good (Silent p) h = tt

error_good : (i : Item) → IsWorded i → IfSome (error_in i) IsWordedError
error_good (Variable v) h = tt
error_good (Rule r) h = tt
error_good (Verif v) h = tt
error_good (Error e) h = h
error_good (Silent p) h = tt

all_placed : (first : ℕ) (vs : List VariableItem) → AllByRecursion IsGood vs → AllByRecursion (λ (v : Declaration). IsGood v.item) (placed_from first vs)
all_placed first [] a = tt
all_placed first (v ∷ vs) a = (a.0, all_placed (first + variable_cells v) vs a.1)

pub items_good : (items : List Item) → AllByRecursion IsWorded items → first_fault items ≡ None → AllByRecursion IsGood (variables_of items)
items_good items w e = all_filtered variable_in (λ i. IsWorded i × IsSmall i) IsGood good items (both_all IsWorded IsSmall items w (items_small [] items e))

pub variables_good : (items : List Item) → AllByRecursion IsWorded items → first_fault items ≡ None
    → AllByRecursion (λ (v : Declaration). IsGood v.item) (declared_by items).variables
variables_good items w e = all_placed 0 (variables_of items) (items_good items w e)

pub errors_good : (items : List Item) → AllByRecursion IsWorded items → AllByRecursion IsWordedError (declared_by items).errors
errors_good items w = all_filtered error_in IsWorded IsWordedError error_good items w
