-- The start values of cells are within the bounds of amounts, if constants and the values of inputs are.
use Rattle.std.proofs.Common.{◌≡◌, ℕ, ◌+◌, ◌==◌, Bool, true, false, cond, zero, suc, List, [], ◌∷◌, map, replicate, Ok, ℤ}
use Rattle.std.specs.List.{AllByRecursion, AllZip, range_with_len}
use Rattle.m_fixed.specs.declared.amount.Value.{Value}
use Rattle.m_fixed.specs.declared.amount.Value.TheVariants.{Num}
use Rattle.m_fixed.specs.Amounts.{IsAmount}
use Rattle.m_fixed.specs.Laws.{IsValue}
use Rattle.m_fixed.specs.Text.{text_value}
use Rattle.observables.specs.declared.inputs.Coded.{Coded}
use Rattle.observables.proofs.InputLemmas.{read_amount}
use Rattle.household.specs.Household.{household_of, IsRow, value_at, values_of}
use Rattle.household.proofs.LawLemmas.{read_household_is}
use Rattle.m_ast.specs.declared.variable.VariableItem.{VariableItem}
use Rattle.m_ast.specs.declared.variable.Role.{Role}
use Rattle.m_ast.specs.declared.variable.Role.TheVariants.{Input, Computed, Constant}
use Rattle.m_ast.specs.declared.item.Item.{Item}
use Rattle.m_ast.specs.declared.item.Item.TheVariants.{Variable, Rule, Verif, Error, Silent}
use Rattle.m_ast.specs.Items.{variable_in, variables_of, variable_cells}
use Rattle.m_symbols.specs.declared.variable.Variable.{Variable as Declaration}
use Rattle.m_symbols.specs.Declarations.{Declared, declared_by, placed_from}
use Rattle.driver_core.specs.Answers.{first_value, next_input, start_from, start_of}
use Rattle.micro_m.specs.Values.{environment}
use Rattle.std.specs.Prelude.{IfSome}
use Rattle.m_compile.proofs.words.Items.{all_append}
use Rattle.m_compile.proofs.words.Declared.{all_filtered}
use Rattle.report_laws.proofs.Operators.{AreValues, listed_value}
use Rattle.report_laws.proofs.Items.{IsOfAmount, ItemSays}

-- ---- constants

abbrev pub AreOfAmount : List Declaration → Type 0
AreOfAmount vs = AllByRecursion (λ v. IsOfAmount v.item.role) vs

item_variable : (i : Item) → ItemSays i → IfSome (variable_in i) (λ v. IsOfAmount v.role)
item_variable (Variable v) h = h
item_variable (Rule r) h = tt
item_variable (Verif v) h = tt
item_variable (Error e) h = tt
item_variable (Silent p) h = tt

all_placed : (first : ℕ) (vs : List VariableItem) → AllByRecursion (λ v. IsOfAmount v.role) vs → AreOfAmount (placed_from first vs)
all_placed first [] a = tt
all_placed first (v ∷ vs) a = (a.0, all_placed (first + variable_cells v) vs a.1)

pub declared_amounts : (items : List Item) → AllByRecursion ItemSays items → AreOfAmount (declared_by items).variables
declared_amounts items a = all_placed 0 (variables_of items) (all_filtered variable_in ItemSays (λ v. IsOfAmount v.role) item_variable items a)

-- ---- the values of cells

first_is_value : (inputs : List Value) (n : ℕ) (role : Role) → AllByRecursion IsValue inputs → IsOfAmount role → IsValue (first_value inputs n role)
first_is_value inputs n (Input code) a h = listed_value inputs n a
first_is_value inputs n (Computed size) a h = tt
first_is_value inputs n (Constant amount) a h = h

all_same : (n : ℕ) (v : Value) → IsValue v → AllByRecursion IsValue (replicate n v)
all_same zero v h = tt
all_same (suc n) v h = (h, all_same n v h)

start_values : (inputs : List Value) (n : ℕ) (vs : List Declaration) → AllByRecursion IsValue inputs → AreOfAmount vs
    → AllByRecursion IsValue (start_from inputs n vs)
start_values inputs n [] a h = tt
start_values inputs n (v ∷ vs) a h =
    all_append IsValue (replicate v.cells (first_value inputs n v.item.role)) (start_from inputs (next_input n v.item.role) vs)
    (all_same v.cells (first_value inputs n v.item.role) (first_is_value inputs n v.item.role a h.0)) (start_values inputs (next_input n v.item.role) vs a h.1)

pub start_is_values : (declared : Declared) (inputs : List Value) → AllByRecursion IsValue inputs → AreOfAmount declared.variables
    → AreValues (environment (start_of declared inputs))
start_is_values declared inputs a h c = listed_value (start_of declared inputs) c (start_values inputs 0 declared.variables a h)

-- ---- a household

abbrev AreAmounts : List (ℕ × ℤ) → Type 0
AreAmounts pairs = AllByRecursion (λ pair. IsAmount pair.1) pairs

rows_amounts : (inputs : List Coded) (rows : List (List (List ℕ))) (pairs : List (ℕ × ℤ)) → AllZip (IsRow inputs) rows pairs → AreAmounts pairs
rows_amounts inputs [] [] h = tt
rows_amounts inputs [] (pair ∷ pairs) h = absurd h
rows_amounts inputs (row ∷ rows) [] h = absurd h
rows_amounts inputs (row ∷ rows) (pair ∷ pairs) h = (read_amount (text_value h.0.amount) pair.1 h.0.spelled, rows_amounts inputs rows pairs h.1)

given_value : (pairs : List (ℕ × ℤ)) (input : ℕ) → AreAmounts pairs → IsValue (value_at pairs input)
given_value [] input h = tt
given_value (pair ∷ pairs) input h = by (pair.0 == input) (given_value pairs input h.1)
  where
    by : (b : Bool) → IsValue (value_at pairs input) → IsValue (cond b (Num pair.1) (value_at pairs input))
    by true k = h.0
    by false k = k

all_given : (pairs : List (ℕ × ℤ)) (first n : ℕ) → AreAmounts pairs → AllByRecursion IsValue (map (value_at pairs) (range_with_len first n))
all_given pairs first zero h = tt
all_given pairs first (suc n) h = (given_value pairs first h, all_given pairs (first + 1) n h)

-- the values that a household gives inputs
pub household_values : (inputs : List Coded) (rows : List ℕ) (pairs : List (ℕ × ℤ)) (n : ℕ) → household_of inputs rows ≡ Ok pairs
    → AllByRecursion IsValue (values_of pairs n)
household_values inputs rows pairs n e = let is = read_household_is inputs rows pairs e in all_given pairs 0 n (rows_amounts inputs is.rows pairs is.in_order)
