-- The declarations of the rule base of `large N`.
use Rattle.std.proofs.Common.{◌≡◌, ℕ, zero, suc, ◌+◌, ◌-◌, List, [], ◌∷◌, ◌++◌, map, decimal, length, replicate, refl, ap, ◌∙◌, append-nil, arith}
use Rattle.std.specs.List.{filter_map, cons_option}
use Rattle.std.proofs.lemmas.List.{map-append, length-append, length-replicate}
use Rattle.std.proofs.lemmas.List.Elements.{filter_map-append}
use Rattle.m_places.specs.declared.place.Place.{Place}
use Rattle.m_ast.specs.declared.item.Item.{Item}
use Rattle.m_ast.specs.declared.item.ErrorItem.{ErrorItem}
use Rattle.m_ast.specs.declared.variable.VariableItem.{VariableItem}
use Rattle.m_ast.specs.Items.{variable_in, error_in, variables_of, errors_of, variable_cells, variable_code}
use Rattle.m_symbols.specs.declared.variable.Variable.{Variable}
use Rattle.m_symbols.specs.Declarations.{Declared, declared_by, placed_from, names_of, codes_of, owners_from}
use Rattle.large_validity.proofs.Names.{names, codes_until, input_name, sum_name, code_name}
use Rattle.large_validity.proofs.Pieces.{after}
use Rattle.large_validity.proofs.Lines.{input_line, first_line, declared_after, rules_after, numbered_line}
use Rattle.large_validity.proofs.Items.{the_input, the_sum, error_of, declared_items, rule_items, first_item, end_items, base_items}

-- the place of a sum's name
abbrev pub sum_place : Place → ℕ → Place
sum_place p k = after (declared_after p k) (input_line (decimal k) [])

abbrev pub variable_items : Place → ℕ → List VariableItem
variable_items p zero = []
variable_items p (suc k) = variable_items p k ++ (the_input (decimal k) (declared_after p k) ∷ the_sum (decimal k) (sum_place p k) ∷ [])

abbrev pub input_variable : Place → ℕ → Variable
input_variable p k = record { item = the_input (decimal k) (declared_after p k); first_cell = k + k; cells = 1 }

abbrev pub sum_variable : Place → ℕ → Variable
sum_variable p k = record { item = the_sum (decimal k) (sum_place p k); first_cell = k + k + 1; cells = 1 }

abbrev pub variables : Place → ℕ → List Variable
variables p zero = []
variables p (suc k) = variables p k ++ (input_variable p k ∷ sum_variable p k ∷ [])

-- the place of the error
abbrev pub error_place : Place → ℕ → Place
error_place p n = after (rules_after (declared_after p n) (n - 1)) first_line

abbrev pub declared : Place → ℕ → Declared
declared p n = record { variables = variables p n; errors = error_of (error_place p n) ∷ [] }

-- ---- cells of items

abbrev pub cells_in_all : List VariableItem → ℕ
cells_in_all [] = 0
cells_in_all (v ∷ vs) = variable_cells v + cells_in_all vs

pub cells-append : (vs ws : List VariableItem) → cells_in_all (vs ++ ws) ≡ cells_in_all vs + cells_in_all ws
cells-append [] ws = omega arith
cells-append (v ∷ vs) ws = let k = cells-append vs ws in omega arith

pub cells_declared : (p : Place) (n : ℕ) → cells_in_all (variable_items p n) ≡ n + n
cells_declared p zero = refl
cells_declared p (suc k) =
    let k2 = cells_declared p k in
    let l = cells-append (variable_items p k) (the_input (decimal k) (declared_after p k) ∷ the_sum (decimal k) (sum_place p k) ∷ []) in
    omega arith

pub placed-append : (first : ℕ) (vs ws : List VariableItem) → placed_from first (vs ++ ws) ≡ placed_from first vs ++ placed_from (first + cells_in_all vs) ws
placed-append first [] ws = let e : first ≡ first + 0 = omega arith in ap (λ n. placed_from n ws) e
placed-append first (v ∷ vs) ws =
    let e : first + variable_cells v + cells_in_all vs ≡ first + (variable_cells v + cells_in_all vs) = omega arith in
    let head : Variable = record { item = v; first_cell = first; cells = variable_cells v } in
    ap (λ l. head ∷ l) (placed-append (first + variable_cells v) vs ws ∙ ap (λ n. placed_from (first + variable_cells v) vs ++ placed_from n ws) e)

pub length-owners : (number first : ℕ) (vs : List VariableItem) → length (owners_from number (placed_from first vs)) ≡ cells_in_all vs
length-owners number first [] = refl
length-owners number first (v ∷ vs) =
    let k = length-owners (number + 1) (first + variable_cells v) vs in
    let l = length-append (replicate (variable_cells v) number) (owners_from (number + 1) (placed_from (first + variable_cells v) vs)) in
    let m = length-replicate (variable_cells v) number in
    omega arith

-- ---- the declarations

pub placed_variables : (p : Place) (n : ℕ) → placed_from 0 (variable_items p n) ≡ variables p n
placed_variables p zero = refl
placed_variables p (suc k) =
    let a = the_input (decimal k) (declared_after p k) in
    let b = the_sum (decimal k) (sum_place p k) in
    let c = cells_declared p k in
    let e : 0 + cells_in_all (variable_items p k) ≡ k + k = omega arith in
    placed-append 0 (variable_items p k) (a ∷ b ∷ [])
    ∙ ap (λ l. l ++ placed_from (0 + cells_in_all (variable_items p k)) (a ∷ b ∷ [])) (placed_variables p k)
    ∙ ap (λ n. variables p k ++ placed_from n (a ∷ b ∷ [])) e

pub items_declared : (p : Place) (n : ℕ) → variables_of (declared_items p n) ≡ variable_items p n
items_declared p zero = refl
items_declared p (suc k) =
    let a = the_input (decimal k) (declared_after p k) in
    let b = the_sum (decimal k) (sum_place p k) in
    filter_map-append variable_in (declared_items p k) _ ∙ ap (λ l. l ++ (a ∷ b ∷ [])) (items_declared p k)

pub no_errors_declared : (p : Place) (n : ℕ) → errors_of (declared_items p n) ≡ []
no_errors_declared p zero = refl
no_errors_declared p (suc k) = filter_map-append error_in (declared_items p k) _ ∙ ap (λ l. l ++ []) (no_errors_declared p k)

pub no_variables_ruled : (q : Place) (n : ℕ) (xs : List Item) → variables_of (rule_items q n ++ xs) ≡ variables_of xs
no_variables_ruled q zero xs = refl
no_variables_ruled q (suc j) xs = no_variables_ruled (after q (numbered_line j)) j xs

pub no_errors_ruled : (q : Place) (n : ℕ) (xs : List Item) → errors_of (rule_items q n ++ xs) ≡ errors_of xs
no_errors_ruled q zero xs = refl
no_errors_ruled q (suc j) xs = no_errors_ruled (after q (numbered_line j)) j xs

made : (vs ws : List VariableItem) (us : List Variable) (es fs : List ErrorItem) → vs ≡ ws → placed_from 0 ws ≡ us → es ≡ fs
    → (let left : Declared = record { variables = placed_from 0 vs; errors = es } in left) ≡ (let right : Declared = record { variables = us; errors = fs } in
    right)
made vs ws us es fs e f g = let h : placed_from 0 vs ≡ us = ap (placed_from 0) e ∙ f in λ i. record { variables = h i; errors = g i }

-- The declarations of the items.
pub base_declares : (p : Place) (n : ℕ) → declared_by (base_items p n) ≡ declared p n
base_declares p n =
    let q = declared_after p n in
    let r = rules_after q (n - 1) in
    let last = first_item r ∷ end_items (decimal (n - 1)) (after r first_line) in
    let e : variables_of (base_items p n) ≡ variable_items p n =
    filter_map-append variable_in (declared_items p n) (rule_items q (n - 1) ++ last)
    ∙ ap (λ l. variables_of (declared_items p n) ++ l) (no_variables_ruled q (n - 1) last) ∙ append-nil (variables_of (declared_items p n))
    ∙ items_declared p n in
    let f : errors_of (base_items p n) ≡ error_of (error_place p n) ∷ [] =
    filter_map-append error_in (declared_items p n) (rule_items q (n - 1) ++ last)
    ∙ ap (λ l. errors_of (declared_items p n) ++ l) (no_errors_ruled q (n - 1) last)
    ∙ ap (λ l. l ++ (error_of (error_place p n) ∷ [])) (no_errors_declared p n) in
    made (variables_of (base_items p n)) (variable_items p n) (variables p n) (errors_of (base_items p n)) (error_of (error_place p n) ∷ []) e
    (placed_variables p n) f

-- ---- names and codes

pub names-placed : (first : ℕ) (vs : List VariableItem) → names_of (placed_from first vs) ≡ map (λ (v : VariableItem). v.name) vs
names-placed first [] = refl
names-placed first (v ∷ vs) = ap (λ l. v.name ∷ l) (names-placed (first + variable_cells v) vs)

pub codes-placed : (first : ℕ) (vs : List VariableItem) → codes_of (placed_from first vs) ≡ filter_map variable_code vs
codes-placed first [] = refl
codes-placed first (v ∷ vs) = ap (λ l. cons_option (variable_code v) l) (codes-placed (first + variable_cells v) vs)

pub item_names : (p : Place) (n : ℕ) → map (λ (v : VariableItem). v.name) (variable_items p n) ≡ names n
item_names p zero = refl
item_names p (suc k) = map-append (λ (v : VariableItem). v.name) (variable_items p k) _ ∙ ap (λ l. l ++ (input_name k ∷ sum_name k ∷ [])) (item_names p k)

pub item_codes : (p : Place) (n : ℕ) → filter_map variable_code (variable_items p n) ≡ codes_until n
item_codes p zero = refl
item_codes p (suc k) = filter_map-append variable_code (variable_items p k) _ ∙ ap (λ l. l ++ (code_name k ∷ [])) (item_codes p k)
