-- There are at most as many declarations as items.
use Rattle.std.proofs.Common.{◌≡◌, ℕ, ◌+◌, ◌<◌, ◌≤◌, ◌^◌, suc, List, [], ◌∷◌, length, take, refl, ap, arith}
use Rattle.std.proofs.lemmas.List.{length-take-le}
use Rattle.std.specs.Prelude.{Option, Some, None}
use Rattle.std.specs.List.{filter_map, cons_option}
use Rattle.m_ast.specs.declared.item.Item.{Item}
use Rattle.m_ast.specs.declared.variable.VariableItem.{VariableItem}
use Rattle.m_ast.specs.Items.{variables_of, variable_in, error_in, variable_cells}
use Rattle.m_symbols.specs.declared.symbols.Tables.{Tables}
use Rattle.m_symbols.specs.Declarations.{Declared, declared_by, placed_from, code_of}
use Rattle.m_symbols.specs.inner.Tables.{declared_in, AreIndexed, HasRoom}

cons_few : {X : Type 0} (o : Option X) (xs : List X) → length (cons_option o xs) ≤ length xs + 1
cons_few None xs = omega arith
cons_few (Some x) xs = omega arith

filtered_few : {X Y : Type 0} (f : X → Option Y) (xs : List X) → length (filter_map f xs) ≤ length xs
filtered_few f [] = omega arith
filtered_few f (x ∷ xs) = omega (arith, cons_few (f x) (filter_map f xs), filtered_few f xs)

placed_count : (first : ℕ) (vs : List VariableItem) → length (placed_from first vs) ≡ length vs
placed_count first [] = refl
placed_count first (v ∷ vs) = ap suc (placed_count (first + variable_cells v) vs)

-- before an item there is room for its declaration
pub room : (items : List Item) (i : ℕ) (t : Tables) → length items < 2 ^ 32 → i < length items → declared_in t ≡ declared_by (take i items) → HasRoom t
room items i t few within e =
    let taken : length (take i items) ≡ i = length-take-le i items (omega (arith, within)) in
    let variables : length t.variables.items ≤ i =
    omega (arith, ap (λ (d : Declared). length d.variables) e, placed_count 0 (variables_of (take i items)), filtered_few variable_in (take i items), taken) in
    let errors : length t.errors.items ≤ i = omega (arith, ap (λ (d : Declared). length d.errors) e, filtered_few error_in (take i items), taken) in
    (omega (arith, variables, few, within), omega (arith, errors, few, within))

-- the codes are fewer than 2^32
pub few_codes : (t : Tables) → AreIndexed t → length t.codes < 2 ^ 32
few_codes t x = omega (arith, ap length x.codes, filtered_few code_of t.variables.items, x.few_variables)
