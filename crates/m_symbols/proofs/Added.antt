-- The tables with one more variable or error.
use Rattle.std.proofs.Common.{◌≡◌, ℕ, ◌+◌, suc, Bool, true, false, cond, List, [], ◌∷◌, ◌++◌, map, length, replicate, refl, sym, ap, ◌∙◌, length-append, arith}
use Rattle.std.proofs.lemmas.List.{length-replicate, append_assoc}
use Rattle.std.specs.List.{filter_map, cons_option}
use Rattle.std.specs.Prelude.{Option, Some, None}
use Rattle.m_ast.specs.declared.item.Item.{Item}
use Rattle.m_ast.specs.declared.item.Item.TheVariants.{Variable as VariableOf, Rule, Verif, Error, Silent}
use Rattle.m_ast.specs.declared.item.ErrorItem.{ErrorItem}
use Rattle.m_ast.specs.declared.variable.VariableItem.{VariableItem}
use Rattle.m_ast.specs.Items.{is_input, variables_of, errors_of, variable_in, error_in, variable_cells}
use Rattle.m_symbols.specs.declared.variable.Variable.{Variable}
use Rattle.m_symbols.specs.Declarations.{Declared, names_of, declared_by, placed_from, codes_of, inputs_from, owners_from, code_of}
use Rattle.m_symbols.specs.inner.Tables.{with_item}

pub map-push : {X Y : Type 0} (f : X → Y) (xs : List X) (x : X) → map f (xs ++ x ∷ []) ≡ map f xs ++ f x ∷ []
map-push f [] x = refl
map-push f (y ∷ xs) x = ap (λ l. f y ∷ l) (map-push f xs x)

cons_option-append : {X : Type 0} (o : Option X) (xs ys : List X) → cons_option o (xs ++ ys) ≡ cons_option o xs ++ ys
cons_option-append None xs ys = refl
cons_option-append (Some x) xs ys = refl

pub codes-push : (vs : List Variable) (v : Variable) → codes_of (vs ++ v ∷ []) ≡ codes_of vs ++ cons_option (code_of v) []
codes-push [] v = refl
codes-push (w ∷ vs) v = ap (λ l. cons_option (code_of w) l) (codes-push vs v) ∙ cons_option-append (code_of w) (codes_of vs) (cons_option (code_of v) [])

cond-append : (b : Bool) (n : ℕ) (xs ys : List ℕ) → cond b (n ∷ (xs ++ ys)) (xs ++ ys) ≡ cond b (n ∷ xs) xs ++ ys
cond-append true n xs ys = refl
cond-append false n xs ys = refl

pub inputs-push : (start : ℕ) (vs : List Variable) (v : Variable) (number : ℕ) → number ≡ start + length vs
    → inputs_from start (vs ++ v ∷ []) ≡ inputs_from start vs ++ cond (is_input v.item.role) (number ∷ []) []
inputs-push start [] v number e = let here : start ≡ number = omega arith in ap (λ n. cond (is_input v.item.role) (n ∷ []) []) here
inputs-push start (w ∷ vs) v number e =
    ap (λ l. cond (is_input w.item.role) (start ∷ l) l) (inputs-push (start + 1) vs v number (omega arith))
    ∙ cond-append (is_input w.item.role) start (inputs_from (start + 1) vs) (cond (is_input v.item.role) (number ∷ []) [])

append-nil : (xs : List ℕ) → xs ++ [] ≡ xs
append-nil [] = refl
append-nil (x ∷ xs) = ap (λ l. x ∷ l) (append-nil xs)

pub owners-push : (start : ℕ) (vs : List Variable) (v : Variable) (number : ℕ) → number ≡ start + length vs
    → owners_from start (vs ++ v ∷ []) ≡ owners_from start vs ++ replicate v.cells number
owners-push start [] v number e = let here : start ≡ number = omega arith in append-nil (replicate v.cells start) ∙ ap (λ n. replicate v.cells n) here
owners-push start (w ∷ vs) v number e =
    ap (λ l. replicate w.cells start ++ l) (owners-push (start + 1) vs v number (omega arith))
    ∙ sym (append_assoc (replicate w.cells start) (owners_from (start + 1) vs) (replicate v.cells number))

pub filter_map-push : {X Y : Type 0} (f : X → Option Y) (xs : List X) (x : X) → filter_map f (xs ++ x ∷ []) ≡ filter_map f xs ++ cons_option (f x) []
filter_map-push f [] x = refl
filter_map-push f (y ∷ xs) x = ap (λ l. cons_option (f y) l) (filter_map-push f xs x) ∙ cons_option-append (f y) (filter_map f xs) (cons_option (f x) [])

placed-push : (first number : ℕ) (vs : List VariableItem) (v : VariableItem) (at : ℕ) → at ≡ first + length (owners_from number (placed_from first vs))
    → placed_from first (vs ++ v ∷ []) ≡ placed_from first vs ++ record { item = v; first_cell = at; cells = variable_cells v } ∷ []
placed-push first number [] v at e =
    let here : first ≡ at = omega arith in ap (λ n. let w : Variable = record { item = v; first_cell = n; cells = variable_cells v } in w ∷ []) here
placed-push first number (w ∷ vs) v at e =
    let later = first + variable_cells w in
    let behind : at ≡ later + length (owners_from (number + 1) (placed_from later vs)) =
    omega (
      arith,
      length-append (replicate (variable_cells w) number) (owners_from (number + 1) (placed_from later vs)),
      length-replicate (variable_cells w)
          number,
    ) in
    let head : Variable = record { item = w; first_cell = first; cells = variable_cells w } in
    ap (λ l. head ∷ l) (placed-push later (number + 1) vs v at behind)

append-none : {X : Type 0} (xs : List X) → xs ++ [] ≡ xs
append-none [] = refl
append-none (x ∷ xs) = ap (λ l. x ∷ l) (append-none xs)

both : (vs ws : List VariableItem) (es fs : List ErrorItem) → vs ≡ ws → es ≡ fs
    → (let left : Declared = record { variables = placed_from 0 vs; errors = es } in left)
    ≡ (let right : Declared = record { variables = placed_from 0 ws; errors = fs } in right)
both vs ws es fs e f = λ i. record { variables = placed_from 0 (e i); errors = f i }

-- the declarations of items with one more
pub declared-push : (items : List Item) (item : Item) → declared_by (items ++ item ∷ []) ≡ with_item (declared_by items) item
declared-push items (VariableOf v) =
    both _ _ _ _ (filter_map-push variable_in items (VariableOf v)) (filter_map-push error_in items (VariableOf v) ∙ append-none (errors_of items))
    ∙ ap (λ l. let d : Declared = record { variables = l; errors = errors_of items } in d)
    (placed-push 0 0 (variables_of items) v _ (let same : length (owners_from 0 (placed_from 0 (variables_of items))) ≡ 0 + length
    (owners_from 0 (placed_from 0 (variables_of items))) = omega arith in same))
declared-push items (Error e) =
    both _ _ _ _ (filter_map-push variable_in items (Error e) ∙ append-none (variables_of items)) (filter_map-push error_in items (Error e))
declared-push items (Rule r) = both _ _ _ _ (filter_map-push variable_in items (Rule r) ∙ append-none (variables_of items))
    (filter_map-push error_in items (Rule r) ∙ append-none (errors_of items))
declared-push items (Verif v) = both _ _ _ _ (filter_map-push variable_in items (Verif v) ∙ append-none (variables_of items))
    (filter_map-push error_in items (Verif v) ∙ append-none (errors_of items))
declared-push items (Silent p) = both _ _ _ _ (filter_map-push variable_in items (Silent p) ∙ append-none (variables_of items))
    (filter_map-push error_in items (Silent p) ∙ append-none (errors_of items))

pub length-names : (vs : List Variable) → length (names_of vs) ≡ length vs
length-names [] = refl
length-names (v ∷ vs) = ap suc (length-names vs)
