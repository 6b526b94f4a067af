-- The start values of cells, variable by variable.
use Rattle.std.proofs.Common.{◌≡◌, ℕ, ◌+◌, ◌≤◌, List, ◌∷◌, ◌++◌, length, drop, replicate, Some, sym, ap, ◌∙◌, append_assoc, append-nil, add-one, arith}
use Rattle.std.specs.Prelude.{slice_get}
use Rattle.std.proofs.lemmas.List.{drop_all}
use Rattle.m_fixed.specs.declared.amount.Value.{Value}
use Rattle.m_ast.specs.declared.variable.Role.{Role}
use Rattle.m_ast.specs.declared.variable.Role.TheVariants.{Input, Computed, Constant}
use Rattle.m_symbols.specs.declared.variable.Variable.{Variable}
use Rattle.driver_core.specs.Answers.{first_value, next_input, start_from}
use Rattle.mpp_inline.proofs.BeginLemmas.{drop-get}

-- the cells of one more variable
pub start_next : (inputs env more whole : List Value) (vs : List Variable) (next behind i : ℕ) (v : Variable) (value : Value) → slice_get vs i ≡ Some v
    → value ≡ first_value inputs next v.item.role
    → behind ≡ next_input next v.item.role → more ≡ env ++ replicate v.cells value → env ++ start_from inputs next (drop i vs) ≡ whole
    → more ++ start_from inputs behind (drop (i + 1) vs) ≡ whole
start_next inputs env more whole vs next behind i v value at is goes added so_far =
    let here : drop i vs ≡ v ∷ drop (i + 1) vs = drop-get vs i v at ∙ ap (λ n. v ∷ drop n vs) (sym (add-one i)) in
    (λ k. (added ∙ ap (λ x. env ++ replicate v.cells x) is) k ++ start_from inputs (goes k) (drop (i + 1) vs))
    ∙ append_assoc env (replicate v.cells (first_value inputs next v.item.role)) (start_from inputs (next_input next v.item.role) (drop (i + 1) vs))
    ∙ ap (λ l. env ++ start_from inputs next l) (sym here)
    ∙ so_far

-- no more inputs than variables
pub next_few : (n : ℕ) (role : Role) → next_input n role ≤ n + 1
next_few n (Input code) = omega arith
next_few n (Computed size) = omega arith
next_few n (Constant amount) = omega arith

-- no variables are left
pub start_end : (inputs env whole : List Value) (vs : List Variable) (next i : ℕ) → length vs ≤ i → env ++ start_from inputs next (drop i vs) ≡ whole
    → env ≡ whole
start_end inputs env whole vs next i all so_far = sym (append-nil env) ∙ ap (λ l. env ++ start_from inputs next l) (sym (drop_all i vs all)) ∙ so_far
