-- The numbers of variables in the tables of cells and inputs.
use Rattle.std.proofs.Common.{◌≡◌, ℕ, ◌+◌, ◌<◌, zero, suc, Bool, true, false, cond, List, [], ◌∷◌, ◌++◌, length, get_or, replicate, refl, sym, ap, ◌∙◌, arith}
use Rattle.std.specs.List.{filter_map, cons_option}
use Rattle.m_ast.specs.declared.variable.Role.{Role}
use Rattle.m_ast.specs.declared.variable.Role.TheVariants.{Input, Computed, Constant}
use Rattle.m_ast.specs.Items.{code_in, is_input}
use Rattle.m_symbols.specs.declared.variable.Variable.{Variable}
use Rattle.m_symbols.specs.Declarations.{codes_of, inputs_from, owners_from}

as_many : (r : Role) (number : ℕ) (codes : List (List ℕ)) (inputs : List ℕ) → length codes ≡ length inputs
    → length (cons_option (code_in r) codes) ≡ length (cond (is_input r) (number ∷ inputs) inputs)
as_many (Input code) number codes inputs e = ap suc e
as_many (Computed size) number codes inputs e = e
as_many (Constant amount) number codes inputs e = e

-- each input has a code
pub as_many_codes : (start : ℕ) (vs : List Variable) → length (codes_of vs) ≡ length (inputs_from start vs)
as_many_codes start [] = refl
as_many_codes start (v ∷ vs) = as_many v.item.role start (codes_of vs) (inputs_from (start + 1) vs) (as_many_codes (start + 1) vs)

below_step : (b : Bool) (number most : ℕ) (inputs : List ℕ) (i : ℕ) → number < most → ((j : ℕ) → j < length inputs → get_or inputs j 0 < most)
    → i < length (cond b (number ∷ inputs) inputs) → get_or (cond b (number ∷ inputs) inputs) i 0 < most
below_step true number most inputs zero h f l = h
below_step true number most inputs (suc i) h f l = f i (omega arith)
below_step false number most inputs i h f l = f i l

-- the numbers of the variables of inputs are in range
pub input-below : (start : ℕ) (vs : List Variable) (i : ℕ) → i < length (inputs_from start vs) → get_or (inputs_from start vs) i 0 < start + length vs
input-below start [] i l = absurd (omega arith)
input-below start (v ∷ vs) i l =
    below_step (is_input v.item.role) start (start + length (v ∷ vs)) (inputs_from (start + 1) vs) i (omega arith)
    (λ j h. let rest : get_or (inputs_from (start + 1) vs) j 0 < start + 1 + length vs = input-below (start + 1) vs j h in omega (arith, rest)) l

repeated : (n number most : ℕ) (rest : List ℕ) (i : ℕ) → number < most → ((j : ℕ) → j < length rest → get_or rest j 0 < most)
    → i < length (replicate n number ++ rest) → get_or (replicate n number ++ rest) i 0 < most
repeated zero number most rest i h f l = f i l
repeated (suc n) number most rest zero h f l = h
repeated (suc n) number most rest (suc i) h f l = repeated n number most rest i h f (omega arith)

-- the numbers of the variables of cells are in range
pub owner-below : (start : ℕ) (vs : List Variable) (i : ℕ) → i < length (owners_from start vs) → get_or (owners_from start vs) i 0 < start + length vs
owner-below start [] i l = absurd (omega arith)
owner-below start (v ∷ vs) i l =
    repeated v.cells start (start + length (v ∷ vs)) (owners_from (start + 1) vs) i (omega arith)
    (λ j h. let rest : get_or (owners_from (start + 1) vs) j 0 < start + 1 + length vs = owner-below (start + 1) vs j h in omega (arith, rest)) l
