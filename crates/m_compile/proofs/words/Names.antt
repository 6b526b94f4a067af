-- Names of cells: each is a plain name, or one with an index.
use Rattle.std.proofs.Common.{◌≡◌, ◌≤◌, ◌<◌, ◌+◌, ◌-◌, ℕ, zero, suc, Bool, true, false, nat_lt, List, [], ◌∷◌, ◌++◌, length, get_or, Option, Some, None, refl}
use Rattle.std.proofs.Common.{inl, inr, sym, ap, ◌∙◌, subst, arith, slice_get, replicate, length-append}
use Rattle.std.specs.Prelude.{IfSome}
use Rattle.std.specs.List.{AllByRecursion}
use Rattle.std.specs.Option.{option_map_or}
use Rattle.std.proofs.lemmas.Bool.{ltb-true, ltb-false}
use Rattle.std.proofs.lemmas.List.{length-replicate}
use Rattle.m_places.specs.declared.limits.TheConstants.{TABLE_CELLS}
use Rattle.m_ast.specs.declared.variable.VariableItem.{VariableItem}
use Rattle.m_ast.specs.Items.{cells_in, variable_size, variable_cells}
use Rattle.m_symbols.specs.declared.variable.Variable.{Variable}
use Rattle.m_symbols.specs.Declarations.{Declared, owners_from, placed_from}
use Rattle.m_symbols.specs.Cells.{cell_text, printed_cell, cell_name}
use Rattle.code_file.specs.Printable.{IsPlainName, IsCellName}
use Rattle.m_compile.proofs.words.Declared.{IsGood}

-- a cell of a variable
text_named : (size : Option ℕ) (name : List ℕ) (k cells : ℕ) → IsPlainName name → IfSome size (λ s. s ≤ TABLE_CELLS) → cells ≡ cells_in size → k < cells
    → IsCellName (cell_text size name k)
text_named None name k cells p s e h = inl p
text_named (Some size) name k cells p s e h = inr (name, k, p, omega (arith, s, e, h), refl)

-- ---- cells of the first variable, and of the others

pub get_more : (n number : ℕ) (rest : List ℕ) (i : ℕ) → i < n → get_or (replicate n number ++ rest) i 0 ≡ number
get_more zero number rest i h = absurd (omega (arith, h))
get_more (suc n) number rest zero h = refl
get_more (suc n) number rest (suc i) h = get_more n number rest i (omega (arith, h))

pub get_behind : (n number : ℕ) (rest : List ℕ) (i : ℕ) → n ≤ i → get_or (replicate n number ++ rest) i 0 ≡ get_or rest (i - n) 0
get_behind zero number rest i h = let e : i ≡ i - 0 = omega arith in ap (λ k. get_or rest k 0) e
get_behind (suc n) number rest zero h = absurd (omega (arith, h))
get_behind (suc n) number rest (suc i) h = let e : i - n ≡ suc i - suc n = omega (arith, h) in get_behind n number rest i (omega (arith, h))
    ∙ ap (λ k. get_or rest k 0) e

-- the variable of a cell, where the first variable has the number `number` and its first cell is
-- `first`
record Owned (vs : List Variable) (number first cell : ℕ) : Type 0 where
  pub number_on : number ≤ get_or (owners_from number vs) cell 0
  pub named : IsCellName (option_map_or (printed_cell (first + cell)) (slice_get vs (get_or (owners_from number vs) cell 0 - number)) [])

abbrev one : ℕ → VariableItem → Variable
one first v = record { item = v; first_cell = first; cells = variable_cells v }

mine : (first number cell : ℕ) (v : VariableItem) (rest : List Variable) → IsGood v → cell < variable_cells v → Owned (one first v ∷ rest) number first cell
mine first number cell v rest g h =
    let e = get_more (variable_cells v) number (owners_from (number + 1) rest) cell h in
    let d : get_or (owners_from number (one first v ∷ rest)) cell 0 - number ≡ 0 = omega (arith, e) in
    record {
      number_on = omega (arith, e);
      named = subst (λ k. IsCellName (option_map_or (printed_cell (first + cell)) (slice_get (one first v ∷ rest) k) [])) (sym d)
          (text_named (variable_size v) v.name (first + cell - first) (variable_cells v) g.0.0 g.1 refl (omega (arith, h)));
    }

behind : (first number cell : ℕ) (v : VariableItem) (rest : List Variable) → variable_cells v ≤ cell
    → Owned rest (number + 1) (first + variable_cells v) (cell - variable_cells v) → Owned (one first v ∷ rest) number first cell
behind first number cell v rest h o =
    let n = variable_cells v in
    let owner = get_or (owners_from (number + 1) rest) (cell - n) 0 in
    let e : get_or (owners_from number (one first v ∷ rest)) cell 0 ≡ owner = get_behind n number (owners_from (number + 1) rest) cell h in
    let on = o.number_on in
    let d : suc (owner - (number + 1)) ≡ get_or (owners_from number (one first v ∷ rest)) cell 0 - number = omega (arith, e, on) in
    let same : first + n + (cell - n) ≡ first + cell = omega (arith, h) in
    record {
      number_on = omega (arith, e, on);
      named = subst (λ k. IsCellName (option_map_or (printed_cell (first + cell)) (slice_get (one first v ∷ rest) k) [])) d
          (subst (λ k. IsCellName (option_map_or (printed_cell k) (slice_get rest (owner - (number + 1))) [])) same o.named);
    }

by : (first number cell : ℕ) (v : VariableItem) (rest : List Variable) (b : Bool) → nat_lt cell (variable_cells v) ≡ b → IsGood v
    → (variable_cells v ≤ cell → Owned rest (number + 1) (first + variable_cells v) (cell - variable_cells v)) → Owned (one first v ∷ rest) number first cell
by first number cell v rest true e g o = mine first number cell v rest g (ltb-true cell (variable_cells v) e)
by first number cell v rest false e g o = let low = ltb-false cell (variable_cells v) e in behind first number cell v rest low (o low)

owned : (items : List VariableItem) (first number cell : ℕ) → AllByRecursion IsGood items → cell < length (owners_from number (placed_from first items))
    → Owned (placed_from first items) number first cell
owned [] first number cell a h = absurd (omega (arith, h))
owned (v ∷ items) first number cell a h =
    let rest = placed_from (first + variable_cells v) items in
    let n = length-append (replicate (variable_cells v) number) (owners_from (number + 1) rest) in
    let r = length-replicate (variable_cells v) number in
    by first number cell v rest (nat_lt cell (variable_cells v)) refl a.0
    (λ low. owned items (first + variable_cells v) (number + 1) (cell - variable_cells v) a.1 (omega (arith, h, n, r, low)))

-- the name of a declared cell
pub cell_named : (items : List VariableItem) (declared : Declared) (cell : ℕ) → declared.variables ≡ placed_from 0 items → AllByRecursion IsGood items
    → cell < length (owners_from 0 declared.variables) → IsCellName (cell_name declared cell)
cell_named items declared cell e a h =
    let o = owned items 0 0 cell a (subst (λ (vs : List Variable). cell < length (owners_from 0 vs)) e h) in
    let vs = placed_from 0 items in
    let owner = get_or (owners_from 0 vs) cell 0 in
    let first : 0 + cell ≡ cell = omega arith in
    let number : owner - 0 ≡ owner = omega arith in
    subst (λ (ws : List Variable). IsCellName (option_map_or (printed_cell cell) (slice_get ws (get_or (owners_from 0 ws) cell 0)) [])) (sym e)
    (subst (λ k. IsCellName (option_map_or (printed_cell cell) (slice_get vs k) [])) number
    (subst (λ k. IsCellName (option_map_or (printed_cell k) (slice_get vs (owner - 0)) [])) first o.named))
