-- Consequences of cells numbered in order.
use Rattle.std.proofs.Common.{◌≡◌, ◌≤◌, ◌<◌, ◌+◌, ◌-◌, ℕ, zero, suc, Bool, true, false, cond, nat_lt, List, [], ◌∷◌, ◌++◌, length, take, All, Option, None}
use Rattle.std.proofs.Common.{Some, refl, sym, ◌∙◌, subst, ap, arith, slice_get, replicate, length-append, append_assoc}
use Rattle.std.specs.Prelude.{IfSome, codes}
use Rattle.std.specs.List.{flat_map, range_with_len}
use Rattle.std.proofs.lemmas.List.{take_more, flat_map_more}
use Rattle.std.proofs.lemmas.Option.{get_or_from_slice_get}
use Rattle.std.specs.Option.{option_and_then}
use Rattle.std.proofs.lemmas.Bool.{ltb-true}
use Rattle.std.proofs.lemmas.List.Elements.{All-nil, All-cons, All-append}
use Rattle.m_names.specs.Names.{has}
use Rattle.std.proofs.lemmas.List.{length-replicate}
use Rattle.m_ast.specs.declared.variable.VariableItem.{VariableItem}
use Rattle.m_ast.specs.Items.{variable_cells, variable_size, cells_in}
use Rattle.m_symbols.specs.declared.variable.Variable.{Variable}
use Rattle.m_symbols.specs.Declarations.{Declared, placed_from, owners_from}
use Rattle.m_symbols.specs.Placed.{IsPlaced, items_of}
use Rattle.m_symbols.specs.Spans.{span_of}
use Rattle.m_symbols.specs.declared.spans.Span.{Span}
use Rattle.m_symbols.specs.Cells.{cell_within, parsed_index, cell_by, returned_by}

-- the cells of a variable are within all cells
pub record Ends (v : Variable) (first all : ℕ) : Type 0 where
  pub cells : v.cells ≡ variable_cells v.item
  pub begins : first ≤ v.first_cell
  pub ends : v.first_cell + v.cells ≤ first + all

ends_among : (items : List VariableItem) (first number i : ℕ) (v : Variable) → slice_get (placed_from first items) i ≡ Some v
    → Ends v first (length (owners_from number (placed_from first items)))
ends_among [] first number i v e = absurd (cc)
ends_among (item ∷ items) first number zero v e =
    let s : record { item = item; first_cell = first; cells = variable_cells item } ≡ v = cc in
    let n = length-append (replicate (variable_cells item) number) (owners_from (number + 1) (placed_from (first + variable_cells item) items)) in
    let r = length-replicate (variable_cells item) number in
    subst (λ (w : Variable). Ends w first (length
    (replicate (variable_cells item) number ++ owners_from (number + 1) (placed_from (first + variable_cells item) items)))) s
    (record { cells = refl; begins = omega arith; ends = omega (arith, n, r) })
ends_among (item ∷ items) first number (suc i) v e =
    let k = ends_among items (first + variable_cells item) (number + 1) i v e in
    let n = length-append (replicate (variable_cells item) number) (owners_from (number + 1) (placed_from (first + variable_cells item) items)) in
    let r = length-replicate (variable_cells item) number in
    record { cells = k.cells; begins = omega (arith, k.begins); ends = omega (arith, k.ends, n, r) }

pub placed_ends : (declared : Declared) (i : ℕ) (v : Variable) → IsPlaced declared → slice_get declared.variables i ≡ Some v
    → Ends v 0 (length (owners_from 0 declared.variables))
placed_ends declared i v p e =
    subst (λ (l : List Variable). Ends v 0 (length (owners_from 0 l))) (sym p)
    (ends_among (items_of declared.variables) 0 0 i v (subst (λ (l : List Variable). slice_get l i ≡ Some v) p e))

-- ---- one variable of the symbols

pub fits : (declared : Declared) (i count : ℕ) (v : Variable) → IsPlaced declared → slice_get declared.variables i ≡ Some v
    → count ≡ length (owners_from 0 declared.variables) → v.first_cell + v.cells ≤ count
fits declared i count v p e c = let k = placed_ends declared i v p e in omega (arith, k.ends, c)

sized : (size : Option ℕ) (cells : ℕ) → cells ≡ cells_in size → IfSome size (λ s. cells ≡ s)
sized None cells e = tt
sized (Some s) cells e = e

pub table_sized : (declared : Declared) (i : ℕ) (v : Variable) → IsPlaced declared → slice_get declared.variables i ≡ Some v
    → IfSome (variable_size v.item) (λ s. v.cells ≡ s)
table_sized declared i v p e = sized (variable_size v.item) v.cells (placed_ends declared i v p e).cells

within_table : (first size all k : ℕ) (b : Bool) → nat_lt k size ≡ b → first + size ≤ all → IfSome (cond b (Some (first + k)) None) (λ c. c < all)
within_table first size all k true e h = let l = ltb-true k size e in omega (arith, h, l)
within_table first size all k false e h = tt

at_index : (first size all : ℕ) (k : Option ℕ) → first + size ≤ all → IfSome (option_and_then (cell_within first size) k) (λ c. c < all)
at_index first size all None h = tt
at_index first size all (Some k) h = within_table first size all k (nat_lt k size) refl h

by_index : (index : Option (List ℕ)) (size : Option ℕ) (first cells all : ℕ) → cells ≡ cells_in size → first + cells ≤ all
    → IfSome (cell_by index size first) (λ c. c < all)
by_index None None first cells all e h = omega (arith, e, h)
by_index None (Some size) first cells all e h = tt
by_index (Some index) None first cells all e h = tt
by_index (Some index) (Some size) first cells all e h = at_index first size all (parsed_index index) (omega (arith, e, h))

pub known_by : (declared : Declared) (i : ℕ) (v : Variable) (index : Option (List ℕ)) (cell : Option ℕ) → IsPlaced declared
    → slice_get declared.variables i ≡ Some v → cell ≡ cell_by index (variable_size v.item) v.first_cell
    → IfSome cell (λ c. c < length (owners_from 0 declared.variables))
known_by declared i v index cell p e c =
    let k = placed_ends declared i v p e in
    subst (λ o. IfSome o (λ n. n < length (owners_from 0 declared.variables))) (sym c)
    (by_index index (variable_size v.item) v.first_cell v.cells (length (owners_from 0 declared.variables)) k.cells (omega (arith, k.ends)))

within : (size : Option ℕ) (first cells all : ℕ) → IfSome size (λ n. cells ≡ n) → first + cells ≤ all → IfSome size (λ n. first + n ≤ all)
within None first cells all e h = tt
within (Some n) first cells all e h = omega (arith, e, h)

-- a table's cells are among all cells
pub span_fits : (declared : Declared) (i count : ℕ) (v : Variable) (s : Span) → IsPlaced declared → slice_get declared.variables i ≡ Some v → s ≡ span_of v
    → count ≡ length (owners_from 0 declared.variables) → IfSome s.size (λ n. s.first_cell + n ≤ count)
span_fits declared i count v s p e h c =
    subst (λ (t : Span). IfSome t.size (λ n. t.first_cell + n ≤ count)) (sym h)
    (within (variable_size v.item) v.first_cell v.cells count (table_sized declared i v p e) (fits declared i count v p e c))

-- the cell that a request finds is one of all
pub span_known : (declared : Declared) (i : ℕ) (v : Variable) (s : Span) (index : Option (List ℕ)) (cell : Option ℕ) → IsPlaced declared
    → slice_get declared.variables i ≡ Some v → s ≡ span_of v → cell ≡ cell_by index s.size s.first_cell
    → IfSome cell (λ c. c < length (owners_from 0 declared.variables))
span_known declared i v s index cell p e h c = known_by declared i v index cell p e (c ∙ ap (λ (t : Span). cell_by index t.size t.first_cell) h)

-- ---- returned cells

-- one more cell of a range
pub range_step : (items all : List ℕ) (cell end : ℕ) → cell < end → items ++ range_with_len cell (end - cell) ≡ all
    → (items ++ cell ∷ []) ++ range_with_len (cell + 1) (end - (cell + 1)) ≡ all
range_step items all cell end h e =
    let n : end - cell ≡ suc (end - (cell + 1)) = omega (arith, h) in
    append_assoc items (cell ∷ []) (range_with_len (cell + 1) (end - (cell + 1))) ∙ ap (λ k. items ++ range_with_len cell k) (sym n) ∙ e

returned_within : (v : Variable) (all : ℕ) (b : Bool) → v.first_cell + v.cells ≤ all → All (λ c. c < all) (cond b (range_with_len v.first_cell v.cells) [])
returned_within v all true h = range_below v.first_cell v.cells all h
  where
    range_below : (first n most : ℕ) → first + n ≤ most → All (λ c. c < most) (range_with_len first n)
    range_below first zero most h = All-nil (λ c. c < most)
    range_below first (suc n) most h = All-cons (λ c. c < most) first (range_with_len (first + 1) n) (omega (arith, h))
        (range_below (first + 1) n most (omega (arith, h)))
returned_within v all false h = All-nil (λ c. c < all)

-- the cells of one more variable
pub returned_next : (declared : Declared) (i : ℕ) (v : Variable) (before now : List ℕ) → IsPlaced declared → slice_get declared.variables i ≡ Some v
    → now ≡ before ++ returned_by v
    → All (λ c. c < length (owners_from 0 declared.variables)) before → All (λ c. c < length (owners_from 0 declared.variables)) now
returned_next declared i v before now p e n h =
    let all = length (owners_from 0 declared.variables) in
    let k = placed_ends declared i v p e in
    subst (All (λ c. c < all)) (sym n) (All-append (λ c. c < all) before (returned_by v) h
    (returned_within v all (has (codes "restituee") v.item.words) (omega (arith, k.ends))))

-- the cells of the variables up to here, and of one more
pub returned_more : (variables : List Variable) (i : ℕ) (v : Variable) (before now : List ℕ) → i < length variables → slice_get variables i ≡ Some v
    → now ≡ before ++ returned_by v
    → before ≡ flat_map returned_by (take i variables) → now ≡ flat_map returned_by (take (i + 1) variables)
returned_more variables i v before now h e n b =
    let one : take (i + 1) variables ≡ take i variables ++ v ∷ [] = take_more variables i v h
    ∙ ap (λ w. take i variables ++ w ∷ []) (get_or_from_slice_get variables i v v e) in
    n ∙ ap (λ l. l ++ returned_by v) b ∙ flat_map_more returned_by [] (take i variables) v ∙ ap (flat_map returned_by) (sym one)
