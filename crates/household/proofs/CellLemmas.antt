-- The cells of a table's row, in order.
use Rattle.std.proofs.Common.{◌≡◌, ℕ, ℤ, ◌+◌, ◌<◌, List, [], ◌∷◌, ◌++◌, drop, length, get_or, Ok, true, false, refl, sym, ap, ◌∙◌, arith, eqb}
use Rattle.std.proofs.lemmas.List.{drop_more}
use Rattle.m_fixed.specs.Text.{text_value, amount_read}
use Rattle.household.specs.InTurn.{if_read}
use Rattle.household.specs.Table.{parsed_amount, cells_read}

-- a cell and its column
front : (line : ℕ) (before : List (ℕ × ℤ)) (columns : List ℕ) (fields : List (List ℕ)) (i d : ℕ) → length fields ≡ length columns + 1 → i < length columns
    → cells_read line before (drop i columns) (drop (i + 1) fields)
    ≡ cells_read line before (get_or columns i d ∷ drop (i + 1) columns) (get_or fields (i + 1) [] ∷ drop (i + 1 + 1) fields)
front line before columns fields i d n l = (λ j. cells_read line before (drop_more columns i d l j) (drop_more fields (i + 1) [] (omega arith) j))

-- an empty cell adds nothing
pub empty_cell : (line : ℕ) (before : List (ℕ × ℤ)) (columns : List ℕ) (fields : List (List ℕ)) (i : ℕ) (cell : List ℕ) → length fields ≡ length columns + 1
    → i < length columns
    → cell ≡ get_or fields (i + 1) [] → true ≡ eqb (length cell) 0
    → cells_read line before (drop i columns) (drop (i + 1) fields) ≡ cells_read line before (drop (i + 1) columns) (drop (i + 1 + 1) fields)
empty_cell line before columns fields i cell n l c e =
    let empty : eqb (length (get_or fields (i + 1) [])) 0 ≡ true = ap (λ (f : List ℕ). eqb (length f) 0) (sym c) ∙ sym e in
    front line before columns fields i 0 n l ∙ rw empty refl

-- another cell adds its pair
pub filled_cell : (line : ℕ) (before new : List (ℕ × ℤ)) (columns : List ℕ) (fields : List (List ℕ)) (i : ℕ) (cell : List ℕ) (pair : ℕ × ℤ)
    → length fields ≡ length columns + 1 → i < length columns
    → cell ≡ get_or fields (i + 1) [] → false ≡ eqb (length cell) 0 → Ok pair ≡ parsed_amount line (get_or columns i 0) (amount_read (text_value cell))
    → new ≡ before ++ pair ∷ []
    → cells_read line before (drop i columns) (drop (i + 1) fields) ≡ cells_read line new (drop (i + 1) columns) (drop (i + 1 + 1) fields)
filled_cell line before new columns fields i cell pair n l c e stated more =
    let filled : eqb (length (get_or fields (i + 1) [])) 0 ≡ false = ap (λ (f : List ℕ). eqb (length f) 0) (sym c) ∙ sym e in
    let this : parsed_amount line (get_or columns i 0) (amount_read (text_value (get_or fields (i + 1) []))) ≡ Ok pair = ap
    (λ (f : List ℕ). parsed_amount line (get_or columns i 0) (amount_read (text_value f))) (sym c) ∙ sym stated in
    front line before columns fields i 0 n l
    ∙ rw filled (ap (if_read (λ p. cells_read line (before ++ p ∷ []) (drop (i + 1) columns) (drop (i + 1 + 1) fields))) this)
    ∙ ap (λ (b : List (ℕ × ℤ)). cells_read line b (drop (i + 1) columns) (drop (i + 1 + 1) fields)) (sym more)
