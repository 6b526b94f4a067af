-- The cells of a record, from a position on.
use Rattle.std.proofs.Common.{◌≡◌, ℕ, ℤ, ◌+◌, ◌<◌, ◌≤◌, Bool, true, false, cond, eqb, arith, get_or, drop, List, [], ◌∷◌, ◌++◌, length, Result, Ok, Err, refl}
use Rattle.std.proofs.Common.{sym, ap, ◌∙◌}
use Rattle.std.proofs.lemmas.List.{drop_more, drop_all}
use Rattle.m_fixed.specs.Text.{text_value, amount_read}
use Rattle.household.specs.declared.fault.HouseholdFault.{HouseholdFault}
use Rattle.household.specs.InTurn.{if_read}
use Rattle.household.specs.Table.{parsed_amount, cells_read}
use Rattle.m_cases.specs.declared.columns.Column.{Column}
use Rattle.m_cases.specs.declared.columns.Column.TheVariants.{Input, Output}
use Rattle.m_cases.specs.declared.expected.Expected.{Expected}
use Rattle.m_cases.specs.declared.fault.CasesFault.{CasesFault}
use Rattle.m_cases.specs.Cases.{case_fault, expected_read, parsed_expectation, of_household}
use Rattle.m_cases.specs.Columns.{column_inputs, input_cells}
use Rattle.m_cases.specs.inner.Cells.{amounts_behind, expected_behind}

-- the result of reading from a position on
abbrev amounts_from : ℕ → List (ℕ × ℤ) → List Column → List (List ℕ) → Result (List (ℕ × ℤ)) HouseholdFault
amounts_from line before columns cells = cells_read line before (column_inputs columns) (input_cells columns cells)

-- a conditional between nothing more and one more value, then the rest
one_more : {A B F : Type 0} (b : Bool) (next : List A → Result B F) (before : List A) (r : Result A F)
    → cond b (next before) (if_read (λ x. next (before ++ x ∷ [])) r) ≡ if_read next (cond b (Ok before) (if_read (λ x. Ok (before ++ x ∷ [])) r))
one_more true next before r = refl
one_more false next before (Ok x) = refl
one_more false next before (Err f) = refl

amounts_step : (line : ℕ) (before : List (ℕ × ℤ)) (column : Column) (cell : List ℕ) (columns : List Column) (cells : List (List ℕ))
    → amounts_from line before (column ∷ columns) (cell ∷ cells) ≡ if_read (λ b. amounts_from line b columns cells) (amounts_behind line before column cell)
amounts_step line before (Input input) cell columns cells =
    one_more (eqb (length cell) 0) (λ b. amounts_from line b columns cells) before (parsed_amount line input (amount_read (text_value cell)))
amounts_step line before (Output output) cell columns cells = refl

-- the same, where the added value is made from the one that is read
one_made : {A B C F : Type 0} (b : Bool) (made : A → C) (next : List C → Result B F) (before : List C) (r : Result A F)
    → cond b (next before) (if_read (λ x. next (before ++ made x ∷ [])) r) ≡ if_read next (cond b (Ok before) (if_read (λ x. Ok (before ++ made x ∷ [])) r))
one_made true made next before r = refl
one_made false made next before (Ok x) = refl
one_made false made next before (Err f) = refl

expected_step : (line : ℕ) (before : List (ℕ × Expected)) (column : Column) (cell : List ℕ) (columns : List Column) (cells : List (List ℕ))
    → expected_read line before (column ∷ columns) (cell ∷ cells) ≡ if_read (λ b. expected_read line b columns cells) (expected_behind line before column cell)
expected_step line before (Input input) cell columns cells = refl
expected_step line before (Output output) cell columns cells =
    one_made (eqb (length cell) 0) (λ e. (output, e)) (λ b. expected_read line b columns cells) before (parsed_expectation line cell)

-- the columns and the cells from a position on
at_place : {B : Type 0} (read : List Column → List (List ℕ) → B) (columns : List Column) (fields : List (List ℕ)) (k : ℕ) (column d : Column) (cell : List ℕ)
    → length fields ≡ length columns + 1 → k < length columns
    → column ≡ get_or columns k d → cell ≡ get_or fields (k + 1) [] → read (drop k columns) (drop (k + 1) fields) ≡ read (column ∷ drop (k + 1) columns)
    (cell ∷ drop (k + 1 + 1) fields)
at_place read columns fields k column d cell l h c e =
    ap (λ cs. read cs (drop (k + 1) fields)) (drop_more columns k d h ∙ ap (λ x. x ∷ drop (k + 1) columns) (sym c))
    ∙ ap (λ (fs : List (List ℕ)). read (column ∷ drop (k + 1) columns) fs) (drop_more fields (k + 1) [] (omega (arith, l, h))
    ∙ ap (λ (x : List ℕ). x ∷ drop (k + 1 + 1) fields) (sym e))

-- one more cell
pub amounts_next : (line : ℕ) (before after : List (ℕ × ℤ)) (columns : List Column) (fields : List (List ℕ)) (k : ℕ) (column d : Column) (cell : List ℕ)
    → length fields ≡ length columns + 1 → k < length columns
    → column ≡ get_or columns k d → cell ≡ get_or fields (k + 1) [] → amounts_behind line before column cell ≡ Ok after
    → cells_read line after (column_inputs (drop (k + 1) columns)) (input_cells (drop (k + 1) columns) (drop (k + 1 + 1) fields))
    ≡ cells_read line before (column_inputs (drop k columns)) (input_cells (drop k columns) (drop (k + 1) fields))
amounts_next line before after columns fields k column d cell l h c e more =
    sym (at_place (amounts_from line before) columns fields k column d cell l h c e
    ∙ amounts_step line before column cell (drop (k + 1) columns) (drop (k + 1 + 1) fields)
    ∙ ap (if_read (λ b. amounts_from line b (drop (k + 1) columns) (drop (k + 1 + 1) fields))) more)

pub expected_next : (line : ℕ) (before after : List (ℕ × Expected)) (columns : List Column) (fields : List (List ℕ)) (k : ℕ) (column d : Column) (cell : List ℕ)
    → length fields ≡ length columns + 1 → k < length columns
    → column ≡ get_or columns k d → cell ≡ get_or fields (k + 1) [] → expected_behind line before column cell ≡ Ok after
    → expected_read line after (drop (k + 1) columns) (drop (k + 1 + 1) fields) ≡ expected_read line before (drop k columns) (drop (k + 1) fields)
expected_next line before after columns fields k column d cell l h c e more =
    sym (at_place (expected_read line before) columns fields k column d cell l h c e
    ∙ expected_step line before column cell (drop (k + 1) columns) (drop (k + 1 + 1) fields)
    ∙ ap (if_read (λ b. expected_read line b (drop (k + 1) columns) (drop (k + 1 + 1) fields))) more)

-- a cell with a fault
pub fault_of : {A B : Type 0} (next : A → Result B HouseholdFault) (r : Result A HouseholdFault) (fault : CasesFault) → of_household r ≡ Err fault
    → of_household (if_read next r) ≡ Err fault
fault_of next (Ok v) fault e = absurd (cc)
fault_of next (Err f) fault e = let same : case_fault f ≡ fault = cc in ap Err same

pub amounts_stop : (line : ℕ) (before : List (ℕ × ℤ)) (columns : List Column) (fields : List (List ℕ)) (k : ℕ) (column d : Column) (cell : List ℕ)
    (fault : CasesFault) (all : Result (List (ℕ × ℤ)) HouseholdFault)
    → length fields ≡ length columns + 1 → k < length columns → column ≡ get_or columns k d → cell ≡ get_or fields (k + 1) []
    → of_household (amounts_behind line before column cell) ≡ Err fault
    → cells_read line before (column_inputs (drop k columns)) (input_cells (drop k columns) (drop (k + 1) fields)) ≡ all → of_household all ≡ Err fault
amounts_stop line before columns fields k column d cell fault all l h c e bad so_far =
    ap of_household (sym so_far ∙ at_place (amounts_from line before) columns fields k column d cell l h c e
    ∙ amounts_step line before column cell (drop (k + 1) columns) (drop (k + 1 + 1) fields))
    ∙ fault_of (λ b. amounts_from line b (drop (k + 1) columns) (drop (k + 1 + 1) fields)) (amounts_behind line before column cell) fault bad

pub expected_stop : (line : ℕ) (before : List (ℕ × Expected)) (columns : List Column) (fields : List (List ℕ)) (k : ℕ) (column d : Column) (cell : List ℕ)
    (fault : CasesFault) (all : Result (List (ℕ × Expected)) CasesFault)
    → length fields ≡ length columns + 1 → k < length columns → column ≡ get_or columns k d → cell ≡ get_or fields (k + 1) []
    → expected_behind line before column cell ≡ Err fault
    → expected_read line before (drop k columns) (drop (k + 1) fields) ≡ all → all ≡ Err fault
expected_stop line before columns fields k column d cell fault all l h c e bad so_far =
    sym so_far ∙ at_place (expected_read line before) columns fields k column d cell l h c e
    ∙ expected_step line before column cell (drop (k + 1) columns) (drop (k + 1 + 1) fields)
    ∙ ap (if_read (λ b. expected_read line b (drop (k + 1) columns) (drop (k + 1 + 1) fields))) bad

-- no more cells
pub amounts_end : (line : ℕ) (before : List (ℕ × ℤ)) (columns : List Column) (cells : List (List ℕ)) (k : ℕ) → length columns ≤ k
    → cells_read line before (column_inputs (drop k columns)) (input_cells (drop k columns) cells) ≡ Ok before
amounts_end line before columns cells k h = ap (λ cs. amounts_from line before cs cells) (drop_all k columns h)

pub expected_end : (line : ℕ) (before : List (ℕ × Expected)) (columns : List Column) (cells : List (List ℕ)) (k : ℕ) → length columns ≤ k
    → expected_read line before (drop k columns) cells ≡ Ok before
expected_end line before columns cells k h = ap (λ cs. expected_read line before cs cells) (drop_all k columns h)
