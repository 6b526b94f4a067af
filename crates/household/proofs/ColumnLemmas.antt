-- The inputs of a table's columns and rows: they are known, and none occurs twice in a row. The
-- amounts are of their types.
use Rattle.std.proofs.Common.{◌≡◌, ◌≢◌, ℕ, ℤ, ◌<◌, List, [], ◌∷◌, ◌++◌, length, Option, Some, None, Result, Ok, Err, Bool, true, false, cond, eqb, leb, refl}
use Rattle.std.proofs.Common.{sym, subst, ap, ◌∙◌, append_assoc}
use mathlib.Core.Bool.{◌&&◌}
use Rattle.std.specs.List.{AllByRecursion}
use Rattle.std.proofs.lemmas.Bool.{and_parts}
use Rattle.std.proofs.lemmas.List.{append-nil}
use Rattle.m_places.specs.declared.limits.TheConstants.{ROWS}
use Rattle.m_fixed.specs.declared.read.AmountFault.{AmountFault}
use Rattle.m_fixed.specs.Amounts.{IsAmount}
use Rattle.m_fixed.specs.Text.{text_value, amount_read}
use Rattle.m_names.specs.Names.{index_of}
use Rattle.observables.specs.declared.inputs.Coded.{Coded}
use Rattle.observables.specs.Inputs.{codes_of}
use Rattle.observables.proofs.InputLemmas.{read_amount}
use Rattle.household.specs.declared.fault.HouseholdFault.{HouseholdFault}
use Rattle.household.specs.declared.fault.HouseholdFault.TheVariants.{NotOfType}
use Rattle.household.specs.declared.table.Row.{Row}
use Rattle.household.specs.InTurn.{in_turn, if_read}
use Rattle.household.specs.Household.{AreDifferent, AreInputs, AreOfTypes, inputs_of, is_fitting, is_input_among, line_behind}
use Rattle.household.specs.Table.{parsed_amount, are_fitting, cells_read, column_of, fitting_pairs, is_label, labelled, new_column, pairs_read, table_row}
use Rattle.household.proofs.InputLemmas.{AllByRecursion-push, AreDifferent-push, code_known, if_ok, inputs_of-push, other_than_error, read_before, turns_keep}

-- distinct numbers below n
pub record AreColumns (n : ℕ) (columns : List ℕ) : Type 0 where
  pub known : AllByRecursion (λ input. input < n) columns
  pub once : AreDifferent columns

-- a property of all elements, after removal of one and of the last ones
All-without : {X : Type 0} (P : X → Type 0) (xs ys : List X) (x : X) → AllByRecursion P (xs ++ x ∷ ys) → AllByRecursion P (xs ++ ys)
All-without P [] ys x h = h.1
All-without P (y ∷ xs) ys x h = (h.0, All-without P xs ys x h.1)

AreDifferent-without : (xs ys : List ℕ) (x : ℕ) → AreDifferent (xs ++ x ∷ ys) → AreDifferent (xs ++ ys)
AreDifferent-without [] ys x h = h.1
AreDifferent-without (y ∷ xs) ys x h = (All-without (λ other. other ≢ y) xs ys x h.0, AreDifferent-without xs ys x h.1)

AreColumns-without : {n : ℕ} (xs ys : List ℕ) (x : ℕ) → AreColumns n (xs ++ x ∷ ys) → AreColumns n (xs ++ ys)
AreColumns-without {n} xs ys x h = record { known = All-without (λ input. input < n) xs ys x h.known; once = AreDifferent-without xs ys x h.once }

AreColumns-front : {n : ℕ} (xs ys : List ℕ) → AreColumns n (xs ++ ys) → AreColumns n xs
AreColumns-front {n} xs [] h = subst (AreColumns n) (append-nil xs) h
AreColumns-front {n} xs (y ∷ ys) h = AreColumns-front xs ys (AreColumns-without xs ys y h)

-- the columns of a table
new_known : (n : ℕ) (before : List ℕ) (o : Option ℕ) (input : ℕ) → new_column before o ≡ Ok input → ((i : ℕ) → o ≡ Some i → i < n)
    → (input < n) × (is_input_among input before ≡ false)
new_known n before None input h k = cc h
new_known n before (Some i) input h k =
    let a = other_than_error (is_input_among i before) _ (Ok i) input h in
    let same : i ≡ input = cc a.1 in
    (subst (λ (j : ℕ). j < n) same (k i refl), subst (λ (j : ℕ). is_input_among j before ≡ false) same a.0)

pub columns_known : (inputs : List Coded) (fields : List (List ℕ)) (columns : List ℕ) → in_turn (column_of inputs) [] fields ≡ Ok columns
    → AreColumns (length inputs) columns
columns_known inputs fields columns h =
    turns_keep (column_of inputs) (AreColumns (length inputs))
    (λ before code input q e.
    let k = new_known (length inputs) before (index_of code (codes_of inputs)) input e (code_known inputs code) in
    record { known = AllByRecursion-push (λ i. i < length inputs) before input q.known k.0; once = AreDifferent-push before input k.1 q.once })
    [] fields columns (record { known = tt; once = tt }) h

stated_input : (line input : ℕ) (r : Result ℤ AmountFault) (pair : ℕ × ℤ) → parsed_amount line input r ≡ Ok pair → pair.0 ≡ input
stated_input line input (Err why) pair h = cc h
stated_input line input (Ok z) pair h = cc h

-- the pairs of a row's cells
cells_known : {n : ℕ} (line : ℕ) (before : List (ℕ × ℤ)) (columns : List ℕ) (cells : List (List ℕ)) (pairs : List (ℕ × ℤ))
    → AreColumns n (inputs_of before ++ columns) → cells_read line before columns cells ≡ Ok pairs
    → AreColumns n (inputs_of pairs)
cells_known {n} line before [] cells pairs q h = let same : before ≡ pairs = cc in subst (λ (p : List (ℕ × ℤ)). AreColumns n (inputs_of p)) same
    (AreColumns-front (inputs_of before) [] q)
cells_known {n} line before (input ∷ columns) [] pairs q h = let same : before ≡ pairs = cc in subst (λ (p : List (ℕ × ℤ)). AreColumns n (inputs_of p)) same
    (AreColumns-front (inputs_of before) (input ∷ columns) q)
cells_known {n} line before (input ∷ columns) (cell ∷ cells) pairs q h =
    by (eqb (length cell) 0) h (cells_known line before columns cells pairs (AreColumns-without (inputs_of before) columns input q))
    (λ pair e. cells_known line (before ++ pair ∷ []) columns cells pairs
    (subst (λ (xs : List ℕ). AreColumns n (xs ++ columns)) (sym (inputs_of-push before pair))
    (rw append_assoc (subst (λ (i : ℕ). AreColumns n (inputs_of before ++ i ∷ columns)) (sym (stated_input line input (amount_read (text_value cell)) pair e))
    q))))
  where
    by : (b : Bool) → cond b (cells_read line before columns cells)
        (if_read (λ pair. cells_read line (before ++ pair ∷ []) columns cells) (parsed_amount line input (amount_read (text_value cell)))) ≡ Ok pairs
        → (cells_read line before columns cells ≡ Ok pairs → AreColumns n (inputs_of pairs))
        → ((pair : ℕ × ℤ) → parsed_amount line input (amount_read (text_value cell)) ≡ Ok pair → cells_read line (before ++ pair ∷ []) columns cells ≡ Ok pairs
        → AreColumns n (inputs_of pairs))
        → AreColumns n (inputs_of pairs)
    by true g empty filled = empty g
    by false g empty filled =
        let r = read_before (λ pair. cells_read line (before ++ pair ∷ []) columns cells) (parsed_amount line input (amount_read (text_value cell))) pairs g in
        filled r.0 r.1 r.2

-- the pairs of a row's cells are of their inputs' types
stated_amount : (line input : ℕ) (stated : Option ℤ) (pair : ℕ × ℤ) → parsed_amount line input (amount_read stated) ≡ Ok pair → IsAmount pair.1
stated_amount line input stated pair h = by (amount_read stated) refl h
  where
    by : (r : Result ℤ AmountFault) → amount_read stated ≡ r → parsed_amount line input r ≡ Ok pair → IsAmount pair.1
    by (Err why) e g = cc g
    by (Ok z) e g = let same : z ≡ pair.1 = cc in subst IsAmount same (read_amount stated z e)

abbrev AreAmounts : List (ℕ × ℤ) → Type 0
AreAmounts pairs = AllByRecursion (λ pair. IsAmount pair.1) pairs

cells_amounts : (line : ℕ) (before : List (ℕ × ℤ)) (columns : List ℕ) (cells : List (List ℕ)) (pairs : List (ℕ × ℤ)) → AreAmounts before
    → cells_read line before columns cells ≡ Ok pairs → AreAmounts pairs
cells_amounts line before [] cells pairs q h = let same : before ≡ pairs = cc in subst AreAmounts same q
cells_amounts line before (input ∷ columns) [] pairs q h = let same : before ≡ pairs = cc in subst AreAmounts same q
cells_amounts line before (input ∷ columns) (cell ∷ cells) pairs q h =
    by (eqb (length cell) 0) h (cells_amounts line before columns cells pairs q)
    (λ pair e. cells_amounts line (before ++ pair ∷ []) columns cells pairs
    (AllByRecursion-push (λ (p : ℕ × ℤ). IsAmount p.1) before pair q (stated_amount line input (text_value cell) pair e)))
  where
    by : (b : Bool) → cond b (cells_read line before columns cells)
        (if_read (λ pair. cells_read line (before ++ pair ∷ []) columns cells) (parsed_amount line input (amount_read (text_value cell)))) ≡ Ok pairs
        → (cells_read line before columns cells ≡ Ok pairs → AreAmounts pairs)
        → ((pair : ℕ × ℤ) → parsed_amount line input (amount_read (text_value cell)) ≡ Ok pair → cells_read line (before ++ pair ∷ []) columns cells ≡ Ok pairs
        → AreAmounts pairs)
        → AreAmounts pairs
    by true g empty filled = empty g
    by false g empty filled =
        let r = read_before (λ pair. cells_read line (before ++ pair ∷ []) columns cells) (parsed_amount line input (amount_read (text_value cell))) pairs g in
        filled r.0 r.1 r.2

all_of_types : (inputs : List Coded) (pairs : List (ℕ × ℤ)) → AreAmounts pairs → are_fitting inputs pairs ≡ true → AreOfTypes inputs pairs
all_of_types inputs [] amounts fits = tt
all_of_types inputs (pair ∷ pairs) amounts fits =
    let parts = and_parts (is_fitting inputs pair) (are_fitting inputs pairs) fits in
    ((amounts.0, parts.0), all_of_types inputs pairs amounts.1 parts.1)

-- a row's pairs
row_pairs : (inputs : List Coded) (line : ℕ) (columns : List ℕ) (fields : List (List ℕ)) (row : Row) → labelled inputs line columns fields ≡ Ok row
    → (cells : List (List ℕ)) × (cells_read line [] columns cells ≡ Ok row.household.pairs) × (are_fitting inputs row.household.pairs ≡ true)
row_pairs inputs line columns [] row h = cc h
row_pairs inputs line columns (label ∷ cells) row h =
    let a = if_ok (eqb (length cells) (length columns) && is_label label) _ _ row h in
    let r = read_before (λ pairs. Ok (record { label = label; household = record { pairs = pairs } })) (pairs_read inputs line columns cells) row a.1 in
    let c = read_before (fitting_pairs inputs line) (cells_read line [] columns cells) r.0 r.1 in
    let f = if_ok (are_fitting inputs c.0) (Ok c.0) (NotOfType line) r.0 c.2 in
    let same : c.0 ≡ row.household.pairs = ok_same c.0 r.0 f.1 ∙ ap (λ (x : Result Row HouseholdFault). pairs_of x) r.2 in
    (cells, c.1 ∙ ap Ok same, subst (λ (p : List (ℕ × ℤ)). are_fitting inputs p ≡ true) same f.0)
  where
    read : List (ℕ × ℤ) → Result (List (ℕ × ℤ)) HouseholdFault
    read pairs = Ok pairs

    ok_same : (xs ys : List (ℕ × ℤ)) → read xs ≡ read ys → xs ≡ ys
    ok_same xs ys e = cc e

    pairs_of : Result Row HouseholdFault → List (ℕ × ℤ)
    pairs_of (Ok x) = x.household.pairs
    pairs_of (Err e) = row.household.pairs

row_known : {n : ℕ} (inputs : List Coded) (line : ℕ) (columns : List ℕ) (fields : List (List ℕ)) (row : Row) → AreColumns n columns
    → labelled inputs line columns fields ≡ Ok row → AreInputs n row.household.pairs
row_known {n} inputs line columns fields row q h =
    let r = row_pairs inputs line columns fields row h in
    let k = cells_known line [] columns r.0 row.household.pairs q r.1 in
    record { known = k.known; once = k.once }

row_of_types : (inputs : List Coded) (line : ℕ) (columns : List ℕ) (fields : List (List ℕ)) (row : Row) → labelled inputs line columns fields ≡ Ok row
    → AreOfTypes inputs row.household.pairs
row_of_types inputs line columns fields row h =
    let r = row_pairs inputs line columns fields row h in
    all_of_types inputs row.household.pairs (cells_amounts line [] columns r.0 row.household.pairs tt r.1) r.2

-- a property of each row that is read holds of all rows
rows_each : (inputs : List Coded) (columns : List ℕ) (P : Row → Type 0)
    → ((line : ℕ) (fields : List (List ℕ)) (row : Row) → labelled inputs line columns fields ≡ Ok row → P row)
    → (records : List (List (List ℕ))) (rows : List Row) → in_turn (table_row inputs columns) [] records ≡ Ok rows → AllByRecursion P rows
rows_each inputs columns P each records rows h =
    turns_keep (table_row inputs columns) (AllByRecursion P)
    (λ before fields row q e.
    let a = other_than_error (leb ROWS (length before)) _ (labelled inputs (line_behind (length before)) columns fields) row e in
    AllByRecursion-push P before row q (each (line_behind (length before)) fields row a.1))
    [] records rows tt h

-- the pairs of all rows
pub table_inputs : (inputs : List Coded) (fields : List (List ℕ)) (columns : List ℕ) (records : List (List (List ℕ))) (rows : List Row)
    → in_turn (column_of inputs) [] fields ≡ Ok columns
    → in_turn (table_row inputs columns) [] records ≡ Ok rows → AllByRecursion (λ row. AreInputs (length inputs) row.household.pairs) rows
table_inputs inputs fields columns records rows c h =
    rows_each inputs columns (λ row. AreInputs (length inputs) row.household.pairs)
    (λ line record_fields row e. row_known inputs line columns record_fields row (columns_known inputs fields columns c) e) records rows h

pub table_types : (inputs : List Coded) (columns : List ℕ) (records : List (List (List ℕ))) (rows : List Row)
    → in_turn (table_row inputs columns) [] records ≡ Ok rows
    → AllByRecursion (λ row. AreOfTypes inputs row.household.pairs) rows
table_types inputs columns records rows h =
    rows_each inputs columns (λ row. AreOfTypes inputs row.household.pairs) (λ line fields row e. row_of_types inputs line columns fields row e) records rows h
