-- Each case of a table has known inputs, amounts of their types, and expectations of known outputs.
use Rattle.std.proofs.Common.{◌≡◌, ◌≢◌, ℕ, ℤ, suc, ◌+◌, ◌<◌, ◌≤◌, ◌^◌, Bool, true, false, cond, eqb, leb, arith, List, [], ◌∷◌, ◌++◌, length, length-append}
use Rattle.std.proofs.Common.{Option, Some, None, Result, Ok, Err, refl, sym, ◌∙◌, subst, append_assoc}
use mathlib.Core.Bool.{◌&&◌}
use Rattle.std.specs.List.{AllByRecursion, list_any}
use Rattle.std.proofs.lemmas.Bool.{and_parts, leb-false}
use Rattle.std.proofs.lemmas.List.{append-nil, length-map}
use Rattle.m_places.specs.declared.limits.TheConstants.{ROWS}
use Rattle.m_fixed.specs.Amounts.{IsAmount}
use Rattle.m_fixed.specs.declared.read.AmountFault.{AmountFault}
use Rattle.m_fixed.specs.Text.{text_value, amount_read}
use Rattle.m_names.specs.Names.{index_of}
use Rattle.m_names.proofs.NameLemmas.{index_of-some}
use Rattle.observables.specs.declared.inputs.Coded.{Coded}
use Rattle.observables.specs.Inputs.{codes_of}
use Rattle.observables.proofs.InputLemmas.{read_amount}
use Rattle.household.specs.declared.fault.HouseholdFault.{HouseholdFault}
use Rattle.household.specs.declared.fault.HouseholdFault.TheVariants as household
use Rattle.household.specs.InTurn.{if_read, in_turn}
use Rattle.household.specs.Household.{AreDifferent, AreInputs, AreOfTypes, inputs_of, is_fitting, is_input_among, line_behind}
use Rattle.household.specs.Table.{parsed_amount, are_fitting, cells_read, fitting_pairs, is_label, pairs_read}
use Rattle.household.proofs.InputLemmas.{AllByRecursion-push, AreDifferent-push, code_known, if_ok, inputs_of-push, other_than_error, read_before, turns_keep}
use Rattle.m_cases.specs.declared.cases.Case.{Case}
use Rattle.m_cases.specs.declared.columns.Column.{Column}
use Rattle.m_cases.specs.declared.columns.Column.TheVariants.{Input, Output}
use Rattle.m_cases.specs.declared.expected.Expected.{Expected}
use Rattle.m_cases.specs.declared.fault.CasesFault.TheVariants.{TooManyRows, BadRow, CodeTwice}
use Rattle.m_cases.specs.Cases.{AreExpected, case_of, parsed_case, case_with, cases_made, expected_read, parsed_expectation, of_household}
use Rattle.m_cases.specs.Columns.{column_inputs, column_of, parsed_field, input_cells, input_declared, is_same_column, new_column, parsed_output}
use Rattle.m_cases.specs.inner.Outputs.{IsBelow, column_outputs}
use Rattle.m_cases.proofs.Few.{few}
use Rattle.m_cases.proofs.SeenLemmas.{any_input, any_output, inputs-push, inputs-skip, outputs-push, outputs-skip}

-- distinct numbers below n
record AreKnown (n : ℕ) (numbers : List ℕ) : Type 0 where
  known : AllByRecursion (λ number. number < n) numbers
  once : AreDifferent numbers

known-push : (n : ℕ) (numbers : List ℕ) (number : ℕ) → AreKnown n numbers → number < n → is_input_among number numbers ≡ false
    → AreKnown n (numbers ++ number ∷ [])
known-push n numbers number k l e = record {
  known = AllByRecursion-push (λ m. m < n) numbers number k.known l;
  once = AreDifferent-push numbers number e k.once;
}

-- ---- columns

-- the inputs and outputs of columns are known, and none occurs twice
record AreColumns (inputs outputs : ℕ) (columns : List Column) : Type 0 where
  amounts : AreKnown inputs (column_inputs columns)
  expected : AreKnown outputs (column_outputs columns)

column_next : (inputs outputs : ℕ) (columns : List Column) (column : Column) → AreColumns inputs outputs columns → IsBelow inputs outputs column
    → list_any (is_same_column column) columns ≡ false
    → AreColumns inputs outputs (columns ++ column ∷ [])
column_next inputs outputs columns (Input a) c b e = record {
  amounts = subst (AreKnown inputs) (inputs-push columns (Input a)) (known-push inputs (column_inputs columns) a c.amounts b (any_input a columns ∙ e));
  expected = subst (AreKnown outputs) (outputs-skip columns a) c.expected;
}
column_next inputs outputs columns (Output a) c b e = record {
  amounts = subst (AreKnown inputs) (inputs-skip columns a) c.amounts;
  expected = subst (AreKnown outputs) (outputs-push columns (Output a)) (known-push outputs (column_outputs columns) a c.expected b (any_output a columns ∙ e));
}

input_below : (inputs outputs : ℕ) (o : Option ℕ) (column : Column) → input_declared o ≡ Ok column → ((i : ℕ) → o ≡ Some i → i < inputs)
    → IsBelow inputs outputs column
input_below inputs outputs None column h k = cc h
input_below inputs outputs (Some i) column h k = let same : Input i ≡ column = cc in subst (IsBelow inputs outputs) same (k i refl)

output_below : (inputs outputs : ℕ) (o : Option ℕ) (column : Column) → parsed_output o ≡ Ok column → ((i : ℕ) → o ≡ Some i → i < outputs)
    → IsBelow inputs outputs column
output_below inputs outputs None column h k = cc h
output_below inputs outputs (Some i) column h k = let same : Output i ≡ column = cc in subst (IsBelow inputs outputs) same (k i refl)

pub field_below : (inputs : List Coded) (names : List (List ℕ)) (field : List ℕ) (column : Column) → parsed_field inputs names field ≡ Ok column
    → IsBelow (length inputs) (length names) column
field_below inputs names [] column h = input_below (length inputs) (length names) (index_of [] (codes_of inputs)) column h (code_known inputs [])
field_below inputs names (byte ∷ bytes) column h = by (eqb byte 61) h
  where
    by : (b : Bool) → cond b (parsed_output (index_of bytes names)) (input_declared (index_of (byte ∷ bytes) (codes_of inputs))) ≡ Ok column
        → IsBelow (length inputs) (length names) column
    by true g = output_below (length inputs) (length names) (index_of bytes names) column g (λ i e. (index_of-some bytes names i e).1)
    by false g = input_below (length inputs) (length names) (index_of (byte ∷ bytes) (codes_of inputs)) column g (code_known inputs (byte ∷ bytes))

columns_known : (inputs : List Coded) (names fields : List (List ℕ)) (columns : List Column) → in_turn (column_of inputs names) [] fields ≡ Ok columns
    → AreColumns (length inputs) (length names) columns
columns_known inputs names fields columns h =
    turns_keep (column_of inputs names) (AreColumns (length inputs) (length names))
    (λ before field column q e.
    let r = read_before (new_column before) (parsed_field inputs names field) column e in
    let a = other_than_error (list_any (is_same_column r.0) before) (CodeTwice 1) (Ok r.0) column r.2 in
    let same : r.0 ≡ column = cc a.1 in
    column_next (length inputs) (length names) before column q (subst (IsBelow (length inputs) (length names)) same (field_below inputs names field r.0 r.1))
    (subst (λ c. list_any (is_same_column c) before ≡ false) same a.0))
    [] fields columns (record { amounts = record { known = tt; once = tt }; expected = record { known = tt; once = tt } }) h

-- ---- pairs

-- a property of all elements, after removal of one and of the last ones
All-without : {X : Type 0} (P : X → Type 0) (xs ys : List X) (x : X) → AllByRecursion P (xs ++ x ∷ ys) → AllByRecursion P (xs ++ ys)
All-without P [] ys x h = h.1
All-without P (y ∷ xs) ys x h = (h.0, All-without P xs ys x h.1)

different-without : (xs ys : List ℕ) (x : ℕ) → AreDifferent (xs ++ x ∷ ys) → AreDifferent (xs ++ ys)
different-without [] ys x h = h.1
different-without (y ∷ xs) ys x h = (All-without (λ other. other ≢ y) xs ys x h.0, different-without xs ys x h.1)

known-without : {n : ℕ} (xs ys : List ℕ) (x : ℕ) → AreKnown n (xs ++ x ∷ ys) → AreKnown n (xs ++ ys)
known-without {n} xs ys x h = record { known = All-without (λ input. input < n) xs ys x h.known; once = different-without xs ys x h.once }

known-front : {n : ℕ} (xs ys : List ℕ) → AreKnown n (xs ++ ys) → AreKnown n xs
known-front {n} xs [] h = subst (AreKnown n) (append-nil xs) h
known-front {n} xs (y ∷ ys) h = known-front xs ys (known-without xs ys y h)

stated_input : (line input : ℕ) (r : Result ℤ AmountFault) (pair : ℕ × ℤ) → parsed_amount line input r ≡ Ok pair → pair.0 ≡ input
stated_input line input (Err why) pair h = cc h
stated_input line input (Ok z) pair h = cc h

stated_amount : (line input : ℕ) (stated : Option ℤ) (pair : ℕ × ℤ) → parsed_amount line input (amount_read stated) ≡ Ok pair → IsAmount pair.1
stated_amount line input stated pair h = by (amount_read stated) refl h
  where
    by : (r : Result ℤ AmountFault) → amount_read stated ≡ r → parsed_amount line input r ≡ Ok pair → IsAmount pair.1
    by (Err why) e g = cc g
    by (Ok z) e g = let same : z ≡ pair.1 = cc in subst IsAmount same (read_amount stated z e)

abbrev AreAmounts : List (ℕ × ℤ) → Type 0
AreAmounts pairs = AllByRecursion (λ pair. IsAmount pair.1) pairs

-- the pairs so far and the remaining columns are of known inputs, and the pairs have amounts
record AreGood (n : ℕ) (before : List (ℕ × ℤ)) (columns : List ℕ) : Type 0 where
  inputs : AreKnown n (inputs_of before ++ columns)
  amounts : AreAmounts before

cells_good : {n : ℕ} (line : ℕ) (before : List (ℕ × ℤ)) (columns : List ℕ) (cells : List (List ℕ)) (pairs : List (ℕ × ℤ)) → AreGood n before columns
    → cells_read line before columns cells ≡ Ok pairs → AreGood n pairs []
cells_good {n} line before [] cells pairs q h = let same : before ≡ pairs = cc in subst (λ (p : List (ℕ × ℤ)). AreGood n p []) same q
cells_good {n} line before (input ∷ columns) [] pairs q h =
    let same : before ≡ pairs = cc in
    subst (λ (p : List (ℕ × ℤ)). AreGood n p []) same
    (record {
      inputs = subst (AreKnown n) (sym (append-nil (inputs_of before))) (known-front (inputs_of before) (input ∷ columns) q.inputs);
      amounts = q.amounts;
    })
cells_good {n} line before (input ∷ columns) (cell ∷ cells) pairs q h =
    by (eqb (length cell) 0) h (cells_good line before columns cells pairs
    (record { inputs = known-without (inputs_of before) columns input q.inputs; amounts = q.amounts }))
    (λ pair e. cells_good line (before ++ pair ∷ []) columns cells pairs (record {
      inputs = subst (λ (xs : List ℕ). AreKnown n (xs ++ columns)) (sym (inputs_of-push before pair))
          (rw append_assoc (subst (λ (i : ℕ). AreKnown n (inputs_of before ++ i ∷ columns))
          (sym (stated_input line input (amount_read (text_value cell)) pair e)) q.inputs));
      amounts = AllByRecursion-push (λ (p : ℕ × ℤ). IsAmount p.1) before pair q.amounts (stated_amount line input (text_value cell) pair e);
    }))
  where
    by : (b : Bool) → cond b (cells_read line before columns cells)
        (if_read (λ pair. cells_read line (before ++ pair ∷ []) columns cells) (parsed_amount line input (amount_read (text_value cell)))) ≡ Ok pairs
        → (cells_read line before columns cells ≡ Ok pairs → AreGood n pairs [])
        → ((pair : ℕ × ℤ) → parsed_amount line input (amount_read (text_value cell)) ≡ Ok pair → cells_read line (before ++ pair ∷ []) columns cells ≡ Ok pairs
        → AreGood n pairs [])
        → AreGood n pairs []
    by true g empty filled = empty g
    by false g empty filled =
        let r = read_before (λ pair. cells_read line (before ++ pair ∷ []) columns cells) (parsed_amount line input (amount_read (text_value cell))) pairs g in
        filled r.0 r.1 r.2

-- amounts that fit are of their types
all_of_types : (inputs : List Coded) (pairs : List (ℕ × ℤ)) → AreAmounts pairs → are_fitting inputs pairs ≡ true → AreOfTypes inputs pairs
all_of_types inputs [] a f = tt
all_of_types inputs (pair ∷ pairs) a f = let b = and_parts (is_fitting inputs pair) (are_fitting inputs pairs) f in
    ((a.0, b.0), all_of_types inputs pairs a.1 b.1)

-- ---- expectations

cells_expected : (n line : ℕ) (before : List (ℕ × Expected)) (columns : List Column) (cells : List (List ℕ)) (all : List (ℕ × Expected))
    → AllByRecursion (λ e. e.0 < n) before
    → AllByRecursion (λ output. output < n) (column_outputs columns) → expected_read line before columns cells ≡ Ok all
    → AllByRecursion (λ e. e.0 < n) all × (length all ≤ length before + length (column_outputs columns))
cells_expected n line before [] cells all b c h =
    let same : before ≡ all = cc in subst (λ (l : List (ℕ × Expected)). AllByRecursion (λ e. e.0 < n) l × (length l ≤ length before + 0)) same (b, omega arith)
cells_expected n line before (column ∷ columns) [] all b c h =
    let same : before ≡ all = cc in subst (λ (l : List (ℕ × Expected)). AllByRecursion (λ e. e.0 < n) l
    × (length l ≤ length before + length (column_outputs (column ∷ columns)))) same (b, omega arith)
cells_expected n line before (Input input ∷ columns) (cell ∷ cells) all b c h = cells_expected n line before columns cells all b c h
cells_expected n line before (Output output ∷ columns) (cell ∷ cells) all b c h =
    by (eqb (length cell) 0) h (cells_expected n line before columns cells all b c.1)
    (λ e g. let more = cells_expected n line (before ++ (output, e) ∷ []) columns cells all
    (AllByRecursion-push (λ (x : ℕ × Expected). x.0 < n) before (output, e) b c.0) c.1 g in
    (more.0, (let l = length-append before ((output, e) ∷ []) in let m = more.1 in omega (arith, l, m))))
  where
    by : (t : Bool) → cond t (expected_read line before columns cells) (if_read (λ e. expected_read line (before ++ (output, e) ∷ []) columns cells)
        (parsed_expectation line cell)) ≡ Ok all
        → (expected_read line before columns cells ≡ Ok all → AllByRecursion (λ e. e.0 < n) all
        × (length all ≤ length before + length (column_outputs columns)))
        → ((e : Expected) → expected_read line (before ++ (output, e) ∷ []) columns cells ≡ Ok all → AllByRecursion (λ e. e.0 < n) all
        × (length all ≤ length before + suc (length (column_outputs columns))))
        → AllByRecursion (λ e. e.0 < n) all × (length all ≤ length before + suc (length (column_outputs columns)))
    by true g empty filled = let e = empty g in (e.0, (let m = e.1 in omega (arith, m)))
    by false g empty filled =
        let r = read_before (λ e. expected_read line (before ++ (output, e) ∷ []) columns cells) (parsed_expectation line cell) all g in
        filled r.0 r.2

-- ---- cases

-- the properties of a case
pub record IsGoodCase (inputs : List Coded) (names : ℕ) (case : Case) : Type 0 where
  pub known : AreInputs (length inputs) case.row.household.pairs
  pub types : AreOfTypes inputs case.row.household.pairs
  pub expected : AreExpected names case.expected

household_ok : {A : Type 0} (r : Result A HouseholdFault) (a : A) → of_household r ≡ Ok a → r ≡ Ok a
household_ok (Ok b) a e = cc
household_ok (Err f) a e = cc e

case_good : (inputs : List Coded) (names line : ℕ) (columns : List Column) (fields : List (List ℕ)) (case : Case) → names < 2 ^ 32
    → AreColumns (length inputs) names columns
    → parsed_case inputs line columns fields ≡ Ok case → IsGoodCase inputs names case
case_good inputs names line columns [] case small c h = cc h
case_good inputs names line columns (label ∷ cells) case small c h =
    let a = if_ok ((eqb (length cells) (length columns)) && is_label label) _ (BadRow line) case h in
    let p = read_before _ (of_household (pairs_read inputs line (column_inputs columns) (input_cells columns cells))) case a.1 in
    let x = read_before _ (expected_read line [] columns cells) case p.2 in
    let same : case_with label p.0 x.0 ≡ case = cc x.2 in
    let r = read_before (fitting_pairs inputs line) (cells_read line [] (column_inputs columns) (input_cells columns cells)) p.0 (household_ok _ p.0 p.1) in
    let f = if_ok (are_fitting inputs r.0) (Ok r.0) (household.NotOfType line) p.0 r.2 in
    let pairs_same : r.0 ≡ p.0 = cc f.1 in
    let good = cells_good line [] (column_inputs columns) (input_cells columns cells) r.0 (record { inputs = c.amounts; amounts = tt }) r.1 in
    let named = cells_expected names line [] columns cells x.0 tt c.expected.known x.1 in
    let many = few names (column_outputs columns) c.expected.once c.expected.known in
    subst (IsGoodCase inputs names) same (record {
      known = subst (AreInputs (length inputs)) pairs_same (let k = known-front (inputs_of r.0) [] good.inputs in record { known = k.known; once = k.once });
      types = subst (AreOfTypes inputs) pairs_same (all_of_types inputs r.0 good.amounts f.0);
      expected = record { known = named.0; few = let m = named.1 in omega (arith, m, many, small) };
    })

-- all cases have them
pub cases_good : (inputs : List Coded) (names : List (List ℕ)) (fields : List (List ℕ)) (columns : List Column) (records : List (List (List ℕ)))
    (cases : List Case) → length names < 2 ^ 32
    → in_turn (column_of inputs names) [] fields ≡ Ok columns → in_turn (case_of inputs columns) [] records ≡ Ok cases
    → AllByRecursion (IsGoodCase inputs (length names)) cases
cases_good inputs names fields columns records cases small c h =
    turns_keep (case_of inputs columns) (AllByRecursion (IsGoodCase inputs (length names)))
    (λ before record_fields case q e.
    let a = other_than_error (leb ROWS (length before)) TooManyRows (parsed_case inputs (line_behind (length before)) columns record_fields) case e in
    AllByRecursion-push (IsGoodCase inputs (length names)) before case q
    (case_good inputs (length names) (line_behind (length before)) columns record_fields case small (columns_known inputs names fields columns c) a.1))
    [] records cases tt h

pub rows_known : (inputs : List Coded) (names : ℕ) (cases : List Case) → AllByRecursion (IsGoodCase inputs names) cases
    → AllByRecursion (λ row. AreInputs (length inputs) row.household.pairs) (cases_made cases).rows
rows_known inputs names [] h = tt
rows_known inputs names (case ∷ cases) h = (h.0.known, rows_known inputs names cases h.1)

pub rows_types : (inputs : List Coded) (names : ℕ) (cases : List Case) → AllByRecursion (IsGoodCase inputs names) cases
    → AllByRecursion (λ row. AreOfTypes inputs row.household.pairs) (cases_made cases).rows
rows_types inputs names [] h = tt
rows_types inputs names (case ∷ cases) h = (h.0.types, rows_types inputs names cases h.1)

pub each_expected : (inputs : List Coded) (names : ℕ) (cases : List Case) → AllByRecursion (IsGoodCase inputs names) cases
    → AllByRecursion (AreExpected names) (cases_made cases).expected
each_expected inputs names [] h = tt
each_expected inputs names (case ∷ cases) h = (h.0.expected, each_expected inputs names cases h.1)

pub as_many : (cases : List Case) → length (cases_made cases).expected ≡ length (cases_made cases).rows
as_many cases = length-map cases (λ (c : Case). c.expected) ∙ sym (length-map cases (λ (c : Case). c.row))

-- the number of cases is within the limit
few_cases : (inputs : List Coded) (columns : List Column) (records : List (List (List ℕ))) (cases : List Case)
    → in_turn (case_of inputs columns) [] records ≡ Ok cases → length cases ≤ ROWS
few_cases inputs columns records cases h =
    turns_keep (case_of inputs columns) (λ (l : List Case). length l ≤ ROWS)
    (λ before record_fields case q e.
    let a = other_than_error (leb ROWS (length before)) TooManyRows (parsed_case inputs (line_behind (length before)) columns record_fields) case e in
    let below = leb-false ROWS (length before) a.0 in
    let long = length-append before (case ∷ []) in
    omega (arith, below, long))
    [] records cases (omega arith) h

pub few_rows : (inputs : List Coded) (columns : List Column) (records : List (List (List ℕ))) (cases : List Case)
    → in_turn (case_of inputs columns) [] records ≡ Ok cases → length (cases_made cases).rows ≤ ROWS
few_rows inputs columns records cases h = let many = length-map cases (λ (c : Case). c.row) in let few = few_cases inputs columns records cases h in omega
    (arith, many, few)
