-- A table of cases is read as the cases of its records.
use Rattle.std.proofs.Common.{◌≡◌, ◌≢◌, ℕ, ℤ, ◌≤◌, List, [], ◌∷◌, ◌++◌, drop, length, Result, Ok, Err, Bool, true, false, cond, eqb, leb, refl, sym, subst, ap}
use Rattle.std.proofs.Common.{◌∙◌, append_assoc, arith, codes}
use mathlib.Core.Bool.{◌&&◌}
use Rattle.std.specs.Prelude.{◌||◌}
use Rattle.std.specs.Str.{bytes_eq}
use Rattle.std.specs.List.{AllZip, list_any}
use Rattle.std.proofs.lemmas.Bool.{and_parts, cond-false, cond-true, false_from_ne_true, eqb-true, eq-eqb, or_parts}
use Rattle.std.proofs.lemmas.List.{append-nil}
use Rattle.m_places.specs.declared.limits.TheConstants.{ROWS}
use Rattle.m_fixed.specs.declared.read.AmountFault.{AmountFault}
use Rattle.m_fixed.specs.declared.amount.Value.TheVariants.{Undef, Over}
use Rattle.m_fixed.specs.Text.{text_value, amount_read}
use Rattle.observables.specs.declared.inputs.Coded.{Coded}
use Rattle.household.specs.declared.fault.HouseholdFault.{HouseholdFault}
use Rattle.household.specs.declared.fault.HouseholdFault.TheVariants as household
use Rattle.household.specs.InTurn.{if_read, in_turn}
use Rattle.household.specs.Records.{records_of}
use Rattle.household.specs.Household.{line_behind}
use Rattle.household.specs.Table.{are_fitting, fitting_pairs, is_label, is_table_header, pairs_read}
use Rattle.household.proofs.InputLemmas.{AllByRecursion-push, if_ok, other_than_error, read_before, turns_keep}
use Rattle.household.proofs.LawLemmas.{fewer, inside, turns_each, turns_few, turns_whole}
use Rattle.household.proofs.TableLemmas.{cells_whole, not_empty, pairs_sound}
use Rattle.m_cases.specs.declared.cases.Case.{Case}
use Rattle.m_cases.specs.declared.cases.Cases.{Cases}
use Rattle.m_cases.specs.declared.columns.Column.{Column}
use Rattle.m_cases.specs.declared.columns.Column.TheVariants.{Input, Output}
use Rattle.m_cases.specs.declared.expected.Expected.{Expected}
use Rattle.m_cases.specs.declared.expected.Expected.TheVariants.{Is, Stop}
use Rattle.m_cases.specs.declared.fault.CasesFault.{CasesFault}
use Rattle.m_cases.specs.declared.fault.CasesFault.TheVariants.{BadHeader, BadRow, CodeTwice, TooManyRows}
use Rattle.m_cases.specs.CaseRows.{AreApart, AreExpectations, Expects, IsCase, IsCaseTable}
use Rattle.m_cases.specs.Cases.{amount_expected, case_of, parsed_case, case_with, cases_made, cases_of, cases_read, expected_read, parsed_expectation}
use Rattle.m_cases.specs.Cases.{of_household}
use Rattle.m_cases.specs.Columns.{column_inputs, column_of, parsed_field, input_cells, is_same_column, new_column}

-- ---- columns

same_column : (a b : Column) → is_same_column a b ≡ true → b ≡ a
same_column (Input a) (Input b) e = ap Input (eqb-true b a e)
same_column (Output a) (Output b) e = ap Output (eqb-true b a e)
same_column (Input a) (Output b) e = absurd (cc e)
same_column (Output a) (Input b) e = absurd (cc e)

itself : (a : Column) → is_same_column a a ≡ true
itself (Input a) = eq-eqb a a refl
itself (Output a) = eq-eqb a a refl

apart-push : (columns : List Column) (column : Column) → list_any (is_same_column column) columns ≡ false → AreApart columns → AreApart (columns ++ column ∷ [])
apart-push [] column e h = (tt, tt)
apart-push (c ∷ cs) column e h =
    let parts = or_parts (is_same_column column c) (list_any (is_same_column column) cs) e in (
      AllByRecursion-push (λ other. other ≢ c) cs column h.0 (λ same. absurd (cc (sym (itself column) ∙ ap (is_same_column column) same ∙ parts.0))),
      apart-push
          cs column parts.1 h.1,
    )

apart_from : (before after : List Column) (column : Column) → AreApart (before ++ column ∷ after) → list_any (is_same_column column) before ≡ false
apart_from [] after column h = refl
apart_from (c ∷ cs) after column h =
    let this : is_same_column column c ≡ false = false_from_ne_true (is_same_column column c)
    (λ e. inside (λ other. other ≢ c) cs after column h.0 (sym (same_column column c e))) in
    cond_or this (apart_from cs after column h.1)
  where
    cond_or : {a b : Bool} → a ≡ false → b ≡ false → (a || b) ≡ false
    cond_or x y = λ i. x i || y i

columns_apart : (inputs : List Coded) (names fields : List (List ℕ)) (columns : List Column) → in_turn (column_of inputs names) [] fields ≡ Ok columns
    → AreApart columns
columns_apart inputs names fields columns h =
    turns_keep (column_of inputs names) AreApart
    (λ before field column q e.
    let r = read_before (new_column before) (parsed_field inputs names field) column e in
    let a = other_than_error (list_any (is_same_column r.0) before) (CodeTwice 1) (Ok r.0) column r.2 in
    let same : r.0 ≡ column = cc a.1 in
    apart-push before column (subst (λ c. list_any (is_same_column c) before ≡ false) same a.0) q)
    [] fields columns tt h

field_is : (inputs : List Coded) (names : List (List ℕ)) (before : List Column) (field : List ℕ) (column : Column)
    → column_of inputs names before field ≡ Ok column → parsed_field inputs names field ≡ Ok column
field_is inputs names before field column h =
    let r = read_before (new_column before) (parsed_field inputs names field) column h in
    let a = other_than_error (list_any (is_same_column r.0) before) (CodeTwice 1) (Ok r.0) column r.2 in
    let same : r.0 ≡ column = cc a.1 in
    r.1 ∙ ap Ok same

column_whole : (inputs : List Coded) (names : List (List ℕ)) (before : List Column) (field : List ℕ) (column : Column) (more : List Column)
    → parsed_field inputs names field ≡ Ok column → AreApart (before ++ column ∷ more)
    → column_of inputs names before field ≡ Ok column
column_whole inputs names before field column more stated d =
    ap (if_read (new_column before)) stated ∙ cond-false (list_any (is_same_column column) before) (Err (CodeTwice 1)) (Ok column)
    (apart_from before more column d)

-- ---- expectations

amount_any : (line other : ℕ) (r : Result ℤ AmountFault) (expected : Expected) → amount_expected line r ≡ Ok expected → amount_expected other r ≡ Ok expected
amount_any line other (Ok z) expected h = h
amount_any line other (Err why) expected h = absurd (cc h)

choice : {T E : Type 0} (b : Bool) (value : T) (r s : Result T E) (t : T) → (r ≡ Ok t → s ≡ Ok t) → cond b (Ok value) r ≡ Ok t → cond b (Ok value) s ≡ Ok t
choice true value r s t more h = h
choice false value r s t more h = more h

-- the number of the record is irrelevant
expects : (line : ℕ) (cell : List ℕ) (expected : Expected) → parsed_expectation line cell ≡ Ok expected → Expects cell expected
expects line cell expected h other =
    choice (bytes_eq cell (codes "undefined")) (Is Undef) _ _ expected
    (choice (bytes_eq cell (codes "over")) (Is Over) _ _ expected
    (choice (bytes_eq cell (codes "stop")) Stop _ _ expected (amount_any line other (amount_read (text_value cell)) expected))) h

read_one : (line output : ℕ) (before : List (ℕ × Expected)) (columns : List Column) (cells : List (List ℕ)) (byte : ℕ) (bytes : List ℕ)
    → expected_read line before (Output output ∷ columns) ((byte ∷ bytes) ∷ cells) ≡ if_read
    (λ expected. expected_read line (before ++ (output, expected) ∷ []) columns cells) (parsed_expectation line (byte ∷ bytes))
read_one line output before columns cells byte bytes = cond-false (eqb (length (byte ∷ bytes)) 0) (expected_read line before columns cells) _
    (not_empty byte bytes)

expected_sound : (line : ℕ) (before : List (ℕ × Expected)) (columns : List Column) (cells : List (List ℕ)) (expected : List (ℕ × Expected))
    → length cells ≡ length columns → expected_read line before columns cells ≡ Ok expected
    → (more : List (ℕ × Expected)) × (expected ≡ before ++ more) × AreExpectations columns cells more
expected_sound line before [] [] expected n h = let same : before ≡ expected = cc h in ([], sym (append-nil before ∙ same), tt)
expected_sound line before [] (cell ∷ cells) expected n h = absurd (omega (arith, n))
expected_sound line before (column ∷ columns) [] expected n h = absurd (omega (arith, n))
expected_sound line before (Input input ∷ columns) (cell ∷ cells) expected n h =
    let more = expected_sound line before columns cells expected (omega (arith, n)) h in (more.0, more.1, more.2)
expected_sound line before (Output output ∷ columns) ([] ∷ cells) expected n h =
    let more = expected_sound line before columns cells expected (omega (arith, n)) h in (more.0, more.1, more.2)
expected_sound line before (Output output ∷ columns) ((byte ∷ bytes) ∷ cells) expected n h =
    let r = read_before (λ e. expected_read line (before ++ (output, e) ∷ []) columns cells) (parsed_expectation line (byte ∷ bytes)) expected
    (sym (read_one line output before columns cells byte bytes) ∙ h) in
    let more = expected_sound line (before ++ (output, r.0) ∷ []) columns cells expected (omega (arith, n)) r.2 in
    ((output, r.0) ∷ more.0, more.1 ∙ append_assoc before ((output, r.0) ∷ []) more.0, (refl, expects line (byte ∷ bytes) r.0 r.1, more.2))

expected_whole : (line : ℕ) (before : List (ℕ × Expected)) (columns : List Column) (cells : List (List ℕ)) (more : List (ℕ × Expected))
    → AreExpectations columns cells more
    → expected_read line before columns cells ≡ Ok (before ++ more)
expected_whole line before [] [] [] are = ap Ok (sym (append-nil before))
expected_whole line before [] [] (one ∷ more) are = absurd are
expected_whole line before [] (cell ∷ cells) more are = absurd are
expected_whole line before (Input input ∷ columns) [] more are = absurd are
expected_whole line before (Output output ∷ columns) [] more are = absurd are
expected_whole line before (Input input ∷ columns) (cell ∷ cells) more are = expected_whole line before columns cells more are
expected_whole line before (Output output ∷ columns) ([] ∷ cells) more are = expected_whole line before columns cells more are
expected_whole line before (Output output ∷ columns) ((byte ∷ bytes) ∷ cells) [] are = absurd are
expected_whole line before (Output output ∷ columns) ((byte ∷ bytes) ∷ cells) (one ∷ more) are =
    read_one line output before columns cells byte bytes
    ∙ ap (if_read (λ e. expected_read line (before ++ (output, e) ∷ []) columns cells)) (are.1 line)
    ∙ ap (λ o. expected_read line (before ++ (o, one.1) ∷ []) columns cells) (sym are.0)
    ∙ expected_whole line (before ++ one ∷ []) columns cells more are.2
    ∙ ap Ok (append_assoc before (one ∷ []) more)

-- ---- a case

of_ok : {A : Type 0} (r : Result A HouseholdFault) (a : A) → of_household r ≡ Ok a → r ≡ Ok a
of_ok (Ok value) a h = let same : value ≡ a = cc h in ap Ok same
of_ok (Err fault) a h = absurd (cc h)

inputs_many : (columns : List Column) (cells : List (List ℕ)) → length cells ≡ length columns
    → length (input_cells columns cells) ≡ length (column_inputs columns)
inputs_many [] [] n = refl
inputs_many [] (cell ∷ cells) n = absurd (omega (arith, n))
inputs_many (column ∷ columns) [] n = absurd (omega (arith, n))
inputs_many (Input input ∷ columns) (cell ∷ cells) n = let rest = inputs_many columns cells (omega (arith, n)) in omega (arith, rest)
inputs_many (Output output ∷ columns) (cell ∷ cells) n = inputs_many columns cells (omega (arith, n))

abbrev ends : List ℕ → List (ℕ × ℤ) → List (ℕ × Expected) → Result Case CasesFault
ends label pairs expected = Ok (case_with label pairs expected)

abbrev goes : ℕ → List Column → List ℕ → List (List ℕ) → List (ℕ × ℤ) → Result Case CasesFault
goes line columns label cells pairs = if_read (ends label pairs) (expected_read line [] columns cells)

case_sound : (inputs : List Coded) (line : ℕ) (columns : List Column) (fields : List (List ℕ)) (case : Case) → parsed_case inputs line columns fields ≡ Ok case
    → IsCase inputs columns fields case
case_sound inputs line columns [] case h = absurd (cc h)
case_sound inputs line columns (label ∷ cells) case h =
    let pairs = pairs_read inputs line (column_inputs columns) (input_cells columns cells) in
    let a = if_ok (eqb (length cells) (length columns) && is_label label) _ (BadRow line) case h in
    let both = and_parts (eqb (length cells) (length columns)) (is_label label) a.0 in
    let many = eqb-true (length cells) (length columns) both.0 in
    let p = read_before (goes line columns label cells) (of_household pairs) case a.1 in
    let stated = pairs_sound inputs line (column_inputs columns) (input_cells columns cells) p.0 (inputs_many columns cells many) (of_ok pairs p.0 p.1) in
    let x = read_before (ends label p.0) (expected_read line [] columns cells) case p.2 in
    let more = expected_sound line [] columns cells x.0 many x.1 in
    let same : case_with label p.0 x.0 ≡ case = cc x.2 in
    subst (IsCase inputs columns (label ∷ cells)) same
    (record {
      cells = cells;
      split = refl;
      many = many;
      label = both.1;
      says = stated.0;
      fits = stated.1;
      expects = subst (AreExpectations columns cells)
          (sym more.1) more.2;
    })

case_whole : (inputs : List Coded) (line : ℕ) (columns : List Column) (fields : List (List ℕ)) (case : Case) → IsCase inputs columns fields case
    → parsed_case inputs line columns fields ≡ Ok case
case_whole inputs line columns fields case is =
    let label = case.row.label in
    let pairs = case.row.household.pairs in
    let cells = cells_whole line [] (column_inputs columns) (input_cells columns is.cells) pairs is.says in
    let fits : fitting_pairs inputs line pairs ≡ Ok pairs = cond-true (are_fitting inputs pairs) (Ok pairs) (Err (household.NotOfType line)) is.fits in
    let many : (eqb (length is.cells) (length columns) && is_label label) ≡ true = (λ i. eq-eqb (length is.cells) (length columns) is.many i && is.label i) in
    ap (parsed_case inputs line columns) is.split
    ∙ cond-true (eqb (length is.cells) (length columns) && is_label label)
    (if_read (goes line columns label is.cells) (of_household (pairs_read inputs line (column_inputs columns) (input_cells columns is.cells))))
    (Err (BadRow line)) many
    ∙ ap (λ (r : Result (List (ℕ × ℤ)) HouseholdFault). if_read (goes line columns label is.cells) (of_household r))
    (ap (if_read (fitting_pairs inputs line)) cells.1 ∙ fits)
    ∙ ap (if_read (ends label pairs)) (expected_whole line [] columns is.cells case.expected is.expects)

-- ---- all cases

-- a case that is valid alone is read as itself in order
case_in_turn : (inputs : List Coded) (columns : List Column) (before : List Case) (fields : List (List ℕ)) (case : Case) (more : List Case)
    → IsCase inputs columns fields case → length (before ++ case ∷ more) ≤ ROWS
    → case_of inputs columns before fields ≡ Ok case
case_in_turn inputs columns before fields case more is few =
    cond-false (leb ROWS (length before)) (Err TooManyRows) (parsed_case inputs (line_behind (length before)) columns fields) (fewer ROWS before more case few)
    ∙ case_whole inputs (line_behind (length before)) columns fields case is

-- a case that is read in order is valid alone, and within the limit
case_parts : (inputs : List Coded) (columns : List Column) (before : List Case) (fields : List (List ℕ)) (case : Case)
    → case_of inputs columns before fields ≡ Ok case
    → (leb ROWS (length before) ≡ false) × (parsed_case inputs (line_behind (length before)) columns fields ≡ Ok case)
case_parts inputs columns before fields case h = other_than_error (leb ROWS (length before)) TooManyRows
    (parsed_case inputs (line_behind (length before)) columns fields) case h

table_sound : (inputs : List Coded) (names : List (List ℕ)) (bytes : List ℕ) (records : List (List (List ℕ))) (cases : List Case) → records_of bytes ≡ records
    → cases_read inputs names records ≡ Ok cases
    → IsCaseTable inputs names bytes cases
table_sound inputs names bytes [] cases e h = absurd (cc h)
table_sound inputs names bytes (first ∷ others) cases e h =
    let read = if_ok (is_table_header first)
    (if_read (λ columns. in_turn (case_of inputs columns) [] others) (in_turn (column_of inputs names) [] (drop 1 first))) BadHeader cases h in
    let c = read_before (λ columns. in_turn (case_of inputs columns) [] others) (in_turn (column_of inputs names) [] (drop 1 first)) cases read.1 in
    let known = turns_each (column_of inputs names) (λ field column. parsed_field inputs names field ≡ Ok column)
    (λ before field column f. field_is inputs names before field column f) [] (drop 1 first) c.0 c.1 in
    let each = turns_each (case_of inputs c.0) (IsCase inputs c.0)
    (λ before fields case f. case_sound inputs (line_behind (length before)) c.0 fields case (case_parts inputs c.0 before fields case f).1) [] others cases
    c.2 in
    record {
      first = first;
      others = others;
      columns = c.0;
      records = e;
      header = read.0;
      known = subst (λ (cs : List Column). AllZip (λ field column. parsed_field inputs names field ≡ Ok column) (drop 1 first) cs) (sym known.1) known.2;
      once = columns_apart inputs names (drop 1 first) c.0 c.1;
      in_order = subst (λ (cs : List Case). AllZip (IsCase inputs c.0) others cs) (sym each.1) each.2;
      few = turns_few (case_of inputs c.0) ROWS (λ before fields case f. (case_parts inputs c.0 before fields case f).0) others cases c.2;
    }

abbrev all_made : List Case → Result Cases CasesFault
all_made cases = Ok (cases_made cases)

pub read_cases_are : (inputs : List Coded) (names : List (List ℕ)) (bytes : List ℕ) (made : Cases) → cases_of inputs names bytes ≡ Ok made
    → (cases : List Case) × (made ≡ cases_made cases) × IsCaseTable inputs names bytes cases
read_cases_are inputs names bytes made h =
    let r = read_before all_made (cases_read inputs names (records_of bytes)) made h in
    let same : cases_made r.0 ≡ made = cc r.2 in
    (r.0, sym same, table_sound inputs names bytes (records_of bytes) r.0 refl r.1)

pub cases_are_read : (inputs : List Coded) (names : List (List ℕ)) (bytes : List ℕ) (cases : List Case) → IsCaseTable inputs names bytes cases
    → cases_of inputs names bytes ≡ Ok (cases_made cases)
cases_are_read inputs names bytes cases is =
    ap (λ rs. if_read all_made (cases_read inputs names rs)) is.records
    ∙ ap (if_read all_made) (cond-true (is_table_header is.first)
    (if_read (λ columns. in_turn (case_of inputs columns) [] is.others) (in_turn (column_of inputs names) [] (drop 1 is.first))) (Err BadHeader) is.header
    ∙ ap (if_read (λ columns. in_turn (case_of inputs columns) [] is.others))
    (turns_whole (column_of inputs names) (λ field column. parsed_field inputs names field ≡ Ok column) AreApart (column_whole inputs names) []
    (drop 1 is.first) is.columns is.known is.once)
    ∙ turns_whole (case_of inputs is.columns) (IsCase inputs is.columns) (λ cs. length cs ≤ ROWS) (case_in_turn inputs is.columns) [] is.others cases
    is.in_order is.few)
