-- A table is read as the rows of its records.
use Rattle.std.proofs.Common.{◌≡◌, ℕ, ℤ, ◌≤◌, List, [], ◌∷◌, ◌++◌, drop, length, Option, Some, None, Result, Ok, Err, true, false, eqb, leb, refl, sym, subst}
use Rattle.std.proofs.Common.{ap, ◌∙◌, append_assoc, arith}
use mathlib.Core.Bool.{◌&&◌}
use Rattle.std.specs.List.{AllZip}
use Rattle.std.proofs.lemmas.Bool.{and_parts, cond-false, cond-true, false_from_ne_true, ne_eqb, eqb-true, eq-eqb}
use Rattle.std.proofs.lemmas.List.{append-nil}
use Rattle.m_places.specs.declared.limits.TheConstants.{ROWS}
use Rattle.m_fixed.specs.declared.read.AmountFault.{AmountFault}
use Rattle.m_fixed.specs.Text.{text_value, amount_read}
use Rattle.m_names.specs.Names.{index_of}
use Rattle.observables.specs.declared.inputs.Coded.{Coded}
use Rattle.observables.specs.Inputs.{codes_of}
use Rattle.household.specs.declared.fault.HouseholdFault.{HouseholdFault}
use Rattle.household.specs.declared.fault.HouseholdFault.TheVariants.{BadHeader, BadRow, CodeTwice, NotOfType, TooManyRows}
use Rattle.household.specs.declared.table.Row.{Row}
use Rattle.household.specs.InTurn.{if_read, in_turn}
use Rattle.household.specs.Records.{records_of}
use Rattle.household.specs.Household.{AreDifferent, is_input_among, line_behind}
use Rattle.household.specs.Table.{parsed_amount, are_fitting, cells_read, column_of, fitting_pairs, is_label, is_table_header, labelled, new_column, pairs_read}
use Rattle.household.specs.Table.{rows_read, table_of, table_read, table_row}
use Rattle.household.specs.TableRows.{AreCells, IsTable, IsTableRow}
use Rattle.household.proofs.ColumnLemmas.{columns_known}
use Rattle.household.proofs.InputLemmas.{if_ok, other_than_error, read_before}
use Rattle.household.proofs.LawLemmas.{fewer, turns_each, turns_few, turns_whole, twice}

-- ---- cells

pub not_empty : (byte : ℕ) (bytes : List ℕ) → eqb (length (byte ∷ bytes)) 0 ≡ false
not_empty byte bytes = ne_eqb (length (byte ∷ bytes)) 0 (λ e. absurd (omega (arith, e)))

amount_parts : (line input : ℕ) (r : Result ℤ AmountFault) (pair : ℕ × ℤ) → parsed_amount line input r ≡ Ok pair → (pair.0 ≡ input) × (r ≡ Ok pair.1)
amount_parts line input (Err why) pair h = absurd (cc h)
amount_parts line input (Ok z) pair h = let same : (input, z) ≡ pair = cc h in (sym (ap (λ (p : ℕ × ℤ). p.0) same), ap (λ (p : ℕ × ℤ). Ok p.1) same)

read_filled : (line : ℕ) (before : List (ℕ × ℤ)) (columns : List ℕ) (cells : List (List ℕ)) (input byte : ℕ) (bytes : List ℕ)
    → cells_read line before (input ∷ columns) ((byte ∷ bytes) ∷ cells) ≡ if_read (λ pair. cells_read line (before ++ pair ∷ []) columns cells)
    (parsed_amount line input (amount_read (text_value (byte ∷ bytes))))
read_filled line before columns cells input byte bytes = cond-false (eqb (length (byte ∷ bytes)) 0) (cells_read line before columns cells) _
    (not_empty byte bytes)

cells_sound : (line : ℕ) (before : List (ℕ × ℤ)) (columns : List ℕ) (cells : List (List ℕ)) (pairs : List (ℕ × ℤ)) → length cells ≡ length columns
    → cells_read line before columns cells ≡ Ok pairs
    → (more : List (ℕ × ℤ)) × (pairs ≡ before ++ more) × AreCells columns cells more
cells_sound line before [] [] pairs n h = let same : before ≡ pairs = cc h in ([], sym (append-nil before ∙ same), tt)
cells_sound line before [] (cell ∷ cells) pairs n h = absurd (omega (arith, n))
cells_sound line before (input ∷ columns) [] pairs n h = absurd (omega (arith, n))
cells_sound line before (input ∷ columns) ([] ∷ cells) pairs n h =
    let more = cells_sound line before columns cells pairs (omega (arith, n)) h in
    (more.0, more.1, more.2)
cells_sound line before (input ∷ columns) ((byte ∷ bytes) ∷ cells) pairs n h =
    let r = read_before (λ pair. cells_read line (before ++ pair ∷ []) columns cells) (parsed_amount line input (amount_read (text_value (byte ∷ bytes)))) pairs
    (sym (read_filled line before columns cells input byte bytes) ∙ h) in
    let parts = amount_parts line input (amount_read (text_value (byte ∷ bytes))) r.0 r.1 in
    let more = cells_sound line (before ++ r.0 ∷ []) columns cells pairs (omega (arith, n)) r.2 in
    (r.0 ∷ more.0, more.1 ∙ append_assoc before (r.0 ∷ []) more.0, (parts.0, parts.1, more.2))

pub cells_whole : (line : ℕ) (before : List (ℕ × ℤ)) (columns : List ℕ) (cells : List (List ℕ)) (more : List (ℕ × ℤ)) → AreCells columns cells more
    → (length cells ≡ length columns) × (cells_read line before columns cells ≡ Ok (before ++ more))
cells_whole line before [] [] [] are = (refl, ap Ok (sym (append-nil before)))
cells_whole line before [] [] (pair ∷ more) are = absurd are
cells_whole line before [] (cell ∷ cells) more are = absurd are
cells_whole line before (input ∷ columns) [] more are = absurd are
cells_whole line before (input ∷ columns) ([] ∷ cells) more are = let rest = cells_whole line before columns cells more are in (omega (arith, rest.0), rest.1)
cells_whole line before (input ∷ columns) ((byte ∷ bytes) ∷ cells) [] are = absurd are
cells_whole line before (input ∷ columns) ((byte ∷ bytes) ∷ cells) (pair ∷ more) are =
    let rest = cells_whole line (before ++ pair ∷ []) columns cells more are.2 in
    let this : parsed_amount line input (amount_read (text_value (byte ∷ bytes))) ≡ Ok pair = ap (parsed_amount line input) are.1
    ∙ ap (λ i. Ok (i, pair.1)) (sym are.0) in (
      omega (arith, rest.0),
      read_filled line before columns cells input byte bytes ∙ ap (if_read (λ p. cells_read line (before ++ p ∷ []) columns cells)) this ∙ rest.1
          ∙ ap Ok (append_assoc before (pair ∷ []) more),
    )

-- ---- a row

abbrev made : List ℕ → List (ℕ × ℤ) → Row
made label pairs = record { label = label; household = record { pairs = pairs } }

abbrev row_made : List ℕ → List (ℕ × ℤ) → Result Row HouseholdFault
row_made label pairs = Ok (made label pairs)

pub pairs_sound : (inputs : List Coded) (line : ℕ) (columns : List ℕ) (cells : List (List ℕ)) (pairs : List (ℕ × ℤ)) → length cells ≡ length columns
    → pairs_read inputs line columns cells ≡ Ok pairs
    → AreCells columns cells pairs × (are_fitting inputs pairs ≡ true)
pairs_sound inputs line columns cells pairs n h =
    let c = read_before (fitting_pairs inputs line) (cells_read line [] columns cells) pairs h in
    let f = if_ok (are_fitting inputs c.0) (Ok c.0) (NotOfType line) pairs c.2 in
    let same : c.0 ≡ pairs = cc f.1 in
    let are = cells_sound line [] columns cells c.0 n c.1 in
    (subst (AreCells columns cells) (sym are.1 ∙ same) are.2, ap (are_fitting inputs) (sym same) ∙ f.0)

row_sound : (inputs : List Coded) (line : ℕ) (columns : List ℕ) (fields : List (List ℕ)) (row : Row) → labelled inputs line columns fields ≡ Ok row
    → IsTableRow inputs columns fields row
row_sound inputs line columns [] row h = absurd (cc h)
row_sound inputs line columns (label ∷ cells) row h =
    let a = if_ok (eqb (length cells) (length columns) && is_label label) _ (BadRow line) row h in
    let both = and_parts (eqb (length cells) (length columns)) (is_label label) a.0 in
    let r = read_before (row_made label) (pairs_read inputs line columns cells) row a.1 in
    let stated = pairs_sound inputs line columns cells r.0 (eqb-true (length cells) (length columns) both.0) r.1 in
    let same : made label r.0 ≡ row = cc r.2 in
    subst (IsTableRow inputs columns (label ∷ cells)) same (record { cells = cells; split = refl; label = both.1; says = stated.0; fits = stated.1 })

row_whole : (inputs : List Coded) (line : ℕ) (columns : List ℕ) (fields : List (List ℕ)) (row : Row) → IsTableRow inputs columns fields row
    → labelled inputs line columns fields ≡ Ok row
row_whole inputs line columns fields row is =
    let cells = cells_whole line [] columns is.cells row.household.pairs is.says in
    let fits : fitting_pairs inputs line row.household.pairs ≡ Ok row.household.pairs = cond-true (are_fitting inputs row.household.pairs)
    (Ok row.household.pairs) (Err (NotOfType line)) is.fits in
    let many : (eqb (length is.cells) (length columns) && is_label row.label) ≡ true = (λ i. eq-eqb (length is.cells) (length columns) cells.0 i && is.label
    i) in
    ap (labelled inputs line columns) is.split
    ∙ cond-true (eqb (length is.cells) (length columns) && is_label row.label) (if_read (row_made row.label) (pairs_read inputs line columns is.cells))
    (Err (BadRow line)) many
    ∙ ap (if_read (row_made row.label)) (ap (if_read (fitting_pairs inputs line)) cells.1 ∙ fits)

-- ---- rows

-- a row that is valid alone is read as itself in order
row_in_turn : (inputs : List Coded) (columns : List ℕ) (before : List Row) (fields : List (List ℕ)) (row : Row) (more : List Row)
    → IsTableRow inputs columns fields row → length (before ++ row ∷ more) ≤ ROWS
    → table_row inputs columns before fields ≡ Ok row
row_in_turn inputs columns before fields row more is few =
    cond-false (leb ROWS (length before)) (Err TooManyRows) (labelled inputs (line_behind (length before)) columns fields) (fewer ROWS before more row few)
    ∙ row_whole inputs (line_behind (length before)) columns fields row is

-- a row that is read in order is valid alone, and within the limit
row_parts : (inputs : List Coded) (columns : List ℕ) (before : List Row) (fields : List (List ℕ)) (row : Row) → table_row inputs columns before fields ≡ Ok row
    → (leb ROWS (length before) ≡ false) × (labelled inputs (line_behind (length before)) columns fields ≡ Ok row)
row_parts inputs columns before fields row h = other_than_error (leb ROWS (length before)) TooManyRows
    (labelled inputs (line_behind (length before)) columns fields) row h

-- ---- columns

column_parts : (before : List ℕ) (o : Option ℕ) (input : ℕ) → new_column before o ≡ Ok input → o ≡ Some input
column_parts before None input h = absurd (cc h)
column_parts before (Some i) input h = let a = other_than_error (is_input_among i before) (CodeTwice 1) (Ok i) input h in let same : i ≡ input = cc a.1 in ap
    Some same

column_whole : (inputs : List Coded) (before : List ℕ) (code : List ℕ) (input : ℕ) (more : List ℕ) → index_of code (codes_of inputs) ≡ Some input
    → AreDifferent (before ++ input ∷ more)
    → column_of inputs before code ≡ Ok input
column_whole inputs before code input more known d =
    let fresh = false_from_ne_true (is_input_among input before) (λ e. twice before more input e d) in ap (new_column before) known
    ∙ cond-false (is_input_among input before) (Err (CodeTwice 1)) (Ok input) fresh

-- ---- a table

table_sound : (inputs : List Coded) (bytes : List ℕ) (records : List (List (List ℕ))) (rows : List Row) → records_of bytes ≡ records
    → table_read inputs records ≡ Ok rows → IsTable inputs bytes rows
table_sound inputs bytes [] rows e h = absurd (cc h)
table_sound inputs bytes (first ∷ others) rows e h =
    let read = if_ok (is_table_header first) (rows_read inputs (drop 1 first) others) BadHeader rows h in
    let c = read_before (λ columns. in_turn (table_row inputs columns) [] others) (in_turn (column_of inputs) [] (drop 1 first)) rows read.1 in
    let known = turns_each (column_of inputs) (λ code input. index_of code (codes_of inputs) ≡ Some input)
    (λ before code input f. column_parts before (index_of code (codes_of inputs)) input f) [] (drop 1 first) c.0 c.1 in
    let each = turns_each (table_row inputs c.0) (IsTableRow inputs c.0)
    (λ before fields row f. row_sound inputs (line_behind (length before)) c.0 fields row (row_parts inputs c.0 before fields row f).1) [] others rows c.2 in
    record {
      first = first;
      others = others;
      columns = c.0;
      records = e;
      header = read.0;
      known = subst (λ (cs : List ℕ). AllZip (λ code input. index_of code (codes_of inputs) ≡ Some input) (drop 1 first) cs) (sym known.1) known.2;
      once = (columns_known inputs (drop 1 first) c.0 c.1).once;
      in_order = subst (λ (rs : List Row). AllZip (IsTableRow inputs c.0) others rs) (sym each.1) each.2;
      few = turns_few (table_row inputs c.0) ROWS (λ before fields row f. (row_parts inputs c.0 before fields row f).0) others rows c.2;
    }

pub read_table_is : (inputs : List Coded) (bytes : List ℕ) (rows : List Row) → table_of inputs bytes ≡ Ok rows → IsTable inputs bytes rows
read_table_is inputs bytes rows h = table_sound inputs bytes (records_of bytes) rows refl h

pub table_is_read : (inputs : List Coded) (bytes : List ℕ) (rows : List Row) → IsTable inputs bytes rows → table_of inputs bytes ≡ Ok rows
table_is_read inputs bytes rows is =
    ap (table_read inputs) is.records
    ∙ cond-true (is_table_header is.first) (rows_read inputs (drop 1 is.first) is.others) (Err BadHeader) is.header
    ∙ ap (if_read (λ columns. in_turn (table_row inputs columns) [] is.others))
    (turns_whole (column_of inputs) (λ code input. index_of code (codes_of inputs) ≡ Some input) AreDifferent (column_whole inputs) [] (drop 1 is.first)
    is.columns is.known is.once)
    ∙ turns_whole (table_row inputs is.columns) (IsTableRow inputs is.columns) (λ rs. length rs ≤ ROWS) (row_in_turn inputs is.columns) [] is.others rows
    is.in_order is.few
