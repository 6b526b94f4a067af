-- The laws of households and tables.
use Rattle.std.proofs.Common.{◌≡◌, ◌≢◌, ℕ, ℤ, ◌<◌, ◌≤◌, List, [], ◌∷◌, ◌++◌, drop, length, Option, Some, Result, Ok, Err, Bool, true, false, cond, eqb, leb}
use Rattle.std.proofs.Common.{refl, sym, subst, ap, ◌∙◌, append_assoc, length-append, arith, inl, inr, None}
use Rattle.std.specs.List.{AllByRecursion, AllZip}
use Rattle.std.proofs.lemmas.Bool.{cond-true, eqb-true, false_from_ne_true, or_cases}
use Rattle.std.proofs.lemmas.Bool.Decides.{nat_tests}
use Rattle.std.proofs.lemmas.List.{append-nil, map-append, length_push}
use Rattle.m_places.specs.declared.limits.TheConstants.{ROWS}
use Rattle.m_fixed.specs.declared.read.AmountFault.{AmountFault}
use Rattle.m_fixed.specs.Text.{text_value, amount_read}
use Rattle.m_names.specs.Names.{index_of}
use Rattle.observables.specs.declared.inputs.Coded.{Coded}
use Rattle.observables.specs.Inputs.{codes_of}
use Rattle.household.specs.declared.fault.HouseholdFault.{HouseholdFault}
use Rattle.household.specs.declared.fault.HouseholdFault.TheVariants.{BadHeader, NotOfType}
use Rattle.household.specs.InTurn.{in_turn, if_read, IsFirstFault}
use Rattle.household.specs.Records.{records_of}
use Rattle.household.specs.Household.{AreDifferent, IsHousehold, IsRow, fitting_pair, household_of, household_read, inputs_of, is_fitting, is_input_among}
use Rattle.household.specs.Household.{is_header, line_behind, new_pair, pair_of, parsed_pair, row_of}
use Rattle.household.specs.Table.{column_of, is_table_header, rows_read, table_of, table_read, table_row}
use Rattle.household.specs.Refusals.{LacksHeader, IsRefusedHousehold, IsRefusedTable, no_header, at_row, no_table_header, at_column, at_table_row}
use Rattle.household.proofs.InputLemmas.{household_inputs, if_ok, read_before, row_parts, turns_keep, two_parts}

-- each element is read as its value
pub turns_each : {A B F : Type 0} (read : List B → A → Result B F) (P : A → B → Type 0)
    → ((before : List B) (thing : A) (value : B) → read before thing ≡ Ok value → P thing value)
    → (before : List B) (things : List A) (values : List B) → in_turn read before things ≡ Ok values → (more : List B) × (values ≡ before ++ more)
    × AllZip P things more
turns_each read P says before [] values h = let same : before ≡ values = cc in ([], sym (append-nil before ∙ same), tt)
turns_each read P says before (thing ∷ things) values h =
    let r = read_before (λ value. in_turn read (before ++ value ∷ []) things) (read before thing) values h in
    let m = turns_each read P says (before ++ r.0 ∷ []) things values r.2 in
    (r.0 ∷ m.0, m.1 ∙ append_assoc before (r.0 ∷ []) m.0, (says before thing r.0 r.1, m.2))

-- elements with their own values are read in order after any others
pub turns_whole : {A B F : Type 0} (read : List B → A → Result B F) (P : A → B → Type 0) (Q : List B → Type 0)
    → ((before : List B) (thing : A) (value : B) (more : List B) → P thing value → Q (before ++ value ∷ more) → read before thing ≡ Ok value)
    → (before : List B) (things : List A) (values : List B) → AllZip P things values → Q (before ++ values) → in_turn read before things ≡ Ok (before ++ values)
turns_whole read P Q says before [] [] z q = ap Ok (sym (append-nil before))
turns_whole read P Q says before [] (value ∷ values) z q = absurd z
turns_whole read P Q says before (thing ∷ things) [] z q = absurd z
turns_whole read P Q says before (thing ∷ things) (value ∷ values) z q =
    ap (if_read (λ v. in_turn read (before ++ v ∷ []) things)) (says before thing value values z.0 q)
    ∙ turns_whole read P Q says (before ++ value ∷ []) things values z.1 (subst Q (sym (append_assoc before (value ∷ []) values)) q)
    ∙ ap Ok (append_assoc before (value ∷ []) values)

-- the first faulty element
stopped : {B C F : Type 0} (next : B → Result C F) (r : Result B F) (fault : F) {P : Type 0} → if_read next r ≡ Err fault → (r ≡ Err fault → P)
    → ((b : B) → r ≡ Ok b → next b ≡ Err fault → P) → P
stopped next (Ok b) fault h bad good = good b refl h
stopped next (Err e) fault h bad good = let same : e ≡ fault = cc h in bad (ap Err same)

pub turns_stop : {A B F : Type 0} (read : List B → A → Result B F) (before : List B) (things : List A) (fault : F) → in_turn read before things ≡ Err fault
    → IsFirstFault read before things fault
turns_stop read before [] fault h = cc h
turns_stop {A} {B} {F} read before (thing ∷ things) fault h =
    stopped (λ value. in_turn read (before ++ value ∷ []) things) (read before thing) fault h
    (λ bad. record { front = []; thing = thing; behind = things; values = before; split = refl; good = refl; bad = bad })
    (λ value good rest.
    let f = turns_stop read (before ++ value ∷ []) things fault rest in
    record {
      front = thing ∷ f.front;
      thing = f.thing;
      behind = f.behind;
      values = f.values;
      split = ap (λ (ts : List A). thing ∷ ts) f.split;
      good = ap (if_read (λ v. in_turn read (before ++ v ∷ []) f.front)) good ∙ f.good;
      bad = f.bad;
    })

-- a row alone
stated_parts : (line : ℕ) (o : Option ℕ) (r : Result ℤ AmountFault) (pair : ℕ × ℤ) → parsed_pair line o r ≡ Ok pair → (o ≡ Some pair.0) × (r ≡ Ok pair.1)
stated_parts line None r pair h = cc h
stated_parts line (Some i) (Err why) pair h = cc h
stated_parts line (Some i) (Ok z) pair h = let same : (i, z) ≡ pair = cc h in (ap (λ (p : ℕ × ℤ). Some p.0) same, ap (λ (p : ℕ × ℤ). Ok p.1) same)

pair_row : (inputs : List Coded) (line : ℕ) (fields : List (List ℕ)) (pair : ℕ × ℤ) → pair_of inputs line fields ≡ Ok pair → IsRow inputs fields pair
pair_row inputs line [] pair h = cc h
pair_row inputs line (code ∷ []) pair h = cc h
pair_row inputs line (code ∷ amount ∷ []) pair h =
    let both = two_parts inputs line code amount pair h in
    let parts = stated_parts line (index_of code (codes_of inputs)) (amount_read (text_value amount)) pair both.0 in
    record { code = code; amount = amount; two = refl; known = parts.0; spelled = parts.1; fits = both.1 }
pair_row inputs line (code ∷ amount ∷ more ∷ rest) pair h = cc h

row_pair : (inputs : List Coded) (line : ℕ) (fields : List (List ℕ)) (pair : ℕ × ℤ) → IsRow inputs fields pair → pair_of inputs line fields ≡ Ok pair
row_pair inputs line fields pair is =
    ap (pair_of inputs line) is.two ∙ (λ i. if_read (fitting_pair inputs line) (parsed_pair line (is.known i) (is.spelled i)))
    ∙ cond-true (is_fitting inputs pair) (Ok pair) (Err (NotOfType line)) is.fits

-- a conditional between a result and a fault
if_err : {T E : Type 0} (b : Bool) (r : Result T E) (e fault : E) {P : Type 0} → cond b r (Err e) ≡ Err fault → (b ≡ true → r ≡ Err fault → P)
    → (b ≡ false → e ≡ fault → P) → P
if_err true r e fault h held failed = held refl h
if_err false r e fault h held failed = let same : e ≡ fault = cc h in failed refl same

-- below the limit there is room for one more
pub room : (n m : ℕ) → leb n m ≡ false → m < n
room n m e = grind (arith, nat_tests)

pub no_room : (n m : ℕ) → m < n → leb n m ≡ false
no_room n m l = grind (arith, nat_tests)

-- if each value is read only below a limit, their number is within it
pub turns_few : {A B F : Type 0} (read : List B → A → Result B F) (most : ℕ) → ((before : List B) (thing : A) (value : B) → read before thing ≡ Ok value
    → leb most (length before) ≡ false)
    → (things : List A) (values : List B) → in_turn read [] things ≡ Ok values → length values ≤ most
turns_few read most free things values h =
    turns_keep read (λ before. length before ≤ most) (λ before thing value q e. let less = room most (length before) (free before thing value e) in omega
    (arith, less, length_push before value)) [] things values (omega arith) h

-- if the total is within the limit, there is room after each prefix
pub fewer : {X : Type 0} (most : ℕ) (xs ys : List X) (x : X) → length (xs ++ x ∷ ys) ≤ most → leb most (length xs) ≡ false
fewer most xs ys x few = no_room most (length xs) (let long = length-append xs (x ∷ ys) in omega (arith, long, few))

-- bytes that are read as pairs are a household
household_sound : (inputs : List Coded) (bytes : List ℕ) (records : List (List (List ℕ))) (pairs : List (ℕ × ℤ)) → records_of bytes ≡ records
    → household_read inputs records ≡ Ok pairs → IsHousehold inputs bytes pairs
household_sound inputs bytes [] pairs e h = cc h
household_sound inputs bytes (first ∷ rows) pairs e h =
    let read = if_ok (is_header first) (in_turn (row_of inputs) [] rows) BadHeader pairs h in
    let each = turns_each (row_of inputs) (IsRow inputs) (λ before fields pair f. pair_row inputs (line_behind (length before)) fields pair
    (row_parts inputs before fields pair f).1) [] rows pairs read.1 in
    record {
      first = first;
      rows = rows;
      records = e;
      header = read.0;
      in_order = subst (λ (ps : List (ℕ × ℤ)). AllZip (IsRow inputs) rows ps) (sym each.1) each.2;
      once = (household_inputs inputs rows pairs read.1).once;
      few = turns_few (row_of inputs) ROWS (λ before fields pair e. (row_parts inputs before fields pair e).0) rows pairs read.1;
    }

pub read_household_is : (inputs : List Coded) (bytes : List ℕ) (pairs : List (ℕ × ℤ)) → household_of inputs bytes ≡ Ok pairs → IsHousehold inputs bytes pairs
read_household_is inputs bytes pairs h = household_sound inputs bytes (records_of bytes) pairs refl h

-- a number that occurs again isn't distinct
pub inside : {X : Type 0} (P : X → Type 0) (xs ys : List X) (x : X) → AllByRecursion P (xs ++ x ∷ ys) → P x
inside P [] ys x h = h.0
inside P (y ∷ xs) ys x h = inside P xs ys x h.1

pub twice : (ms ns : List ℕ) (n : ℕ) → is_input_among n ms ≡ true → AreDifferent (ms ++ n ∷ ns) → ⊥
twice [] ns n e h = cc e
twice (m ∷ ms) ns n e h =
    elim (or_cases (eqb m n) (is_input_among n ms) e) [
      | inl here ↦ inside (λ other. other ≢ m) ms ns n h.0 (sym (eqb-true m n here))
      | inr later ↦ twice ms ns n later h.1
    ]

-- a row that is a pair alone is read as that pair in order
row_whole : (inputs : List Coded) (before : List (ℕ × ℤ)) (fields : List (List ℕ)) (pair : ℕ × ℤ) (more : List (ℕ × ℤ)) → IsRow inputs fields pair
    → AreDifferent (inputs_of (before ++ pair ∷ more)) × (length (before ++ pair ∷ more) ≤ ROWS) → row_of inputs before fields ≡ Ok pair
row_whole inputs before fields pair more is all =
    let free = fewer ROWS before more pair all.1 in
    let different = subst AreDifferent (map-append (λ (p : ℕ × ℤ). p.0) before (pair ∷ more)) all.0 in
    let fresh = false_from_ne_true (is_input_among pair.0 (inputs_of before)) (λ e. twice (inputs_of before) (inputs_of more) pair.0 e different) in
    rw free (ap (if_read (new_pair (line_behind (length before)) before)) (row_pair inputs (line_behind (length before)) fields pair is) ∙ rw fresh refl)

pub household_is_read : (inputs : List Coded) (bytes : List ℕ) (pairs : List (ℕ × ℤ)) → IsHousehold inputs bytes pairs → household_of inputs bytes ≡ Ok pairs
household_is_read inputs bytes pairs is =
    let header = is.header in
    ap (household_read inputs) is.records
    ∙ rw header (turns_whole (row_of inputs) (IsRow inputs) (λ ps. AreDifferent (inputs_of ps) × (length ps ≤ ROWS)) (row_whole inputs) [] is.rows pairs
    is.in_order (is.once, is.few))

-- why a household is rejected
household_refused : (inputs : List Coded) (bytes : List ℕ) (records : List (List (List ℕ))) (fault : HouseholdFault) → records_of bytes ≡ records
    → household_read inputs records ≡ Err fault → IsRefusedHousehold inputs bytes fault
household_refused inputs bytes [] fault e h =
    let same : BadHeader ≡ fault = cc h in
    subst (IsRefusedHousehold inputs bytes) same (no_header (subst (LacksHeader is_header) (sym e) tt))
household_refused inputs bytes (first ∷ rows) fault e h =
    if_err (is_header first) (in_turn (row_of inputs) [] rows) BadHeader fault h
    (λ header bad. at_row e header (turns_stop (row_of inputs) [] rows fault bad))
    (λ other same. subst (IsRefusedHousehold inputs bytes) same (no_header (subst (LacksHeader is_header) (sym e) other)))

pub household_fault_is : (inputs : List Coded) (bytes : List ℕ) (fault : HouseholdFault) → household_of inputs bytes ≡ Err fault
    → IsRefusedHousehold inputs bytes fault
household_fault_is inputs bytes fault h = household_refused inputs bytes (records_of bytes) fault refl h

-- why a table is rejected
table_refused : (inputs : List Coded) (bytes : List ℕ) (records : List (List (List ℕ))) (fault : HouseholdFault) → records_of bytes ≡ records
    → table_read inputs records ≡ Err fault → IsRefusedTable inputs bytes fault
table_refused inputs bytes [] fault e h =
    let same : BadHeader ≡ fault = cc h in
    subst (IsRefusedTable inputs bytes) same (no_table_header (subst (LacksHeader is_table_header) (sym e) tt))
table_refused inputs bytes (first ∷ rows) fault e h =
    if_err (is_table_header first) (rows_read inputs (drop 1 first) rows) BadHeader fault h
    (λ header bad. stopped (λ columns. in_turn (table_row inputs columns) [] rows) (in_turn (column_of inputs) [] (drop 1 first)) fault bad
    (λ column. at_column e header (turns_stop (column_of inputs) [] (drop 1 first) fault column))
    (λ columns good row. at_table_row e header good (turns_stop (table_row inputs columns) [] rows fault row)))
    (λ other same. subst (IsRefusedTable inputs bytes) same (no_table_header (subst (LacksHeader is_table_header) (sym e) other)))

pub table_fault_is : (inputs : List Coded) (bytes : List ℕ) (fault : HouseholdFault) → table_of inputs bytes ≡ Err fault → IsRefusedTable inputs bytes fault
table_fault_is inputs bytes fault h = table_refused inputs bytes (records_of bytes) fault refl h
