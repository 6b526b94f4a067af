-- The rows of ranges, alone and in order.
use Rattle.std.proofs.Common.{◌≡◌, ◌≢◌, ℕ, ◌<◌, ◌≤◌, ◌+◌, List, [], ◌∷◌, ◌++◌, length, Option, Some, None, Result, Ok, Err, Bool, true, false, cond, leb, refl}
use Rattle.std.proofs.Common.{sym, subst, ap, ◌∙◌, append_assoc, length-append, arith}
use Rattle.std.specs.List.{AllByRecursion, AllZip}
use Rattle.std.proofs.lemmas.Bool.{cond-true, false_from_ne_true}
use Rattle.std.proofs.lemmas.List.{append-nil, map-append, length_push, map_push}
use Rattle.m_places.specs.declared.limits.TheConstants.{ROWS}
use Rattle.m_names.specs.Names.{index_of}
use Rattle.observables.specs.declared.inputs.Coded.{Coded}
use Rattle.observables.specs.Inputs.{codes_of}
use Rattle.definedness.specs.Facts.{Possible}
use Rattle.household.specs.declared.fault.HouseholdFault.{HouseholdFault}
use Rattle.household.specs.declared.fault.HouseholdFault.TheVariants.{BadHeader, NotOfType}
use Rattle.household.specs.InTurn.{in_turn, if_read}
use Rattle.household.specs.Records.{records_of}
use Rattle.household.specs.Household.{AreDifferent, input_type, is_input_among, line_behind}
use Rattle.household.specs.Refusals.{LacksHeader}
use Rattle.household.proofs.InputLemmas.{AllByRecursion-push, AreDifferent-push, code_known, if_ok, other_than_error, read_before, turns_keep}
use Rattle.household.proofs.LawLemmas.{no_room, room, turns_each, turns_stop, twice}
use Rattle.input_ranges.specs.Ranges.{fact_range, parsed_fact, facts_within, inputs_of, is_header, is_typed, new_range, range_of, parsed_range, ranges_of}
use Rattle.input_ranges.specs.Ranges.{ranges_read, parsed_ranges, row_of, typed_range}
use Rattle.input_ranges.specs.RangeFiles.{AreRanges, AreRefusedRanges, IsRangeRow, at_row, no_header}
use Rattle.input_ranges.specs.declared.ranges.InputRange.{InputRange}

-- ---- a row alone

-- the parts of a row that is read
stated_parts : (inputs : List Coded) (line : ℕ) (o : Option ℕ) (word least greatest : List ℕ) (range : InputRange)
    → parsed_range inputs line o word least greatest ≡ Ok range
    → (o ≡ Some range.input) × (parsed_fact (input_type inputs range.input) word least greatest ≡ Some range.fact)
    × (is_typed (input_type inputs range.input) range.fact ≡ true)
stated_parts inputs line None word least greatest range h = cc h
stated_parts inputs line (Some input) word least greatest range h = by (parsed_fact (input_type inputs input) word least greatest) refl h
  where
    by : (p : Option Possible) → parsed_fact (input_type inputs input) word least greatest ≡ p → fact_range line (input_type inputs input) input p ≡ Ok range
        → (Some input ≡ Some range.input) × (parsed_fact (input_type inputs range.input) word least greatest ≡ Some range.fact)
        × (is_typed (input_type inputs range.input) range.fact ≡ true)
    by None e g = cc g
    by (Some possible) e g =
        let parts = if_ok (is_typed (input_type inputs input) possible) (Ok (record { input = input; fact = possible })) (NotOfType line) range g in
        let own : InputRange = record { input = input; fact = possible } in
        let same : own ≡ range = cc parts.1 in
        subst (λ (r : InputRange). (Some input ≡ Some r.input) × (parsed_fact (input_type inputs r.input) word least greatest ≡ Some r.fact)
        × (is_typed (input_type inputs r.input) r.fact ≡ true)) same (refl, e, parts.0)

pub range_row : (inputs : List Coded) (line : ℕ) (fields : List (List ℕ)) (range : InputRange) → range_of inputs line fields ≡ Ok range
    → IsRangeRow inputs fields range
range_row inputs line [] range h = cc h
range_row inputs line (code ∷ []) range h = cc h
range_row inputs line (code ∷ word ∷ []) range h = cc h
range_row inputs line (code ∷ word ∷ least ∷ []) range h = cc h
range_row inputs line (code ∷ word ∷ least ∷ greatest ∷ []) range h =
    let parts = stated_parts inputs line (index_of code (codes_of inputs)) word least greatest range h in
    record { code = code; word = word; least = least; greatest = greatest; four = refl; known = parts.0; says = parts.1; typed = parts.2 }
range_row inputs line (code ∷ word ∷ least ∷ greatest ∷ more ∷ rest) range h = cc h

row_range : (inputs : List Coded) (line : ℕ) (fields : List (List ℕ)) (range : InputRange) → IsRangeRow inputs fields range
    → range_of inputs line fields ≡ Ok range
row_range inputs line fields range is =
    ap (range_of inputs line) is.four
    ∙ (λ i. parsed_range inputs line (is.known i) is.word is.least is.greatest)
    ∙ (λ i. fact_range line (input_type inputs range.input) range.input (is.says i))
    ∙ cond-true (is_typed (input_type inputs range.input) range.fact) (Ok range) (Err (NotOfType line)) is.typed

pub range_known : (inputs : List Coded) (line : ℕ) (fields : List (List ℕ)) (range : InputRange) → range_of inputs line fields ≡ Ok range
    → range.input < length inputs
range_known inputs line fields range h = let is = range_row inputs line fields range h in code_known inputs is.code range.input is.known

-- ---- a row after others

pub row_parts : (inputs : List Coded) (before : List InputRange) (fields : List (List ℕ)) (range : InputRange) → row_of inputs before fields ≡ Ok range
    → (leb ROWS (length before) ≡ false) × (range_of inputs (line_behind (length before)) fields ≡ Ok range)
    × (is_input_among range.input (inputs_of before) ≡ false)
row_parts inputs before fields range h =
    let line = line_behind (length before) in
    let a = other_than_error (leb ROWS (length before)) _ (if_read (new_range line before) (range_of inputs line fields)) range h in
    let b = read_before (new_range line before) (range_of inputs line fields) range a.1 in
    let d = other_than_error (is_input_among b.0.input (inputs_of before)) _ (Ok b.0) range b.2 in
    let same : b.0 ≡ range = cc d.1 in
    (a.0, b.1 ∙ ap Ok same, subst (λ (r : InputRange). is_input_among r.input (inputs_of before) ≡ false) same d.0)

pub ranges_known : (inputs : List Coded) (rows : List (List (List ℕ))) (ranges : List InputRange) → in_turn (row_of inputs) [] rows ≡ Ok ranges
    → AllByRecursion (λ range. range.input < length inputs) ranges
ranges_known inputs rows ranges h =
    turns_keep (row_of inputs) (AllByRecursion (λ range. range.input < length inputs))
    (λ before fields range q e. AllByRecursion-push (λ (r : InputRange). r.input < length inputs) before range q
    (range_known inputs _ fields range (row_parts inputs before fields range e).1))
    [] rows ranges tt h

ranges_once : (inputs : List Coded) (rows : List (List (List ℕ))) (ranges : List InputRange) → in_turn (row_of inputs) [] rows ≡ Ok ranges
    → AreDifferent (inputs_of ranges)
ranges_once inputs rows ranges h =
    turns_keep (row_of inputs) (λ before. AreDifferent (inputs_of before))
    (λ before fields range q e. subst AreDifferent (sym (map_push (λ (r : InputRange). r.input) before range))
    (AreDifferent-push (inputs_of before) range.input (row_parts inputs before fields range e).2 q))
    [] rows ranges tt h

few_ranges : (inputs : List Coded) (rows : List (List (List ℕ))) (ranges : List InputRange) → in_turn (row_of inputs) [] rows ≡ Ok ranges → length ranges ≤ ROWS
few_ranges inputs rows ranges h =
    turns_keep (row_of inputs) (λ before. length before ≤ ROWS)
    (λ before fields range q e. let free = room ROWS (length before) (row_parts inputs before fields range e).0 in omega (arith, length_push before range))
    [] rows ranges (omega arith) h

-- ---- a file

sound : (inputs : List Coded) (bytes : List ℕ) (given : List Possible) (records : List (List (List ℕ))) (ranges : List InputRange) → records_of bytes ≡ records
    → ranges_read inputs records ≡ Ok ranges
    → given ≡ facts_within ranges inputs → AreRanges inputs bytes given
sound inputs bytes given [] ranges e h stated = cc h
sound inputs bytes given (first ∷ rows) ranges e h stated =
    let read = if_ok (is_header first) (in_turn (row_of inputs) [] rows) BadHeader ranges h in
    let each = turns_each (row_of inputs) (IsRangeRow inputs) (λ before fields range f. range_row inputs (line_behind (length before)) fields range
    (row_parts inputs before fields range f).1) [] rows ranges read.1 in
    record {
      first = first;
      rows = rows;
      ranges = ranges;
      records = e;
      header = read.0;
      in_rows = subst (λ (rs : List InputRange). AllZip (IsRangeRow inputs) rows rs) (sym each.1) each.2;
      once = ranges_once inputs rows ranges read.1;
      few = few_ranges inputs rows ranges read.1;
      each = stated;
    }

pub read_ranges_are : (inputs : List Coded) (bytes : List ℕ) (given : List Possible) → ranges_of inputs bytes ≡ Ok given → AreRanges inputs bytes given
read_ranges_are inputs bytes given h =
    let read = read_before (λ ranges. Ok (facts_within ranges inputs)) (parsed_ranges inputs bytes) given h in
    let same : facts_within read.0 inputs ≡ given = cc read.2 in
    sound inputs bytes given (records_of bytes) read.0 refl read.1 (sym same)

row_whole : (inputs : List Coded) (before : List InputRange) (fields : List (List ℕ)) (range : InputRange) → IsRangeRow inputs fields range
    → length before < ROWS → is_input_among range.input (inputs_of before) ≡ false
    → row_of inputs before fields ≡ Ok range
row_whole inputs before fields range is l fresh =
    let free = no_room ROWS (length before) l in
    rw free (ap (if_read (new_range (line_behind (length before)) before)) (row_range inputs (line_behind (length before)) fields range is) ∙ rw fresh refl)

rows_whole : (inputs : List Coded) (before : List InputRange) (rows : List (List (List ℕ))) (ranges : List InputRange) → AllZip (IsRangeRow inputs) rows ranges
    → AreDifferent (inputs_of (before ++ ranges)) → length (before ++ ranges) ≤ ROWS
    → in_turn (row_of inputs) before rows ≡ Ok (before ++ ranges)
rows_whole inputs before [] [] z d l = ap Ok (sym (append-nil before))
rows_whole inputs before [] (range ∷ ranges) z d l = absurd z
rows_whole inputs before (fields ∷ rows) [] z d l = absurd z
rows_whole inputs before (fields ∷ rows) (range ∷ ranges) z d l =
    let different = subst AreDifferent (map-append (λ (r : InputRange). r.input) before (range ∷ ranges)) d in
    let fresh = false_from_ne_true (is_input_among range.input (inputs_of before)) (λ e. twice (inputs_of before) (inputs_of ranges) range.input e different) in
    let this = row_whole inputs before fields range z.0 (omega (arith, length-append before (range ∷ ranges))) fresh in
    ap (if_read (λ v. in_turn (row_of inputs) (before ++ v ∷ []) rows)) this
    ∙ rows_whole inputs (before ++ range ∷ []) rows ranges z.1
    (subst (λ (rs : List InputRange). AreDifferent (inputs_of rs)) (sym (append_assoc before (range ∷ []) ranges)) d)
    (subst (λ (rs : List InputRange). length rs ≤ ROWS) (sym (append_assoc before (range ∷ []) ranges)) l)
    ∙ ap Ok (append_assoc before (range ∷ []) ranges)

pub ranges_are_read : (inputs : List Coded) (bytes : List ℕ) (given : List Possible) → AreRanges inputs bytes given → ranges_of inputs bytes ≡ Ok given
ranges_are_read inputs bytes given is =
    let header = is.header in
    let read : parsed_ranges inputs bytes ≡ Ok is.ranges = ap (ranges_read inputs) is.records
    ∙ rw header (rows_whole inputs [] is.rows is.ranges is.in_rows is.once is.few) in
    ap (if_read (λ ranges. Ok (facts_within ranges inputs))) read ∙ ap Ok (sym is.each)

-- ---- faults

refused : (inputs : List Coded) (bytes : List ℕ) (records : List (List (List ℕ))) (fault : HouseholdFault) → records_of bytes ≡ records
    → ranges_read inputs records ≡ Err fault → AreRefusedRanges inputs bytes fault
refused inputs bytes [] fault e h =
    let same : BadHeader ≡ fault = cc h in
    subst (AreRefusedRanges inputs bytes) same (no_header (subst (LacksHeader is_header) (sym e) tt))
refused inputs bytes (first ∷ rows) fault e h = by (is_header first) refl h
  where
    by : (b : Bool) → is_header first ≡ b → cond b (in_turn (row_of inputs) [] rows) (Err BadHeader) ≡ Err fault → AreRefusedRanges inputs bytes fault
    by true header g = at_row e header (turns_stop (row_of inputs) [] rows fault g)
    by false header g =
        let same : BadHeader ≡ fault = cc g in
        subst (AreRefusedRanges inputs bytes) same (no_header (subst (LacksHeader is_header) (sym e) header))

pub ranges_fault_is : (inputs : List Coded) (bytes : List ℕ) (fault : HouseholdFault) → ranges_of inputs bytes ≡ Err fault → AreRefusedRanges inputs bytes fault
ranges_fault_is inputs bytes fault h = by (parsed_ranges inputs bytes) refl h
  where
    by : (stated : Result (List InputRange) HouseholdFault) → parsed_ranges inputs bytes ≡ stated
        → if_read (λ ranges. Ok (facts_within ranges inputs)) stated ≡ Err fault → AreRefusedRanges inputs bytes fault
    by (Ok ranges) e g = cc g
    by (Err why) e g = refused inputs bytes (records_of bytes) fault refl (e ∙ (let same : why ≡ fault = cc g in ap Err same))
