-- Cases compared by code, one after another, are those compared by its scheme.
use Rattle.std.proofs.Common.{◌≡◌, ℕ, zero, suc, ◌+◌, ◌-◌, ◌*◌, ◌^◌, ◌<◌, ◌≤◌, length, get_or, drop, map, List, [], ◌∷◌, ◌++◌, Option, Some, Result, Ok, Err}
use Rattle.std.proofs.Common.{true, false, Bool, refl, sym, ◌∙◌, ap, subst, arith, inl, inr}
use Rattle.std.specs.Prelude.{IfOk, if◌then◌else◌}
use Rattle.std.specs.Io.KnownBytes.{append_known}
use Rattle.m_ports.proofs.SinkLemmas.{append_known-append}
use Rattle.std.specs.List.{AllByRecursion}
use Rattle.std.proofs.lemmas.List.{drop_more, length-drop, length-map}
use Rattle.m_fixed.specs.declared.amount.Value.{Value}
use Rattle.observables.specs.Answers.{observation}
use Rattle.observables.specs.Inputs.{AreValuesOf}
use Rattle.observables.specs.Outputs.{notes_of}
use Rattle.observables.specs.declared.answer.Answer.{Answer}
use Rattle.observables.specs.declared.face.Face.{Face}
use Rattle.household.specs.Household.{AreOfTypes, values_of}
use Rattle.household.specs.declared.table.Row.{Row}
use Rattle.household.proofs.GivenLemmas.{pairs_give}
use Rattle.reg_machine.specs.Machine.{machine_run}
use Rattle.code_file.specs.declared.loaded.Loaded.{Loaded}
use Rattle.m_batch.specs.Batch.{answers_of, row_answer}
use Rattle.m_batch.specs.Printing.{MayPrintEach, WritesRows, counted_to_end, printed_count, printed_text}
use Rattle.m_batch.specs.declared.fault.PrintFault.{PrintFault}
use Rattle.m_batch.specs.declared.fault.PrintFault.TheVariants.{Memory, Failed}
use Rattle.m_cases.specs.Cases.{AreExpected, numbered, numbered_cases}
use Rattle.m_cases.specs.Mismatches.{answer_values, count_line, got_of, is_met, mismatch_count, mismatch_lines, named_values, output_names, observation_values}
use Rattle.m_cases.specs.declared.cases.Cases.{Cases}
use Rattle.m_cases.specs.declared.expected.Expected.{Expected}
use Rattle.m_cases.proofs.Numbered.{count_numbered, lines_numbered}
use Rattle.m_cases.proofs.ToldLemmas.{reported_is}
use Rattle.command_plans.specs.Views.{OutputView, output_view}
use Rattle.command_plans.specs.Status.{IsOfEnd}
use Rattle.command_plans.specs.declared.status.Status.{Status}
use Rattle.code_answers.specs.Parts.{IsWrittenInParts, broke_off}
use Rattle.code_answers.specs.Parts as parts
use Rattle.code_answers.specs.Cases.{cases_count, cases_lines, cases_text, count_status}
use Rattle.code_answers.specs.Shown.{Shows}
use Rattle.code_answers.specs.Schemes.{Scheme, observation_for}
use Rattle.code_answers.specs.inner.Printers.{MayBeCompared, case_count, case_text, compared_status, mismatches_by, misses_by}
use Rattle.code_answers.proofs.CodeLemmas.{agrees, code_each}

-- ---- the expectations of the row at a place

-- the first of the remaining elements
at_place : {X : Type 0} (all : List X) (at : ℕ) (x : X) (left : List X) (d : X) → drop at all ≡ x ∷ left → (at < length all) × (get_or all at d ≡ x)
    × (drop (at + 1) all ≡ left)
at_place all at x left d is =
    let long = length-drop at all in
    let some : length (drop at all) ≡ suc (length left) = ap length is in
    let inside : at < length all = omega (arith, long, some) in
    let both : get_or all at d ∷ drop (at + 1) all ≡ x ∷ left = sym (drop_more all at d inside) ∙ is in
    (inside, (cc both), (cc both))

-- ---- bounds

one_few : (met : Bool) (count many : ℕ) → count ≤ many → (if met then 0 else 1) + count ≤ suc many
one_few true count many h = omega (arith, h)
one_few false count many h = omega (arith, h)

mismatches_few : (vs : Option (List Value)) (es : List (ℕ × Expected)) → mismatch_count vs es ≤ length es
mismatches_few vs [] = omega arith
mismatches_few vs (e ∷ es) = one_few (is_met e.1 (got_of vs e.0)) (mismatch_count vs es) (length es) (mismatches_few vs es)

pub misses_few : (face : Face) (all : List (List (ℕ × Expected))) (at : ℕ) (rows : List Row) (answers : List Answer)
    → MayPrintEach (MayBeCompared face all) at rows answers
    → printed_count (misses_by face all) at rows answers ≤ length rows * 4_294_967_296
misses_few face all at [] answers may = omega arith
misses_few face all at (row ∷ rows) [] may = omega arith
misses_few face all at (row ∷ rows) (answer ∷ answers) may =
    let one = mismatches_few (answer_values answer) (get_or all at []) in
    let few = may.0.expected_is.few in
    let more = misses_few face all (at + 1) rows answers may.1 in
    omega (arith, one, few, more)

-- rows by code can be compared
pub cases_may : (loaded : Loaded) (all : List (List (ℕ × Expected))) (at : ℕ) (rows : List Row) (expected : List (List (ℕ × Expected))) → drop at all ≡ expected
    → length expected ≡ length rows → AllByRecursion (AreExpected (length loaded.face.outputs)) expected
    → MayPrintEach (MayBeCompared loaded.face all) at rows (answers_of loaded.code rows)
cases_may loaded all at [] expected is many each = tt
cases_may loaded all at (row ∷ rows) [] is many each = absurd (omega (arith, many))
cases_may loaded all at (row ∷ rows) (es ∷ expected) is many each =
    let here = at_place all at es expected [] is in (
      record {
        there = here.0;
        expected_is = subst (AreExpected (length loaded.face.outputs)) (sym here.1) each.0;
        values = code_each loaded.code loaded.face (agrees loaded.code loaded.face loaded.agree) (values_of row.household.pairs loaded.code.counts.inputs);
      },
      cases_may loaded all (at + 1) rows expected here.2 (omega (arith, many)) each.1,
    )

-- ---- observations of the scheme

-- the values of a row by code are those that its scheme observes
row_named : (scheme : Scheme) (loaded : Loaded) (row : Row) → Shows scheme loaded.face (machine_run loaded.code)
    → loaded.code.counts.inputs ≡ length scheme.inputs
    → AreValuesOf scheme.inputs (values_of row.household.pairs (length scheme.inputs))
    → named_values (length (notes_of loaded.face.outputs)) (answer_values (row_answer loaded.code row)) ≡ observation_values
    (observation_for scheme row.household.pairs)
row_named scheme loaded row shown many given =
    reported_is loaded.face.labels (notes_of loaded.face.outputs) (row_answer loaded.code row) (observation_for scheme row.household.pairs)
    (ap (λ n. observation loaded.face.labels (notes_of loaded.face.outputs) (machine_run loaded.code (values_of row.household.pairs n))) many
    ∙ shown.answers (values_of row.household.pairs (length scheme.inputs)) given)

-- the rows give values of the inputs' types
abbrev pub AreGiven : Scheme → List Row → Type 0
AreGiven scheme rows = AllByRecursion (λ row. AreValuesOf scheme.inputs (values_of row.household.pairs (length scheme.inputs))) rows

-- the expectations of rows, by the numbers of the face
abbrev by_face : Loaded → List (List (ℕ × Expected)) → List (List (ℕ × Expected))
by_face loaded expected = map (numbered (length (notes_of loaded.face.outputs))) expected

lines_reported : (scheme : Scheme) (loaded : Loaded) (all : List (List (ℕ × Expected))) (at : ℕ) (rows : List Row) (expected : List (List (ℕ × Expected)))
    → Shows scheme loaded.face (machine_run loaded.code)
    → loaded.code.counts.inputs ≡ length scheme.inputs → AreGiven scheme rows → drop at all ≡ by_face loaded expected → length expected ≡ length rows
    → printed_text (mismatches_by loaded.face all) at rows (answers_of loaded.code rows) ≡ cases_lines scheme rows expected
lines_reported scheme loaded all at [] expected shown many given is long = refl
lines_reported scheme loaded all at (row ∷ rows) [] shown many given is long = absurd (omega (arith, long))
lines_reported scheme loaded all at (row ∷ rows) (es ∷ expected) shown many given is long =
    let face = loaded.face in
    let vs = answer_values (row_answer loaded.code row) in
    let here = at_place all at (numbered (length (notes_of face.outputs)) es) (by_face loaded expected) [] is in
    let line = ap (mismatch_lines (output_names face.outputs) row.label vs) here.1 ∙ lines_numbered face.labels face.outputs row.label vs es face.notes
    ∙ (λ i. mismatch_lines (shown.names i) row.label (row_named scheme loaded row shown many given.0 i) es) in
    let rest = lines_reported scheme loaded all (at + 1) rows expected shown many given.1 here.2 (omega (arith, long)) in
    λ i. line i ++ rest i

count_reported : (scheme : Scheme) (loaded : Loaded) (all : List (List (ℕ × Expected))) (at : ℕ) (rows : List Row) (expected : List (List (ℕ × Expected)))
    → Shows scheme loaded.face (machine_run loaded.code)
    → loaded.code.counts.inputs ≡ length scheme.inputs → AreGiven scheme rows → drop at all ≡ by_face loaded expected → length expected ≡ length rows
    → printed_count (misses_by loaded.face all) at rows (answers_of loaded.code rows) ≡ cases_count scheme rows expected
count_reported scheme loaded all at [] expected shown many given is long = refl
count_reported scheme loaded all at (row ∷ rows) [] shown many given is long = absurd (omega (arith, long))
count_reported scheme loaded all at (row ∷ rows) (es ∷ expected) shown many given is long =
    let face = loaded.face in
    let vs = answer_values (row_answer loaded.code row) in
    let here = at_place all at (numbered (length (notes_of face.outputs)) es) (by_face loaded expected) [] is in
    let one = ap (mismatch_count vs) here.1 ∙ count_numbered (length (notes_of face.outputs)) vs es
    ∙ ap (λ reported. mismatch_count reported es) (row_named scheme loaded row shown many given.0) in
    let rest = count_reported scheme loaded all (at + 1) rows expected shown many given.1 here.2 (omega (arith, long)) in
    λ i. one i + rest i

-- ---- from what was found and written to the command's ending

count_ends : (count : ℕ) → IsOfEnd (count_status count)
count_ends zero = tt
count_ends (suc count) = tt

pub cases_written : {S : Type 0} (written : S → Option (List ℕ)) (faults : S → ℕ) (old new : S) (result : Result ℕ PrintFault) (text : List ℕ) (count : ℕ)
    (Replies : List ℕ → Status → Type 0) (status : Status)
    → Replies text (count_status count) → ((n : ℕ) → result ≡ Ok n → n ≡ count) → status ≡ compared_status result
    → WritesRows written faults old new result text
    → IsWrittenInParts Replies (output_view written faults old) (output_view written faults new) status
cases_written written faults old new (Ok n) text count Replies status replied counted is wrote =
    parts.printed text (count_status count) replied (count_ends count) (inl ((wrote.all, wrote.counted), is ∙ ap count_status (counted n refl)))
cases_written written faults old new (Err Memory) text count Replies status replied counted is wrote = broke_off text (count_status count) replied wrote.prefix
    wrote.counted is
cases_written written faults old new (Err Failed) text count Replies status replied counted is wrote =
    parts.printed text (count_status count) replied (count_ends count) (inr ((wrote.prefix, wrote.counted), is))

-- pairs of the inputs' types give such values
rows_given : (scheme : Scheme) (rows : List Row) → AllByRecursion (λ row. AreOfTypes scheme.inputs row.household.pairs) rows → AreGiven scheme rows
rows_given scheme [] all = tt
rows_given scheme (row ∷ rows) all = (pairs_give scheme.inputs row.household.pairs all.0, rows_given scheme rows all.1)

-- The cases that were read are these, by the numbers of the face.
pub record AreRead (scheme : Scheme) (loaded : Loaded) (cases given : Cases) : Type 0 where
  pub same : numbered_cases (length (notes_of loaded.face.outputs)) cases ≡ given
  pub shown : Shows scheme loaded.face (machine_run loaded.code)
  pub inputs : loaded.code.counts.inputs ≡ length scheme.inputs
  pub types : AllByRecursion (λ row. AreOfTypes loaded.face.inputs row.household.pairs) given.rows
  pub many : length given.expected ≡ length given.rows

given_rows : (scheme : Scheme) (loaded : Loaded) (cases given : Cases) → AreRead scheme loaded cases given → AreGiven scheme cases.rows
given_rows scheme loaded cases given read =
    rows_given scheme cases.rows
    (subst (λ rows. AllByRecursion (λ row. AreOfTypes scheme.inputs row.household.pairs) rows) (sym (ap (λ (g : Cases). g.rows) read.same))
    (subst (λ inputs. AllByRecursion (λ row. AreOfTypes inputs row.household.pairs) given.rows) read.shown.inputs read.types))

as_many : (notes : ℕ) (cases given : Cases) → numbered_cases notes cases ≡ given → length given.expected ≡ length given.rows
    → length cases.expected ≡ length cases.rows
as_many notes cases given same many =
    sym (length-map cases.expected (numbered notes)) ∙ ap (λ (g : Cases). length g.expected) same ∙ many ∙ ap (λ (g : Cases). length g.rows) (sym same)

-- the text by code is that by its scheme
pub text_reported : (scheme : Scheme) (loaded : Loaded) (cases given : Cases) → AreRead scheme loaded cases given
    → case_text loaded given.rows given.expected ≡ cases_text scheme cases
text_reported scheme loaded cases given read =
    let rows = given_rows scheme loaded cases given read in
    let long = as_many _ cases given read.same read.many in
    ap (λ (g : Cases). case_text loaded g.rows g.expected) (sym read.same)
    ∙ (λ i. lines_reported scheme loaded (by_face loaded cases.expected) 0 cases.rows cases.expected read.shown read.inputs rows refl long i
    ++ count_line (length cases.rows) (count_reported scheme loaded (by_face loaded cases.expected) 0 cases.rows cases.expected read.shown read.inputs rows refl
    long i))

-- the count by code is that by its scheme
pub counted_reported : (scheme : Scheme) (loaded : Loaded) (cases given : Cases) → AreRead scheme loaded cases given
    → case_count loaded given.rows given.expected ≡ cases_count scheme cases.rows cases.expected
counted_reported scheme loaded cases given read =
    ap (λ (g : Cases). case_count loaded g.rows g.expected) (sym read.same)
    ∙ count_reported scheme loaded (by_face loaded cases.expected) 0 cases.rows cases.expected read.shown read.inputs
    (given_rows scheme loaded cases given read) refl (as_many _ cases given read.same read.many)

-- ---- texts in parts

-- one text was written, and then another
pub two_written : {S U : Type 0} (written : S → Option (List ℕ)) (faults : S → ℕ) (old now new : S) (one other : List ℕ) (value : U)
    → written now ≡ append_known (written old) one → faults now ≡ faults old
    → written new ≡ append_known (written now) other → faults new ≡ faults now → WritesRows written faults old new (Ok value) (one ++ other)
two_written written faults old now new one other value first calm second still = record {
  all = second ∙ ap (λ known. append_known known other) first ∙ append_known-append (written old) one other;
  prefix = tt;
  counted = still ∙ calm;
}

-- the count that a call gave
pub counted_is : (result : Result ℕ PrintFault) (n count : ℕ) → IfOk result (λ m. m ≡ count) → result ≡ Ok n → n ≡ count
counted_is (Ok m) n count is e = let same : m ≡ n = cc e in sym same ∙ is
counted_is (Err fault) n count is e = absurd (cc e)

-- a count that saturates at 64 bits is exact if it is below that
pub counted_whole : (result : Result ℕ PrintFault) (count : ℕ) → count < 2 ^ 64 → IfOk result (λ n. n ≡ counted_to_end count) → IfOk result (λ n. n ≡ count)
counted_whole (Ok n) count few is = omega (arith, few, is)
counted_whole (Err fault) count few is = tt
