use Rattle.std.proofs.Common.{arith, drop, length, List, ℕ, ◌≡◌, ◌+◌, ◌<◌, ◌^◌, ◌≤◌}
use Rattle.std.specs.List.{AllByRecursion}
use Rattle.csv.specs.Records.{fields_of}
use Rattle.observables.specs.declared.face.FaceOutput.{FaceOutput}
use Rattle.observables.specs.Outputs.{names_of, notes_of}
use Rattle.household.specs.Reader.{left_of}
use Rattle.m_cases.specs.declared.cases.Case.{Case}
use Rattle.m_cases.specs.Cases.{AreExpected, cases_made}
use Rattle.m_cases.proofs.Named.{counted}
use Rattle.m_cases.proofs.Numbered.{as_many_numbered, each_numbered, small_cases}
use Rattle.m_cases.proofs.CaseLemmas.{cases_good, rows_known, rows_types, each_expected, as_many, few_rows}
use Rattle.m_cases.proofs.cases.read_cases.Goals as goal

few_names : (outputs : List FaceOutput) → length outputs < 2 ^ 32 → length (names_of outputs) < 2 ^ 32
few_names outputs h = let all = counted outputs in omega (arith, h, all)

few_numbers : (outputs : List FaceOutput) (notes : ℕ) → notes ≡ length (notes_of outputs) → length outputs < 2 ^ 32 → notes + length (names_of outputs) < 2 ^ 32
few_numbers outputs notes n h = let all = counted outputs in omega (arith, n, h, all)

all_numbers : (outputs : List FaceOutput) (notes : ℕ) → notes ≡ length (notes_of outputs) → notes + length (names_of outputs) ≤ length outputs
all_numbers outputs notes n = let all = counted outputs in omega (arith, n, all)

pub returns-clause-inputs : goal.returns-clause-inputs
returns-clause-inputs c =
    rw c.in_ok-apart.ensures (rows_known c.args.codes.now _ c.in_ok-cases.cases.items
    (cases_good c.args.codes.now (names_of c.args.face.now.outputs) (drop 1 (fields_of c.next_record.new.row)) c.in_ok-columns.columns.items
    (left_of c.next_record.new.records) c.in_ok-cases.cases.items
    (few_names c.args.face.now.outputs c.requires) c.in_ok-columns.ensures (rw c.deref.ensures.value at c.in_ok-cases.ensures)))

pub returns-clause-amounts : goal.returns-clause-amounts
returns-clause-amounts c =
    rw c.in_ok-apart.ensures (rows_types c.args.codes.now _ c.in_ok-cases.cases.items
    (cases_good c.args.codes.now (names_of c.args.face.now.outputs) (drop 1 (fields_of c.next_record.new.row)) c.in_ok-columns.columns.items
    (left_of c.next_record.new.records) c.in_ok-cases.cases.items
    (few_names c.args.face.now.outputs c.requires) c.in_ok-columns.ensures (rw c.deref.ensures.value at c.in_ok-cases.ensures)))

pub returns-clause-many : goal.returns-clause-many
returns-clause-many c = rw c.in_ok-apart.ensures (as_many_numbered c.count_notes-notes.result c.in_ok-cases.cases.items (as_many c.in_ok-cases.cases.items))

abbrev known : (outputs : List FaceOutput) → List Case → Type 0
known outputs cases = AllByRecursion (AreExpected (length (names_of outputs))) (cases_made cases).expected

pub apart-requires : goal.apart-requires
apart-requires c =
    let outputs = c.args.face.now.outputs in
    let each : known outputs c.in_ok-cases.cases.items =
    each_expected c.args.codes.now _ c.in_ok-cases.cases.items
    (cases_good c.args.codes.now (names_of outputs) (drop 1 (fields_of c.next_record.new.row)) c.in_ok-columns.columns.items (left_of c.next_record.new.records)
    c.in_ok-cases.cases.items
    (few_names outputs c.requires) c.in_ok-columns.ensures (rw c.deref.ensures.value at c.in_ok-cases.ensures)) in
    small_cases c.count_notes-notes.result (length (names_of outputs)) c.in_ok-cases.cases.items
    (few_numbers outputs c.count_notes-notes.result (rw c.as_slice.ensures at c.count_notes-notes.ensures) c.requires) each

pub returns-clause-expected : goal.returns-clause-expected
returns-clause-expected c =
    let outputs = c.args.face.now.outputs in
    let each : known outputs c.in_ok-cases.cases.items =
    each_expected c.args.codes.now _ c.in_ok-cases.cases.items
    (cases_good c.args.codes.now (names_of outputs) (drop 1 (fields_of c.next_record.new.row)) c.in_ok-columns.columns.items (left_of c.next_record.new.records)
    c.in_ok-cases.cases.items
    (few_names outputs c.requires) c.in_ok-columns.ensures (rw c.deref.ensures.value at c.in_ok-cases.ensures)) in
    rw c.in_ok-apart.ensures
    (each_numbered c.count_notes-notes.result (length (names_of outputs)) (length outputs) (cases_made c.in_ok-cases.cases.items).expected
    (all_numbers outputs c.count_notes-notes.result (rw c.as_slice.ensures at c.count_notes-notes.ensures)) each)

pub returns-clause-few : goal.returns-clause-few
returns-clause-few c =
    rw c.in_ok-apart.ensures
    (few_rows c.args.codes.now c.in_ok-columns.columns.items (left_of c.next_record.new.records) c.in_ok-cases.cases.items
    (rw c.deref.ensures.value at c.in_ok-cases.ensures))
