use Rattle.std.proofs.Common.{◌≡◌, ◌∙◌, length, Some, Ok, Err, subst}
use Rattle.household.specs.Household.{AreOfTypes}
use Rattle.m_batch.proofs.RowLemmas.{rows_below}
use Rattle.observables.specs.Outputs.{names_of, notes_of}
use Rattle.m_cases.specs.Cases.{cases_of}
use Rattle.m_cases.proofs.Numbered.{face_fault, face_read}
use Rattle.code_answers.specs.Cases.{ComparedReplies, cases_fault_line}
use Rattle.code_answers.proofs.CaseLemmas.{AreRead, cases_written, counted_is, counted_reported, text_reported}
use Rattle.code_answers.proofs.Refusals.{cases_reported}
use Rattle.code_answers.specs.Replies.{file_is_answered, file_is_refused}
use Rattle.code_answers.proofs.Ways.{refused_in_parts}
use Rattle.code_answers.proofs.Shown.{code_many, many_inputs}
use Rattle.code_answers.proofs.cases.answer_cases.Goals as goal

pub print_cases-requires-clause-inputs : goal.print_cases-requires-clause-inputs
print_cases-requires-clause-inputs g c = λ κs held.
    rw c.as_slice.ensures
    (rw (many_inputs c.args.loaded.now) at (rows_below (length c.args.loaded.now.face.inputs) c.in-Ok.cases.rows c.in-Ok.ensures.inputs))

pub returns-in-Ok : goal.returns-in-Ok
returns-in-Ok g c = λ scheme shown.
    let loaded = c.args.loaded.now in
    let given = c.in-Ok.cases in
    let stated = face_read (length (notes_of loaded.face.outputs)) (cases_of loaded.face.inputs (names_of loaded.face.outputs) c.args.table.now) given
    c.in-Ok.ensures.outcome in
    let cases = stated.0 in
    let read : AreRead scheme loaded cases given = record {
      same = stated.2;
      shown = shown;
      inputs = code_many scheme loaded shown;
      types = c.in-Ok.ensures.amounts;
      many = c.in-Ok.ensures.many;
    } in
    let of : cases_of scheme.inputs scheme.names c.args.table.now ≡ Ok cases =
    subst (λ names. cases_of scheme.inputs names c.args.table.now ≡ Ok cases) shown.names
    (subst (λ inputs. cases_of inputs (names_of loaded.face.outputs) c.args.table.now ≡ Ok cases) shown.inputs stated.1) in
    cases_written _ _ _ _ _ _ _ (ComparedReplies scheme c.args.table.now) _ (file_is_answered cases of)
    (λ n is. counted_is _ n _ (rw (c.as_slice.ensures, c.as_slice-in-Ok.ensures) at c.print_cases.ensures.count) is
    ∙ counted_reported scheme loaded cases given read) c.status_of_cases.ensures
    (rw (text_reported scheme loaded cases given read) at (rw (c.as_slice.ensures, c.as_slice-in-Ok.ensures) at c.print_cases.ensures.text))

pub returns-in-Err : goal.returns-in-Err
returns-in-Err g c = λ scheme shown.
    let loaded = c.args.loaded.now in
    refused_in_parts (λ line. (cases_of scheme.inputs scheme.names c.args.table.now ≡ Err c.in-Err.fault) × (cases_fault_line c.in-Err.fault ≡ Some line))
    (ComparedReplies scheme c.args.table.now) _ _ _ (λ line is. file_is_refused c.in-Err.fault is.0 is.1)
    (cases_reported {IsFault = cases_of scheme.inputs scheme.names c.args.table.now ≡ Err c.in-Err.fault} c.in-Err.fault _ _ _
    (λ m. subst (λ names. cases_of scheme.inputs names c.args.table.now ≡ Err c.in-Err.fault) shown.names
    (subst (λ inputs. cases_of inputs (names_of loaded.face.outputs) c.args.table.now ≡ Err c.in-Err.fault) shown.inputs
    (face_fault (length (notes_of loaded.face.outputs)) (cases_of loaded.face.inputs (names_of loaded.face.outputs) c.args.table.now) c.in-Err.fault
    (c.in-Err.ensures.outcome m))))
    (rw c.cases_entry.ensures at c.report_refusal.ensures))
