-- From what was found and written to a call's ending.
use Rattle.std.proofs.Common.{◌≡◌, ℕ, List, [], ◌++◌, Result, Ok, Err, subst, inl, inr}
use Rattle.std.specs.Prelude.{Option, Some}
use Rattle.m_fixed.specs.declared.amount.Value.{Value}
use Rattle.observables.specs.Answers.{Observation, values, stopped}
use Rattle.observables.specs.Outputs.{notes_of}
use Rattle.observables.specs.declared.answer.Answer.{Answer}
use Rattle.observables.specs.declared.face.Face.{Face}
use Rattle.reg_machine.specs.Machine.{machine_run}
use Rattle.code_file.specs.Reading.{IsCodeFault, IsFormOf}
use Rattle.code_file.specs.declared.fault.CodeFault.{CodeFault}
use Rattle.code_file.specs.declared.loaded.Loaded.{Loaded}
use Rattle.household.specs.Household.{household_of}
use Rattle.household.specs.Table.{table_of}
use Rattle.household.specs.declared.fault.HouseholdFault.{HouseholdFault}
use Rattle.household.specs.declared.table.Row.{Row}
use Rattle.tax_print.specs.Lines.{answer_lines, observation_lines}
use Rattle.command_plans.specs.Printing.{IsAnswered, Prints, printed, no_memory}
use Rattle.command_plans.specs.Status.{IsOfEnd}
use Rattle.command_plans.specs.Views.{OutputView, output_view}
use Rattle.command_plans.specs.declared.status.Status.{Status}
use Rattle.command_plans.specs.declared.status.Status.TheVariants.{Done, Refused}
use Rattle.code_answers.specs.Parts.{IsWrittenInParts, broke_off}
use Rattle.code_answers.specs.Execs.{CodeReplies, code_fault_line}
use Rattle.code_answers.specs.Households.{answer_status, household_fault_line, observation_status}
use Rattle.code_answers.specs.Replies.{FileReplies, file_is_answered, file_is_refused, is_answered, is_refused}
use Rattle.code_answers.specs.Shown.{HouseholdReplies, Shows}
use Rattle.code_answers.specs.Schemes.{Scheme, observation_for}
use Rattle.m_batch.specs.Printing.{WritesRows}
use Rattle.m_batch.specs.declared.fault.PrintFault.{PrintFault}
use Rattle.m_batch.specs.declared.fault.PrintFault.TheVariants as rows
use Rattle.code_answers.specs.inner.Answers.{IsAnswerOf}
use Rattle.code_answers.specs.inner.Printers.{rows_status}
use Rattle.code_answers.proofs.Refusals.{ReportsRefusal}
use Rattle.code_answers.proofs.Shown.{given_by, household_reported, status_reported, reported_answer}
use Rattle.code_answers.specs.Parts as parts

of_end : (reported : Observation) → IsOfEnd (observation_status reported)
of_end (values notes vs) = tt
of_end (stopped cause) = tt

-- an answer by one relation of replies is an answer by another that contains it
pub answered_as : (One Other : List ℕ → Status → Type 0) (old new : OutputView) (status : Status)
    → ((text : List ℕ) (own : Status) → One text own → Other text own)
    → IsAnswered One old new status → IsAnswered Other old new status
answered_as One Other old new status turn (printed text own replied end shown) = printed text own (turn text own replied) end shown
answered_as One Other old new status turn (no_memory same memory) = no_memory same memory

pub parts_as : (One Other : List ℕ → Status → Type 0) (old new : OutputView) (status : Status)
    → ((text : List ℕ) (own : Status) → One text own → Other text own)
    → IsWrittenInParts One old new status → IsWrittenInParts Other old new status
parts_as One Other old new status turn (parts.printed text own replied end shown) = parts.printed text own (turn text own replied) end shown
parts_as One Other old new status turn (parts.no_memory same memory) = parts.no_memory same memory
parts_as One Other old new status turn (broke_off text own replied prefix none memory) = broke_off text own (turn text own replied) prefix none memory

-- what was rejected, by a line that is an answer
pub refused_as : (IsLine : List ℕ → Type 0) (Replies : List ℕ → Status → Type 0) (old new : OutputView) (status : Status)
    → ((line : List ℕ) → IsLine line → Replies line Refused)
    → ReportsRefusal IsLine old new status → IsAnswered Replies old new status
refused_as IsLine Replies old new status turn (inl (line, is, shown)) = printed line Refused (turn line is) tt shown
refused_as IsLine Replies old new status turn (inr (same, memory)) = no_memory same memory

pub refused_in_parts : (IsLine : List ℕ → Type 0) (Replies : List ℕ → Status → Type 0) (old new : OutputView) (status : Status)
    → ((line : List ℕ) → IsLine line → Replies line Refused)
    → ReportsRefusal IsLine old new status → IsWrittenInParts Replies old new status
refused_in_parts IsLine Replies old new status turn (inl (line, is, shown)) = parts.printed line Refused (turn line is) tt shown
refused_in_parts IsLine Replies old new status turn (inr (same, memory)) = parts.no_memory same memory

-- ---- households

-- the household of these bytes was rejected, for a program's codes
pub rows_refused : (front : List ℕ) (scheme : Scheme) (face : Face) (runs : List Value → Answer) (rows : List ℕ) (fault : HouseholdFault) (old new : OutputView)
    (status : Status) → Shows scheme face runs
    → ReportsRefusal (λ line. (household_of face.inputs rows ≡ Err fault) × (household_fault_line fault ≡ Some line)) old new status
    → IsAnswered (HouseholdReplies front scheme rows) old new status
rows_refused front scheme face runs rows fault old new status shown reported =
    refused_as (λ line. (household_of face.inputs rows ≡ Err fault) × (household_fault_line fault ≡ Some line)) (HouseholdReplies front scheme rows) old new
    status
    (λ line is. file_is_refused fault (subst (λ inputs. household_of inputs rows ≡ Err fault) shown.inputs is.0) is.1) reported

pub rows_printed : (front : List ℕ) (scheme : Scheme) (loaded : Loaded) (rows : List ℕ) (answer : Answer) (old new : OutputView) (status : Status)
    → Shows scheme loaded.face (machine_run loaded.code) → (of : IsAnswerOf loaded rows answer)
    → Prints (front ++ answer_lines loaded.face answer) (answer_status answer) old new status → IsAnswered (HouseholdReplies front scheme rows) old new status
rows_printed front scheme loaded rows answer old new status shown of p =
    let reported = observation_for scheme of.pairs in
    let is = household_reported scheme loaded rows answer shown of in
    printed (front ++ observation_lines scheme.names reported) (observation_status reported)
    (file_is_answered of.pairs (given_by scheme loaded rows answer shown of)) (of_end reported)
    (subst (λ own. Prints (front ++ observation_lines scheme.names reported) own old new status)
    (status_reported loaded.face.labels (notes_of loaded.face.outputs) answer reported is)
    (subst (λ text. Prints (front ++ text) (answer_status answer) old new status) (reported_answer scheme loaded.face (machine_run loaded.code) answer reported
    shown is) p))

-- ---- tables

-- the table of these bytes was rejected, for a program's codes
pub table_refused : (scheme : Scheme) (face : Face) (runs : List Value → Answer) (table : List ℕ) (text_of : List Row → List ℕ) (status_of : List Row → Status)
    (fault : HouseholdFault) (old new : OutputView) (status : Status) → Shows scheme face runs
    → ReportsRefusal (λ line. (table_of face.inputs table ≡ Err fault) × (household_fault_line fault ≡ Some line)) old new status
    → IsWrittenInParts (FileReplies (table_of scheme.inputs table) household_fault_line text_of status_of) old new status
table_refused scheme face runs table text_of status_of fault old new status shown reported =
    refused_in_parts (λ line. (table_of face.inputs table ≡ Err fault) × (household_fault_line fault ≡ Some line))
    (FileReplies (table_of scheme.inputs table) household_fault_line text_of status_of) old new status
    (λ line is. file_is_refused fault (subst (λ inputs. table_of inputs table ≡ Err fault) shown.inputs is.0) is.1) reported

pub batch_written : {S T : Type 0} (written : S → Option (List ℕ)) (faults : S → ℕ) (old new : S) (result : Result T PrintFault) (text : List ℕ)
    (Replies : List ℕ → Status → Type 0) (status : Status)
    → Replies text Done → status ≡ rows_status result → WritesRows written faults old new result text
    → IsWrittenInParts Replies (output_view written faults old) (output_view written faults new) status
batch_written written faults old new (Ok value) text Replies status replied is wrote = parts.printed text Done replied tt (inl ((wrote.all, wrote.counted), is))
batch_written written faults old new (Err rows.Memory) text Replies status replied is wrote = broke_off text Done replied wrote.prefix wrote.counted is
batch_written written faults old new (Err rows.Failed) text Replies status replied is wrote = parts.printed text Done replied tt
    (inr ((wrote.prefix, wrote.counted), is))

-- ---- code files that are read

-- a code file was rejected
pub code_refused : (code : List ℕ) (Replies : Scheme → List ℕ → Status → Type 0) (fault : CodeFault) (line : List ℕ)
    → IsCodeFault code fault × (code_fault_line fault ≡ Some line)
    → CodeReplies code Replies line Refused
code_refused code Replies fault line is = is_refused (fault, is.0, is.1)

-- the answer by a scheme of a code file is the file's
pub code_answered : (code : List ℕ) (Replies : Scheme → List ℕ → Status → Type 0) (loaded : Loaded) (scheme : Scheme) → IsFormOf code loaded
    → Shows scheme loaded.face (machine_run loaded.code)
    → (text : List ℕ) (own : Status) → Replies scheme text own → CodeReplies code Replies text own
code_answered code Replies loaded scheme form shown text own replied = is_answered scheme (loaded, form, shown) replied
