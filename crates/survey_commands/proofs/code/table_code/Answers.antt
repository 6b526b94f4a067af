use Rattle.code_answers.proofs.ExecLemmas.{code_scheme, code_shows, form_runs}
use Rattle.code_answers.proofs.Refusals.{code_reported}
use Rattle.std.proofs.Common.{◌≡◌, ℕ, List, Some}
use Rattle.code_file.specs.Reading.{IsCodeFault}
use Rattle.command_plans.specs.declared.status.Status.{Status}
use Rattle.code_answers.specs.Execs.{CodeReplies, code_fault_line}
use Rattle.code_answers.specs.Schemes.{Scheme}
use Rattle.code_answers.proofs.Ways.{code_answered, code_refused, parts_as, refused_in_parts}
use Rattle.survey_commands.specs.Tables.{SchemeReplies}
use Rattle.survey_commands.proofs.code.table_code.Goals as goal

pub answer_table-requires-clause-runnable : goal.answer_table-requires-clause-runnable
answer_table-requires-clause-runnable g c = λ κs held. form_runs c.args.code.now c.in-Ok.loaded c.in-Ok.ensures

pub returns-in-Ok : goal.returns-in-Ok
returns-in-Ok g c =
    let shown = code_shows c.in-Ok.loaded (form_runs c.args.code.now c.in-Ok.loaded c.in-Ok.ensures) in
    let replies : Scheme → List ℕ → Status → Type 0 = λ scheme. SchemeReplies scheme c.args.table.now in
    parts_as (replies (code_scheme c.in-Ok.loaded)) (CodeReplies c.args.code.now replies) _ _ _
    (code_answered c.args.code.now replies c.in-Ok.loaded (code_scheme c.in-Ok.loaded) c.in-Ok.ensures shown)
    (c.answer_table.ensures (code_scheme c.in-Ok.loaded) shown)

pub returns-in-Err : goal.returns-in-Err
returns-in-Err g c =
    refused_in_parts (λ line. IsCodeFault c.args.code.now c.in-Err.fault × (code_fault_line c.in-Err.fault ≡ Some line))
    (CodeReplies c.args.code.now (λ scheme. SchemeReplies scheme c.args.table.now)) _ _ _
    (code_refused c.args.code.now (λ scheme. SchemeReplies scheme c.args.table.now) c.in-Err.fault)
    (code_reported c.args.code.now c.in-Err.fault _ _ _ c.in-Err.ensures (rw c.code_entry.ensures at c.report_refusal.ensures))
