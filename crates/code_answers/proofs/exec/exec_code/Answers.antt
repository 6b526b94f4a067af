use Rattle.std.proofs.Common.{◌≡◌, ℕ, List, [], Some}
use Rattle.code_file.specs.Reading.{IsCodeFault}
use Rattle.command_plans.specs.declared.status.Status.{Status}
use Rattle.code_answers.specs.Execs.{CodeReplies, ExecReplies, code_fault_line}
use Rattle.code_answers.specs.Schemes.{Scheme}
use Rattle.code_answers.specs.Shown.{HouseholdReplies}
use Rattle.code_answers.proofs.ExecLemmas.{code_scheme, code_shows, form_runs}
use Rattle.code_answers.proofs.Refusals.{code_reported}
use Rattle.code_answers.proofs.Ways.{answered_as, code_answered, code_refused, refused_as}
use Rattle.code_answers.proofs.exec.exec_code.Goals as goal

pub answer_run-requires : goal.answer_run-requires
answer_run-requires g c = form_runs c.args.code.now c.in-Ok.loaded c.in-Ok.ensures

pub returns-in-Ok : goal.returns-in-Ok
returns-in-Ok g c =
    let shown = code_shows c.in-Ok.loaded (form_runs c.args.code.now c.in-Ok.loaded c.in-Ok.ensures) in
    let replies : Scheme → List ℕ → Status → Type 0 = λ scheme. HouseholdReplies [] scheme c.args.household.now in
    answered_as (replies (code_scheme c.in-Ok.loaded)) (CodeReplies c.args.code.now replies) _ _ _
    (code_answered c.args.code.now replies c.in-Ok.loaded (code_scheme c.in-Ok.loaded) c.in-Ok.ensures shown)
    (c.answer_run.ensures (code_scheme c.in-Ok.loaded) shown)

pub returns-in-Err : goal.returns-in-Err
returns-in-Err g c =
    refused_as (λ line. IsCodeFault c.args.code.now c.in-Err.fault × (code_fault_line c.in-Err.fault ≡ Some line))
    (ExecReplies c.args.code.now c.args.household.now) _ _ _
    (code_refused c.args.code.now (λ scheme. HouseholdReplies [] scheme c.args.household.now) c.in-Err.fault)
    (code_reported c.args.code.now c.in-Err.fault _ _ _ c.in-Err.ensures (rw c.code_entry.ensures at c.report_refusal.ensures))
