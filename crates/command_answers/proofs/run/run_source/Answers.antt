use Rattle.std.proofs.Common.{[]}
use Rattle.code_answers.specs.Shown.{HouseholdReplies}
use Rattle.rule_answers.proofs.Refusals.{fault_reported}
use Rattle.command_answers.proofs.Ways.{source_answered, source_refused}
use Rattle.command_answers.proofs.run.run_source.Goals as goal

pub returns-in-Ok : goal.returns-in-Ok
returns-in-Ok g c =
    source_answered c.args.source.now c.in-Ok.loaded (λ scheme. HouseholdReplies [] scheme c.args.household.now) _ _ _ c.in-Ok.ensures.outcome
    (c.answer_run.ensures c.in-Ok.ensures.outcome.scheme c.in-Ok.ensures.outcome.shows)

pub returns-in-Err : goal.returns-in-Err
returns-in-Err g c =
    source_refused c.args.source.now (λ scheme. HouseholdReplies [] scheme c.args.household.now) c.in-Err.fault _ _ _
    (fault_reported c.args.source.now c.in-Err.fault _ _ _ c.in-Err.ensures.outcome c.report_source.ensures)
