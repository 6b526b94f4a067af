use Rattle.code_answers.specs.Shown.{TableReplies}
use Rattle.rule_answers.proofs.Refusals.{fault_reported}
use Rattle.command_answers.proofs.Ways.{source_in_parts, source_refused_in_parts}
use Rattle.command_answers.proofs.batch.batch_source.Goals as goal

pub returns-in-Ok : goal.returns-in-Ok
returns-in-Ok g c =
    source_in_parts c.args.source.now c.in-Ok.loaded (λ scheme. TableReplies scheme c.args.table.now) _ _ _ c.in-Ok.ensures.outcome
    (c.answer_batch.ensures c.in-Ok.ensures.outcome.scheme c.in-Ok.ensures.outcome.shows)

pub returns-in-Err : goal.returns-in-Err
returns-in-Err g c =
    source_refused_in_parts c.args.source.now (λ scheme. TableReplies scheme c.args.table.now) c.in-Err.fault _ _ _
    (fault_reported c.args.source.now c.in-Err.fault _ _ _ c.in-Err.ensures.outcome c.report_source.ensures)
