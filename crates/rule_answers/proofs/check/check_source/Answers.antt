use Rattle.rule_answers.proofs.CheckLemmas.{check_answered, check_refused}
use Rattle.rule_answers.proofs.Refusals.{base_reported}
use Rattle.m_compile.proofs.Distinct.{distinct_inputs}
use Rattle.rule_base.proofs.Small.{few-cells}
use Rattle.rule_answers.proofs.check.check_source.Goals as goal

pub answer_check-status-requires-clause-few : goal.answer_check-status-requires-clause-few
answer_check-status-requires-clause-few g c = few-cells c.in-Ok.ensures.outcome.0

pub answer_check-status-requires-clause-distinct : goal.answer_check-status-requires-clause-distinct
answer_check-status-requires-clause-distinct g c = distinct_inputs _ _ c.in-Ok.made.symbols c.in-Ok.made.ordered.base c.in-Ok.ensures.outcome.0

pub returns-in-Ok : goal.returns-in-Ok
returns-in-Ok g c =
    check_answered c.args.source.now c.args.household.now c.args.report.now c.in-Ok.made.symbols c.in-Ok.made.ordered.base _ _ _
    (record { made = rw (c.as_slice.ensures, c.bytes.ensures) at c.in-Ok.ensures.outcome.0; no_cycle = c.in-Ok.ensures.no_cycle }) c.answer_check-status.ensures

pub returns-in-Err : goal.returns-in-Err
returns-in-Err g c =
    check_refused c.args.source.now c.args.household.now c.args.report.now c.in-Err.fault _ _ _
    (base_reported c.args.source.now c.in-Err.fault _ _ _ (rw (c.as_slice.ensures, c.bytes.ensures) at c.in-Err.ensures.outcome) c.report_source.ensures)
