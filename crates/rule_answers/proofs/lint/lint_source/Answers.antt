use Rattle.std.proofs.Common.{arith}
use Rattle.rule_base.proofs.Small.{few-checks}
use Rattle.m_compile.proofs.ProgramLaws.{inputs_counted, labels_first}
use Rattle.rule_answers.proofs.LintLemmas.{lint_answered, lint_refused}
use Rattle.rule_answers.proofs.Refusals.{fault_reported}
use Rattle.rule_answers.proofs.lint.lint_source.Goals as goal

pub answer_lint-status-requires-clause-few : goal.answer_lint-status-requires-clause-few
answer_lint-status-requires-clause-few g c = let few = few-checks c.in-Ok.ensures.rules.made in omega (arith, few)

pub answer_lint-status-requires-clause-shown : goal.answer_lint-status-requires-clause-shown
answer_lint-status-requires-clause-shown g c = c.in-Ok.ensures.runnable.shown

pub answer_lint-status-requires-clause-first_labels : goal.answer_lint-status-requires-clause-first_labels
answer_lint-status-requires-clause-first_labels g c =
    labels_first c.args.source.now c.in-Ok.made.symbols c.in-Ok.made.ordered.base c.in-Ok.program c.in-Ok.ensures.rules c.in-Ok.ensures.outcome

pub answer_lint-status-requires-clause-inputs : goal.answer_lint-status-requires-clause-inputs
answer_lint-status-requires-clause-inputs g c =
    inputs_counted c.args.source.now c.in-Ok.made.symbols c.in-Ok.made.ordered.base c.in-Ok.program c.in-Ok.ensures.rules c.in-Ok.ensures.outcome

pub returns-in-Ok : goal.returns-in-Ok
returns-in-Ok g c =
    lint_answered c.args.source.now c.in-Ok.made.symbols c.in-Ok.made.ordered.base c.in-Ok.program _ _ _ c.in-Ok.ensures.rules c.in-Ok.ensures.outcome
    c.answer_lint-status.ensures

pub returns-in-Err : goal.returns-in-Err
returns-in-Err g c =
    lint_refused c.args.source.now c.in-Err.fault _ _ _
    (fault_reported c.args.source.now c.in-Err.fault _ _ _ c.in-Err.ensures.outcome c.report_source.ensures)
