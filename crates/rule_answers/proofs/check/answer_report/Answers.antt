use Rattle.rule_answers.proofs.CheckLemmas.{report_answered, report_refused}
use Rattle.rule_answers.proofs.Refusals.{report_reported}
use Rattle.rule_answers.proofs.check.answer_report.Goals as goal

pub answer_lines-requires-clause-cells : goal.answer_lines-requires-clause-cells
answer_lines-requires-clause-cells g c = rw (c.as_slice.ensures, c.requires.cells) c.in-Ok.ensures.known

pub returns-in-Ok : goal.returns-in-Ok
returns-in-Ok g c =
    report_answered c.args.made.now.symbols c.args.made.now.ordered.base _ c.args.report.now c.in-Ok.lines _ _ _ c.in-Ok.ensures.outcome
    (rw c.as_slice.ensures at c.answer_lines.ensures)

pub returns-in-Err : goal.returns-in-Err
returns-in-Err g c =
    report_refused c.args.made.now.symbols c.args.made.now.ordered.base _ c.args.report.now c.in-Err.fault _ _ _
    (report_reported c.in-Err.fault _ _ _ c.in-Err.ensures.outcome (rw c.report_entry.ensures at c.report_refusal.ensures))
