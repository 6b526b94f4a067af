use Rattle.std.proofs.Common.{◌≡◌, Err, ◌∙◌, sym}
use Rattle.household.specs.Household.{household_of}
use Rattle.driver_core.specs.Inputs.{inputs_declared}
use Rattle.rule_answers.proofs.CheckLemmas.{rows_are_refused, start_answered, start_many}
use Rattle.code_answers.proofs.Refusals.{household_refused}
use Rattle.rule_answers.proofs.check.answer_check.Goals as goal

pub answer_report-requires-clause-values : goal.answer_report-requires-clause-values
answer_report-requires-clause-values g c = rw c.as_slice.ensures.value (start_many c.args.made.now.symbols c.args.household.now c.in-Ok.env.items
    c.in-Ok.ensures ∙ sym c.requires.cells)

pub returns-in-Ok : goal.returns-in-Ok
returns-in-Ok g c = start_answered c.args.made.now.symbols c.args.made.now.ordered.base c.args.household.now c.args.report.now c.in-Ok.env.items _ _ _
    c.in-Ok.ensures (rw c.as_slice.ensures.value at c.answer_report.ensures)

pub returns-in-Err : goal.returns-in-Err
returns-in-Err g c =
    rows_are_refused c.args.made.now.symbols c.args.made.now.ordered.base c.args.household.now c.args.report.now c.in-Err.fault _ _ _
    (household_refused c.in-Err.fault {IsFault = household_of (inputs_declared c.args.made.now.symbols) c.args.household.now ≡ Err c.in-Err.fault} _ _ _
    c.in-Err.ensures
    (rw c.household_entry.ensures at c.report_refusal.ensures))
