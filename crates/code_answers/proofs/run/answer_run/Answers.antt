use Rattle.std.proofs.Common.{◌≡◌, [], Err, sym, subst}
use Rattle.household.specs.Household.{household_of, values_of}
use Rattle.reg_machine.specs.Machine.{machine_run}
use Rattle.tax_print.specs.Lines.{AnswerIsWithin}
use Rattle.code_answers.proofs.Printings.{prints_given}
use Rattle.code_answers.proofs.Refusals.{household_refused}
use Rattle.code_answers.proofs.Shown.{answer_within}
use Rattle.code_answers.proofs.Ways.{rows_printed, rows_refused}
use Rattle.code_answers.proofs.run.answer_run.Goals as goal

pub give_answer-requires : goal.give_answer-requires
give_answer-requires g c =
    let of = c.in-Ok-answer_of.ensures in
    subst (AnswerIsWithin c.args.loaded.now.face) (sym of.ran) (answer_within c.args.loaded.now (values_of of.pairs c.args.loaded.now.code.counts.inputs)
    c.requires)

pub returns-in-Ok-answer_of : goal.returns-in-Ok-answer_of
returns-in-Ok-answer_of g c = λ scheme shown.
    rows_printed [] scheme c.args.loaded.now c.args.household.now c.in-Ok-answer_of.answer _ _ _ shown c.in-Ok-answer_of.ensures
    (rw c.status_of.ensures at (prints_given _ _ _ _ _ _ _ _ c.give_answer.ensures c.printed.ensures))

pub returns : goal.returns
returns g c = λ scheme shown.
    rows_refused [] scheme c.args.loaded.now.face (machine_run c.args.loaded.now.code) c.args.household.now c.in-Err.fault _ _ _ shown
    (household_refused c.in-Err.fault {IsFault = household_of c.args.loaded.now.face.inputs c.args.household.now ≡ Err c.in-Err.fault} _ _ _ c.in-Err.ensures
    (rw c.household_entry.ensures at c.report_refusal.ensures))
