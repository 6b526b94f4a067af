use Rattle.std.proofs.Common.{refl, sym, subst}
use Rattle.household.specs.Household.{values_of}
use Rattle.m_large.specs.Large.{household_text}
use Rattle.tax_print.specs.Lines.{AnswerIsWithin}
use Rattle.code_answers.specs.Larges.{large_line}
use Rattle.command_plans.specs.Printing.{no_memory}
use Rattle.code_answers.proofs.Printings.{prints_given}
use Rattle.code_answers.proofs.LargeLemmas.{without_answer_only}
use Rattle.code_answers.proofs.Shown.{answer_within}
use Rattle.code_answers.proofs.Ways.{rows_printed}
use Rattle.code_answers.proofs.large.print_answered.Goals as goal

pub give_large-requires : goal.give_large-requires
give_large-requires g c =
    let of = c.in-Ok.ensures in
    subst (AnswerIsWithin c.args.loaded.now.face) (sym of.ran)
    (answer_within c.args.loaded.now (values_of of.pairs c.args.loaded.now.code.counts.inputs) c.requires.runnable)

pub returns-in-Ok : goal.returns-in-Ok
returns-in-Ok g c = λ scheme shown.
    rows_printed (large_line c.args.n) scheme c.args.loaded.now (household_text c.args.n) c.in-Ok.answer _ _ _ shown
    (rw c.requires.generated at c.in-Ok.ensures)
    (rw c.status_of.ensures at (prints_given _ _ _ _ _ _ _ _ c.give_large.ensures c.printed.ensures))

pub without_answer-requires : goal.without_answer-requires
without_answer-requires g c =
    without_answer_only c.in-Err.fault (λ other. let f = rw c.requires.generated at (c.in-Err.ensures other) in let given = c.requires.reads.given in cc)

pub returns-in-Err : goal.returns-in-Err
returns-in-Err g c = λ scheme shown. no_memory refl c.without_answer.ensures
