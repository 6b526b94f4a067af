use Rattle.command_plans.specs.Printing.{printed}
use Rattle.command_answers.specs.inner.Answers.{is_file}
use Rattle.code_answers.proofs.Printings.{prints_given}
use Rattle.command_answers.proofs.compile.answer_compile.Goals as goal

pub returns : goal.returns
returns g c = printed _ _ (is_file c.give_code.ensures.form) tt (prints_given _ _ _ _ _ _ _ _ c.give_code.ensures.gives c.printed.ensures)
