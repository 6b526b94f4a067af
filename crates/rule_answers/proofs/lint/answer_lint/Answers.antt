use Rattle.command_plans.specs.Printing.{printed}
use Rattle.rule_answers.specs.inner.Linting.{is_lint}
use Rattle.code_answers.proofs.Printings.{prints_given}
use Rattle.rule_answers.proofs.lint.answer_lint.Goals as goal

pub returns-in-Ok : goal.returns-in-Ok
returns-in-Ok g c = printed _ _ is_lint tt
    (rw (c.as_slice.ensures, c.in-Ok.ensures.findings) at (prints_given _ _ _ _ _ _ _ _ c.give_findings.ensures c.printed.ensures))
