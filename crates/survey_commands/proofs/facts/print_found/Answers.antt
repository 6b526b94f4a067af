use Rattle.command_plans.specs.Printing.{printed}
use Rattle.code_answers.proofs.Printings.{prints_given}
use Rattle.survey_commands.specs.inner.Finding.{are_facts}
use Rattle.survey_commands.proofs.facts.print_found.Goals as goal

pub returns-in-Ok : goal.returns-in-Ok
returns-in-Ok g c = printed _ _ are_facts tt (rw c.in-Ok.ensures at (prints_given _ _ _ _ _ _ _ _ c.give_found-given.ensures c.printed-status.ensures))
