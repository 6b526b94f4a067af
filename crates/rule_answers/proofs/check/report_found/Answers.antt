use Rattle.std.proofs.Common.{arith}
use Rattle.code_answers.proofs.Printings.{prints_given}
use Rattle.rule_answers.proofs.check.report_found.Goals as goal

pub overflow_add-position : goal.overflow_add-position
overflow_add-position g c = let few = rw c.in-Some.is at c.requires in omega (arith, few)

pub returns-in-None : goal.returns-in-None
returns-in-None g c = rw c.in-None.is (prints_given _ _ _ _ _ _ _ _ c.give_pieces.ensures c.printed.ensures)

pub returns-in-Some : goal.returns-in-Some
returns-in-Some g c = rw c.in-Some.is c.print_fault.ensures
