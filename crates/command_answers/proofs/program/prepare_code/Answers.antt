use Rattle.command_answers.proofs.Ways.{prepared_outcome, runnable_outcome}
use Rattle.command_answers.proofs.program.prepare_code.Goals as goal

pub returns-clause-outcome : goal.returns-clause-outcome
returns-clause-outcome g c = prepared_outcome c.args.source.now _ c.compile_with.ensures

pub returns-clause-runnable : goal.returns-clause-runnable
returns-clause-runnable g c = runnable_outcome c.args.source.now _ c.compile_with.ensures
