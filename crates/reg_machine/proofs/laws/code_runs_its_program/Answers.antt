use Rattle.reg_machine.proofs.StepLaws.{run-is-flat_run}
use Rattle.reg_machine.proofs.laws.code_runs_its_program.Goals as goal

pub returns : goal.returns
returns c = run-is-flat_run
