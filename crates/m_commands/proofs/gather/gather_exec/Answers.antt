use Rattle.command_plans.proofs.Trips.{along_then, along_done, exits_ended}
use Rattle.command_plans.specs.Plan.{done}
use Rattle.command_plans.specs.Source.{code_file_plan}
use Rattle.m_commands.specs.declared.work.Work.TheVariants as work
use Rattle.m_commands.proofs.gather.gather_exec.Goals as goal

pub returns-in_err-code-clause-along : goal.returns-in_err-code-clause-along
returns-in_err-code-clause-along g c =
    exits_ended (code_file_plan c.args.code.now c.args.household.now) (λ gathered. done (work.Exec gathered.0 gathered.1)) _ _ _ _
    c.in_err-code.ensures.along c.from_residual.ensures.1

pub returns-clause-along : goal.returns-clause-along
returns-clause-along g c =
    along_then (code_file_plan c.args.code.now c.args.household.now) (λ gathered. done (work.Exec gathered.0 gathered.1)) _ _ _ _ _
    c.in_ok-code.ensures.along (along_done _ _)
