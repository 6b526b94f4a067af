use Rattle.command_plans.proofs.Trips.{along_then, along_done, exits_ended}
use Rattle.command_plans.specs.Source.{source_file_plan}
use Rattle.m_commands.proofs.gather.gather_work.Goals as goal

pub returns-in_err-source-clause-along : goal.returns-in_err-source-clause-along
returns-in_err-source-clause-along g c =
    exits_ended (source_file_plan c.args.names.now c.args.behind.now) _ _ _ _ _ c.in_err-source.ensures.along c.from_residual.ensures.1

pub returns-clause-along : goal.returns-clause-along
returns-clause-along g c =
    rw c.work_of.ensures.work
    (along_then (source_file_plan c.args.names.now c.args.behind.now) _ _ _ _ _ _ c.in_ok-source.ensures.along (along_done _ _))
