use Rattle.m_places.specs.declared.limits.TheConstants.{FILE_BYTES}
use Rattle.command_plans.specs.Plan.{file_plan}
use Rattle.command_plans.proofs.Trips.{along_then, along_done, exits_ended}
use Rattle.command_plans.specs.Source.{source_plan}
use Rattle.command_plans.proofs.gather.gather_source_and_file.Goals as goal

pub returns-in_err-source-clause-along : goal.returns-in_err-source-clause-along
returns-in_err-source-clause-along g c = exits_ended (source_plan c.args.names.now) _ _ _ _ _ c.in_err-source.ensures.along c.from_residual.ensures.1

pub returns-in_err-bytes-clause-along : goal.returns-in_err-bytes-clause-along
returns-in_err-bytes-clause-along g c =
    along_then (source_plan c.args.names.now) _ _ _ _ _ _ c.in_ok-source.ensures.along
    (exits_ended (file_plan c.args.name.now FILE_BYTES) _ _ _ _ _ c.in_err-bytes.ensures.along c.from_residual-in_err-bytes.ensures.1)

pub returns-clause-along : goal.returns-clause-along
returns-clause-along g c =
    along_then (source_plan c.args.names.now) _ _ _ _ _ _ c.in_ok-source.ensures.along
    (along_then (file_plan c.args.name.now FILE_BYTES) _ _ _ _ _ _ c.in_ok-bytes.ensures.along (along_done _ _))
