use Rattle.command_plans.proofs.Trips.{along_then, along_done, exits_ended}
use Rattle.command_plans.specs.Source.{optional_plan, source_plan}
use Rattle.survey_commands.proofs.gather.gather_facts.Goals as goal

pub returns-in_err-source-clause-along : goal.returns-in_err-source-clause-along
returns-in_err-source-clause-along g c = exits_ended (source_plan c.args.names.now) _ _ _ _ _ c.in_err-source.ensures.along c.from_residual.ensures.1

pub returns-in_err-bytes-clause-along : goal.returns-in_err-bytes-clause-along
returns-in_err-bytes-clause-along g c =
    along_then (source_plan c.args.names.now) _ _ _ _ _ _ c.in_ok-source.ensures.along
    (exits_ended (optional_plan c.args.ranges.now) _ _ _ _ _ c.in_err-bytes.ensures.along c.from_residual-in_err-bytes.ensures.1)

pub returns-clause-along : goal.returns-clause-along
returns-clause-along g c =
    along_then (source_plan c.args.names.now) _ _ _ _ _ _ c.in_ok-source.ensures.along
    (along_then (optional_plan c.args.ranges.now) _ _ _ _ _ _ c.in_ok-bytes.ensures.along (along_done _ _))
