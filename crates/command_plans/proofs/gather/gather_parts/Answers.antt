use Rattle.command_plans.proofs.Trips.{along_then, along_done, exits_ended}
use Rattle.command_plans.specs.Source.{optional_plan}
use Rattle.command_plans.proofs.gather.gather_parts.Goals as goal

pub returns-in_err-driver-clause-along : goal.returns-in_err-driver-clause-along
returns-in_err-driver-clause-along g c = exits_ended (optional_plan c.args.names.now.driver) _ _ _ _ _ c.in_err-driver.ensures.along c.from_residual.ensures.1

pub returns-in_err-requests-clause-along : goal.returns-in_err-requests-clause-along
returns-in_err-requests-clause-along g c =
    along_then (optional_plan c.args.names.now.driver) _ _ _ _ _ _ c.in_ok-driver.ensures.along
    (exits_ended (optional_plan c.args.names.now.requests) _ _ _ _ _ c.in_err-requests.ensures.along c.from_residual-in_err-requests.ensures.1)

pub returns-clause-along : goal.returns-clause-along
returns-clause-along g c =
    along_then (optional_plan c.args.names.now.driver) _ _ _ _ _ _ c.in_ok-driver.ensures.along
    (along_then (optional_plan c.args.names.now.requests) _ _ _ _ _ _ c.in_ok-requests.ensures.along (along_done _ _))
