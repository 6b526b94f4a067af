use Rattle.command_plans.proofs.Trips.{along_done}
use Rattle.survey_commands.proofs.gather.gather.Goals as goal

pub returns-in-Version-clause-along : goal.returns-in-Version-clause-along
returns-in-Version-clause-along g c = rw c.in-Version.is (along_done _ _)
