use Rattle.command_plans.proofs.Trips.{along_done}
use Rattle.m_commands.proofs.gather.gather.Goals as goal

pub returns-in-Large-clause-along : goal.returns-in-Large-clause-along
returns-in-Large-clause-along g c = rw c.in-Large.is (along_done _ _)
