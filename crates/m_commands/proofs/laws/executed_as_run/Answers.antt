use Rattle.m_commands.proofs.Executed.{executed_as, answered_as}
use Rattle.m_commands.proofs.laws.executed_as_run.Goals as goal

pub returns-clause-same : goal.returns-clause-same
returns-clause-same c = executed_as

pub returns-clause-answered : goal.returns-clause-answered
returns-clause-answered c = answered_as
