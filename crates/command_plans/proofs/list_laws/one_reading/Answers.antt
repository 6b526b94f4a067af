use Rattle.command_plans.proofs.Readings.{reads_one}
use Rattle.command_plans.proofs.list_laws.one_reading.Goals as goal

pub returns : goal.returns
returns c = reads_one
