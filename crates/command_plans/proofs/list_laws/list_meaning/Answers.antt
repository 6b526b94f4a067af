use Rattle.command_plans.specs.Reads.{reading_of}
use Rattle.command_plans.proofs.list_laws.list_meaning.Goals as goal

pub returns : goal.returns
returns c = reading_of
