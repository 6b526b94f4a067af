use Rattle.command_plans.proofs.Readings.{test_is}
use Rattle.command_plans.proofs.read_listing.is_application.Goals as goal

pub returns : goal.returns
returns c = test_is c.args.text.now c.is_word.result c.is_word.ensures.0 c.is_word.ensures.1
