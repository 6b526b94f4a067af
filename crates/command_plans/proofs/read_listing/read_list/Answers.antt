use Rattle.command_plans.proofs.Readings.{read_meaning}
use Rattle.command_plans.proofs.read_listing.read_list.Goals as goal

pub returns : goal.returns
returns c = record { outcome = read_meaning c.args.bytes.now c.read_lines.result c.read_lines.ensures.outcome }
