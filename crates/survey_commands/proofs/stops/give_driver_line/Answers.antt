use Rattle.std.proofs.Common.{◌∙◌}
use Rattle.survey_commands.proofs.stops.give_driver_line.Goals as goal

pub returns : goal.returns
returns g c = rw (c.as_bytes-digits.ensures.value ∙ c.format.ensures.text) at c.give_pieces.ensures
