use Rattle.std.proofs.Common.{◌∙◌}
use Rattle.tax_print.proofs.fault_line.give_line.Goals as goal

pub returns : goal.returns
returns g c = rw (c.as_bytes-digits.ensures.value ∙ c.format.ensures.text) at c.give_at_line.ensures
