use Rattle.std.proofs.Common.{◌∙◌}
use Rattle.tax_print.proofs.fault_line.give_place.Goals as goal

pub returns : goal.returns
returns g c =
    rw (c.as_bytes-line.ensures.value ∙ c.format.ensures.text, c.as_bytes-byte.ensures.value ∙ c.format-2.ensures.text) at c.give_at_place.ensures
