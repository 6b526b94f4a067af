use Rattle.std.proofs.Common.{length, sym, ap, ◌∙◌}
use Rattle.household.proofs.KeptLemmas.{length_kept}
use Rattle.household.proofs.codes.Codes.len.Goals as goal

pub returns : goal.returns
returns c = c.self.invariant.1.0 ∙ sym (length_kept c.self.inside.names c.self.inside.kinds.items c.self.invariant.0) ∙ ap length c.self.view_is
