use Rattle.std.proofs.Common.{◌∙◌}
use Rattle.household.proofs.LineLemmas.{parsed_quote}
use Rattle.household.proofs.cuts.has_quote.Goals as goal

pub returns : goal.returns
returns c = c.is_some.ensures ∙ parsed_quote c.args.bytes.now c.memchr.result c.memchr.ensures
