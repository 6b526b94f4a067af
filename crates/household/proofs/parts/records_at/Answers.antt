use Rattle.std.proofs.Common.{◌∙◌, ap}
use Rattle.household.specs.Records.{records_of}
use Rattle.household.proofs.CutLemmas.{read_from}
use Rattle.household.proofs.LineLemmas.{rest_is}
use Rattle.household.proofs.parts.records_at.Goals as goal

pub returns : goal.returns
returns c = c.records_of.ensures ∙ ap records_of (rest_is c.args.bytes.now c.args.cut) ∙ read_from c.args.bytes.now c.args.cut c.requires
