use Rattle.std.proofs.Common.{◌∙◌}
use Rattle.household.specs.Reader.{left_from}
use Rattle.household.proofs.LeftLemmas.{records_are_left}
use Rattle.household.proofs.records.records_of.Goals as goal

pub returns : goal.returns
returns c = (λ i. left_from (c.from_reader-reader.ensures.state i) (c.from_reader-reader.ensures.source i)) ∙ records_are_left c.args.bytes.now
