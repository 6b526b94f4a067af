use Rattle.household.proofs.LineLemmas.{records_join}
use Rattle.household.proofs.laws.records_in_parts.Goals as goal

pub returns : goal.returns
returns c = records_join
