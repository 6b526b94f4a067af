use Rattle.flat_code.proofs.FactLemmas.{flat-within, flat-holds}
use Rattle.flat_code.proofs.laws.facts_hold.Goals as goal

pub returns : goal.returns
returns c = record { within = flat-within; all = flat-holds }
