use Rattle.mpp_core.proofs.OnceLemmas.{few-received}
use Rattle.mpp_core.proofs.laws.received_few.Goals as goal

pub returns : goal.returns
returns c = few-received
