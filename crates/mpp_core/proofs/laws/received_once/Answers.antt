use Rattle.mpp_core.proofs.OnceLemmas.{same-received}
use Rattle.mpp_core.proofs.laws.received_once.Goals as goal

pub returns : goal.returns
returns c = same-received
