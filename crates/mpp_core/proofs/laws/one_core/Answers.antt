use Rattle.mpp_core.proofs.OneLaws.{one_core}
use Rattle.mpp_core.proofs.laws.one_core.Goals as goal

pub returns : goal.returns
returns c = one_core
