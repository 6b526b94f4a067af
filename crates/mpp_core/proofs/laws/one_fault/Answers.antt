use Rattle.mpp_core.proofs.OneLaws.{one_fault}
use Rattle.mpp_core.proofs.laws.one_fault.Goals as goal

pub returns : goal.returns
returns c = one_fault
