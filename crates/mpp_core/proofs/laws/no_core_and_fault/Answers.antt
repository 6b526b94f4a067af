use Rattle.mpp_core.proofs.OneLaws.{no_core_and_fault}
use Rattle.mpp_core.proofs.laws.no_core_and_fault.Goals as goal

pub returns : goal.returns
returns c = no_core_and_fault
