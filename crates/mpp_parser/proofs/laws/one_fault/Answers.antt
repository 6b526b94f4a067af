use Rattle.mpp_parser.proofs.FaultLaws.{one_fault}
use Rattle.mpp_parser.proofs.laws.one_fault.Goals as goal

pub returns : goal.returns
returns c = one_fault
