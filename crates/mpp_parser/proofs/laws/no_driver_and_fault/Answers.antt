use Rattle.mpp_parser.proofs.FaultLaws.{driver_or_fault}
use Rattle.mpp_parser.proofs.laws.no_driver_and_fault.Goals as goal

pub returns : goal.returns
returns c = driver_or_fault
