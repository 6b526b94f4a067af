use Rattle.mpp_parser.proofs.FaultLaws.{one_driver_of}
use Rattle.mpp_parser.proofs.laws.one_driver.Goals as goal

pub returns : goal.returns
returns c = one_driver_of
