use Rattle.mpp_parser.proofs.DriverLaws.{one_driver}
use Rattle.mpp_parser.proofs.laws.one_longest_driver.Goals as goal

pub returns : goal.returns
returns c = one_driver
