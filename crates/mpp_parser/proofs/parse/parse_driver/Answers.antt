use Rattle.mpp_parser.proofs.FaultLaws.{of_bytes}
use Rattle.mpp_parser.proofs.parse.parse_driver.Goals as goal

pub returns : goal.returns
returns c =
    let answer = rw c.as_slice.ensures.value at c.read_driver.ensures.outcome in
    record { outcome = of_bytes c.args.bytes.now c.in_ok-lines.lines.items c.read_driver.result c.in_ok-lines.ensures.outcome answer }
