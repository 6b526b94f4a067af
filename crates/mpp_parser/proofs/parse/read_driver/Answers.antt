use Rattle.mpp_parser.proofs.FaultLaws.{read_all, read_stops}
use Rattle.mpp_parser.proofs.parse.read_driver.Goals as goal

pub returns-in-Some : goal.returns-in-Some
returns-in-Some c = record { outcome = λ _. rw c.in-Some.is at c.in_ok-number.ensures }

pub returns-in-None : goal.returns-in-None
returns-in-None c =
    let shallow = rw c.in_default.is at c.in_ok-number.ensures in
    let reads = rw c.new-left.ensures at c.in_ok-functions.ensures in
    record {
      outcome = (
        shallow,
        rw c.from_vec.ensures (read_all c.args.lines.now c.in_ok-functions.functions.items c.read_functions.new.lines reads
            c.in-None.ensures),
      );
    }

pub returns-in-Some-first : goal.returns-in-Some-first
returns-in-Some-first c =
    let shallow = rw c.in_default.is at c.in_ok-number.ensures in
    let reads = rw c.new-left.ensures at c.in_ok-functions.ensures in
    record {
      outcome = λ _. (
        shallow,
        read_stops c.args.lines.now c.in_ok-functions.functions.items c.read_functions.new.lines c.in-Some-first.line.now
            c.in-Some-first.ensures.0 reads c.in-Some-first.ensures.1,
      );
    }
