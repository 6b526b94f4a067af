use Rattle.std.proofs.Common.{sym}
use Rattle.m_items.proofs.FaultLaws.{read_all, read_stops, items_whole}
use Rattle.m_items.proofs.reads.parse.Goals as goal

pub returns-in-None-clause-outcome : goal.returns-in-None-clause-outcome
returns-in-None-clause-outcome c =
    let reads = rw c.new-cursor.ensures at c.in_ok-items.ensures in
    rw c.from_vec.ensures (read_all c.args.tokens.now reads c.in-None.ensures)

pub returns-in-None-clause-whole : goal.returns-in-None-clause-whole
returns-in-None-clause-whole c =
    let reads = rw c.new-cursor.ensures at c.in_ok-items.ensures in
    rw c.from_vec.ensures (items_whole (read_all c.args.tokens.now reads c.in-None.ensures))

pub returns-in-Some-next-clause-outcome : goal.returns-in-Some-next-clause-outcome
returns-in-Some-next-clause-outcome c = λ other.
    let reads = rw c.new-cursor.ensures at c.in_ok-items.ensures in
    record {
      shallow = sym (rw c.in_default.is at c.depth_fault.ensures);
      stops = read_stops c.args.tokens.now reads c.in-Some-next.ensures;
    }
