use Rattle.std.proofs.Common.{arith}
use Rattle.m_ports.proofs.SourceLemmas.{rose_by_moved}
use Rattle.m_ports.proofs.host.read_whole.Goals as goal

pub returns-then-count-room-clause-moved : goal.returns-then-count-room-clause-moved
returns-then-count-room-clause-moved g c =
    rose_by_moved _ _ _ c.loop-bytes.bytes.items c.read_open.new.piece c.in-Ok.count c.args.taken.now _ c.loop-bytes.invariant.moved c.in-Ok.ensures.bytes.0
    c.in-Ok.ensures.bound.0 (omega arith)

pub returns-in_err-extend_from_slice-clause-moved :
    goal.returns-in_err-extend_from_slice-clause-moved
returns-in_err-extend_from_slice-clause-moved g c =
    rose_by_moved _ _ _ c.loop-bytes.bytes.items c.read_open.new.piece c.in-Ok.count c.args.taken.now _ c.loop-bytes.invariant.moved c.in-Ok.ensures.bytes.0
    c.in-Ok.ensures.bound.0 (omega arith)
