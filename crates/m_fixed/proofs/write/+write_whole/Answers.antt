use Rattle.std.proofs.Common.{arith}
use Rattle.std.proofs.lemmas.Fmt.{decimal_digit, decimal_step}
use Rattle.m_fixed.proofs.Writing.{writes_none, writes_before, writes_behind, decimal_one, decimal_more}
use Rattle.m_fixed.proofs.write.+write_whole.Goals as goal

pub bounds-room-at : goal.bounds-room-at
bounds-room-at t c = omega (arith, decimal_one c.args.n c.if-n-lt10.true)

pub returns-then-n-lt10 : goal.returns-then-n-lt10
returns-then-n-lt10 t c = rw (decimal_digit c.args.n c.if-n-lt10.true)
    (writes_before c.args.room.now _ c.args.at _ _ _ (omega (arith, decimal_one c.args.n c.if-n-lt10.true)) (writes_none _ _))

pub write_whole-end-requires : goal.write_whole-end-requires
write_whole-end-requires t c =
    let more = decimal_more c.args.n c.if-n-lt10.false (omega arith) in
    (omega (arith, c.decreases, c.if-n-lt10.false), omega arith)

pub bounds-room-end : goal.bounds-room-end
bounds-room-end t c =
    let more = decimal_more c.args.n c.if-n-lt10.false (omega arith) in
    omega (arith, c.write_whole-end.ensures.length)

pub returns : goal.returns
returns t c =
    let more = decimal_more c.args.n c.if-n-lt10.false (omega arith) in
    rw (decimal_step c.args.n c.if-n-lt10.false (omega arith))
    (writes_behind c.args.room.now _ c.args.at _ _ _ (omega (arith, c.write_whole-end.ensures.length)) c.write_whole-end.ensures)
