use Rattle.std.proofs.Common.{arith}
use Rattle.m_fixed.proofs.Writing.{writes_negative, writes_other, front_of, end_of}
use Rattle.m_fixed.proofs.write.write_amount.Goals as goal

pub returns-then-is_negative-clause-text : goal.returns-then-is_negative-clause-text
returns-then-is_negative-clause-text c = front_of c.args.room.now _ _ _ (writes_negative c.args.room.now _ c.args.a _ _ (omega arith) c.if-is_negative.ensures
    c.size-size.ensures.value c.write_size.ensures.text)

pub returns-then-is_negative-clause-length : goal.returns-then-is_negative-clause-length
returns-then-is_negative-clause-length c = end_of c.args.room.now _ _ _ (writes_negative c.args.room.now _ c.args.a _ _ (omega arith) c.if-is_negative.ensures
    c.size-size.ensures.value c.write_size.ensures.text)

pub returns-else-is_negative-clause-text : goal.returns-else-is_negative-clause-text
returns-else-is_negative-clause-text c = front_of c.args.room.now _ _ _
    (writes_other c.args.room.now _ c.args.a _ _ c.if-is_negative.ensures c.size-size.ensures.value c.write_size-else-is_negative.ensures.text)

pub returns-else-is_negative-clause-length : goal.returns-else-is_negative-clause-length
returns-else-is_negative-clause-length c = end_of c.args.room.now _ _ _
    (writes_other c.args.room.now _ c.args.a _ _ c.if-is_negative.ensures c.size-size.ensures.value c.write_size-else-is_negative.ensures.text)
