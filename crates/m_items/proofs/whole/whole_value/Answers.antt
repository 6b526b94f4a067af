use Rattle.std.proofs.Common.{◌+◌, arith}
use Rattle.m_items.proofs.Wholes.{short_of, value_more, value_below}
use Rattle.m_items.proofs.whole.whole_value.Goals as goal

pub loop-byte-preserved : goal.loop-byte-preserved
loop-byte-preserved c =
    rw c.bytes-byte-items.ensures (let more = value_more c.args.spelling.now c.loop-byte.byte-index (short_of c.args.spelling.now c.requires)
    (rw c.bytes-byte-items.ensures at c.loop-byte-test.true) in
    omega (arith, more, c.loop-byte.invariant))

pub overflow_mul-value : goal.overflow_mul-value
overflow_mul-value c =
    let more = value_more c.args.spelling.now c.loop-byte.byte-index (short_of c.args.spelling.now c.requires)
    (rw c.bytes-byte-items.ensures at c.loop-byte-test.true) in
    let below = value_below c.args.spelling.now (c.loop-byte.byte-index + 1) (short_of c.args.spelling.now c.requires) in
    omega (arith, more, below, c.loop-byte.invariant)

pub overflow_add-value : goal.overflow_add-value
overflow_add-value c =
    rw c.bytes-byte-items.ensures (let more = value_more c.args.spelling.now c.loop-byte.byte-index (short_of c.args.spelling.now c.requires)
    (rw c.bytes-byte-items.ensures at c.loop-byte-test.true) in
    let below = value_below c.args.spelling.now (c.loop-byte.byte-index + 1) (short_of c.args.spelling.now c.requires) in
    omega (arith, more, below, c.loop-byte.invariant))
