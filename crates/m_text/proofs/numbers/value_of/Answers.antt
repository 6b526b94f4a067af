use Rattle.std.proofs.Common.{◌+◌, arith}
use Rattle.m_text.proofs.Digits.{value_more, value_below}
use Rattle.m_text.proofs.numbers.value_of.Goals as goal

pub loop-byte-preserved : goal.loop-byte-preserved
loop-byte-preserved c =
    let more = value_more c.args.text.now c.loop-byte.byte-index c.requires.digits c.loop-byte-test.true in
    omega (arith, more, c.loop-byte.invariant)

pub overflow_mul-value : goal.overflow_mul-value
overflow_mul-value c =
    let more = value_more c.args.text.now c.loop-byte.byte-index c.requires.digits c.loop-byte-test.true in
    let below = value_below c.args.text.now (c.loop-byte.byte-index + 1) c.requires.digits c.requires.short in
    omega (arith, more, below, c.loop-byte.invariant)

pub overflow_add-value : goal.overflow_add-value
overflow_add-value c =
    let more = value_more c.args.text.now c.loop-byte.byte-index c.requires.digits c.loop-byte-test.true in
    let below = value_below c.args.text.now (c.loop-byte.byte-index + 1) c.requires.digits c.requires.short in
    omega (arith, more, below, c.loop-byte.invariant)
