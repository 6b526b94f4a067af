use Rattle.std.proofs.Common.{arith}
use Rattle.loop_values.proofs.Numbers.{number_more, number_below, number_fits, digit_below}
use Rattle.loop_values.proofs.values.number.Goals as goal

pub overflow_mul-number : goal.overflow_mul-number
overflow_mul-number c = omega (arith, number_fits c.loop-byte.byte-index c.loop-byte.number (omega arith) c.loop-byte.invariant.1)

pub overflow_add-number : goal.overflow_add-number
overflow_add-number c =
    omega (
      arith,
      number_fits c.loop-byte.byte-index c.loop-byte.number (omega arith) c.loop-byte.invariant.1,
      digit_below c.args.word.now
          c.loop-byte.byte-index c.requires.digits c.loop-byte-test.true,
    )

pub loop-byte-preserved : goal.loop-byte-preserved
loop-byte-preserved c = (
  number_more c.args.word.now c.loop-byte.byte-index c.loop-byte.number c.requires.digits c.loop-byte-test.true c.loop-byte.invariant.0,
  number_below c.args.word.now c.loop-byte.byte-index c.loop-byte.number c.requires.digits c.loop-byte-test.true c.loop-byte.invariant.1,
)
