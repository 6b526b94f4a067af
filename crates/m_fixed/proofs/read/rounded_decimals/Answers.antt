use Rattle.std.proofs.Common.{◌≡◌, sym, arith}
use Rattle.m_fixed.proofs.Rounds.{more_read, read_up, read_down}
use Rattle.m_fixed.proofs.read.rounded_decimals.Goals as goal

pub loop-place-preserved : goal.loop-place-preserved
loop-place-preserved c = more_read c.args.decimals.now _ _ _ c.requires c.loop-place.invariant c.decimal_at.ensures.value c.decimal_at.ensures.small

pub returns-then-decimal_at-ge5-clause-value : goal.returns-then-decimal_at-ge5-clause-value
returns-then-decimal_at-ge5-clause-value c =
    let six : c.loop-place.place ≡ 6 = omega arith in
    let read = rw six at c.loop-place.invariant in
    sym (read_up c.args.decimals.now 6 _ _ c.requires read c.decimal_at-2.ensures.value (omega arith))

pub returns-else-decimal_at-ge5-clause-value : goal.returns-else-decimal_at-ge5-clause-value
returns-else-decimal_at-ge5-clause-value c =
    let six : c.loop-place.place ≡ 6 = omega arith in
    let read = rw six at c.loop-place.invariant in
    sym (read_down c.args.decimals.now 6 _ _ c.requires read c.decimal_at-2.ensures.value (omega arith))
