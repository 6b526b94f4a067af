use Rattle.std.proofs.Common.{◌≡◌, ℕ, ◌<◌}
use Rattle.m_fixed.specs.Operators.{op_value}
use Rattle.reg_machine.specs.inner.Cells.{at}
use Rattle.m_batch.proofs.each.each.Given as goal

abbrev pub invariant-loop-r : goal.invariant-loop-r
invariant-loop-r l = (k : ℕ) → k < l.r → at l.out k ≡ op_value l.op (at l.a k) (at l.b k) (at l.c k)
