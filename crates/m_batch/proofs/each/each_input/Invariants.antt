use Rattle.std.proofs.Common.{◌≡◌, ℕ, ◌<◌}
use Rattle.reg_machine.specs.inner.Cells.{at}
use Rattle.m_batch.specs.inner.Rows.{row_at}
use Rattle.m_batch.proofs.each.each_input.Given as goal

abbrev pub invariant-loop-r : goal.invariant-loop-r
invariant-loop-r l = (k : ℕ) → k < l.r → at l.out k ≡ at (row_at l.rows k) l.place
