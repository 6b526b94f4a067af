use Rattle.std.proofs.Common.{◌≡◌, take}
use Rattle.m_batch.specs.inner.Rows.{row_of}
use Rattle.m_batch.proofs.columns.outputs_of.Given as goal

abbrev pub invariant-loop-k : goal.invariant-loop-k
invariant-loop-k l = l.outputs.items ≡ row_of l.r (take l.k l.columns)
