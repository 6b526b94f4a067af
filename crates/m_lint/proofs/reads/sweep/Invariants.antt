use Rattle.std.proofs.Common.{◌≡◌, ◌++◌, drop}
use Rattle.m_lint.specs.inner.Marks.{swept}
use Rattle.m_lint.proofs.reads.sweep.Given as goal

abbrev pub invariant-loop-cell : goal.invariant-loop-cell
invariant-loop-cell l = l.marks.items ++ swept l.cell l.until (drop l.cell l.reach) ≡ swept 0 0 l.reach
