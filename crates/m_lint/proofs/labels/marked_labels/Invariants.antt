use Rattle.std.proofs.Common.{◌≡◌, drop, []}
use Rattle.m_lint.specs.inner.Loud.{with_labels}
use Rattle.m_lint.proofs.labels.marked_labels.Given as goal

abbrev pub invariant-loop-k : goal.invariant-loop-k
invariant-loop-k l = with_labels (drop l.k l.labels) (drop l.k l.marks) l.names ≡ with_labels l.labels l.marks []
