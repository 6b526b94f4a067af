use Rattle.std.proofs.Common.{◌≡◌, drop}
use Rattle.m_lint.specs.inner.Loud.{with_notes}
use Rattle.m_lint.proofs.loud.mark_notes.Given as goal

abbrev pub invariant-loop-k : goal.invariant-loop-k
invariant-loop-k l = with_notes l.known (drop l.k l.outputs) (drop l.k l.nodes) l.marks ≡ with_notes l.known l.outputs l.nodes l.initial.marks
