use Rattle.std.proofs.Common.{◌≡◌, drop}
use Rattle.m_lint.specs.inner.Marks.{cleared}
use Rattle.m_lint.proofs.cells.clear_defined.Given as goal

abbrev pub invariant-loop-definition : goal.invariant-loop-definition
invariant-loop-definition l = cleared (drop l.definition-index l.definitions) l.marks ≡ cleared l.definitions l.initial.marks
