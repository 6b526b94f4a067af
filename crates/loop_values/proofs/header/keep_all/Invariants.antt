use Rattle.std.proofs.Common.{◌≤◌, ◌++◌, List, drop, length}
use Rattle.m_ast.specs.declared.header.Index.{Index}
use Rattle.loop_values.specs.inner.Kept.{AreKept}
use Rattle.loop_values.proofs.header.keep_all.Given as goal

abbrev pub invariant-loop-left : goal.invariant-loop-left
invariant-loop-left l = record {
  within : l.left ≤ length l.indexes;
  kept : (all : List Index) → AreKept l.initial.kept.items l.initial.bound all → AreKept l.kept.items l.bound (drop l.left l.indexes ++ all);
}

abbrev pub decreases-loop-left : goal.decreases-loop-left
decreases-loop-left l = l.left
