use Rattle.std.proofs.Common.{◌≡◌, drop, length}
use Rattle.flat_code.specs.Runs.{AreNodes}
use Rattle.m_lint.specs.inner.Marks.{with_inputs}
use Rattle.m_lint.proofs.inputs.mark_inputs.Given as goal

abbrev pub invariant-loop-node : goal.invariant-loop-node
invariant-loop-node l = (with_inputs (drop l.node-index l.nodes) l.marks ≡ with_inputs l.nodes l.initial.marks)
    × AreNodes (length l.marks) l.node-index (drop l.node-index l.nodes)
