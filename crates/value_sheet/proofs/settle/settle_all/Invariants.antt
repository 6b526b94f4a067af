use Rattle.std.proofs.Common.{◌-◌, ◌≤◌, length}
use Rattle.flat_code.specs.Runs.{node_values}
use Rattle.value_sheet.specs.inner.Sound.{IsSettling}
use Rattle.value_sheet.proofs.settle.settle_all.Given as goal

abbrev pub invariant-loop-k : goal.invariant-loop-k
invariant-loop-k g l = record {
  settling : IsSettling l.graph.nodes.now l.puts l.fn.kept (node_values l.inputs l.graph.nodes.now) l.kept l.marks l.p l.fn.steps l.steps;
  within : l.p ≤ length l.graph.nodes.now;
}

abbrev pub decreases-loop-k : goal.decreases-loop-k
decreases-loop-k g l = length l.graph.nodes.now - l.p
