use Rattle.std.proofs.Common.{◌≡◌, ◌++◌, ◌-◌, ◌<◌, ◌≤◌, drop, length, slice_index}
use Rattle.value_sheet.specs.Edges.{sourced}
use Rattle.value_sheet.proofs.chain.append_row.Given as goal

abbrev pub invariant-loop-edge : goal.invariant-loop-edge
invariant-loop-edge l = record {
  rest : l.targets.items ++ sourced l.per l.source l.edge (drop l.edge l.sources) ≡ l.initial.targets.items ++ sourced l.per l.source 0 l.sources;
  within : l.edge ≤ length l.sources;
  is : l.edge < length l.sources → slice_index l.sources l.edge ≡ l.source;
}

abbrev pub decreases-loop-edge : goal.decreases-loop-edge
decreases-loop-edge l = length l.sources - l.edge
