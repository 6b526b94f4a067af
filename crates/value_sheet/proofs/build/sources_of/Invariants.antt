use Rattle.std.proofs.Common.{◌≡◌, take}
use Rattle.std.specs.List.{flat_map}
use Rattle.value_sheet.specs.inner.Readers.{argument_sources}
use Rattle.value_sheet.proofs.build.sources_of.Given as goal

abbrev pub invariant-loop-node : goal.invariant-loop-node
invariant-loop-node l = l.sources.items ≡ flat_map (argument_sources l.none) (take l.node-index l.nodes)
