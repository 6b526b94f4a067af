use Rattle.std.proofs.Common.{◌≡◌, take}
use Rattle.std.specs.Prelude.{map}
use Rattle.value_sheet.specs.inner.Readers.{input_source}
use Rattle.value_sheet.proofs.build.input_sources_of.Given as goal

abbrev pub invariant-loop-node : goal.invariant-loop-node
invariant-loop-node l = l.sources.items ≡ map (input_source l.none) (take l.node-index l.nodes)
