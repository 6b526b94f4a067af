use Rattle.std.proofs.Common.{◌≡◌, ◌++◌, drop}
use Rattle.std.specs.List.{flat_map}
use Rattle.loop_values.specs.Values.{span_values}
use Rattle.loop_values.proofs.values.index_values.Given as goal

abbrev pub invariant-loop-span : goal.invariant-loop-span
invariant-loop-span l = l.values.items ++ flat_map span_values (drop l.span-index l.index.values) ≡ flat_map span_values l.index.values
