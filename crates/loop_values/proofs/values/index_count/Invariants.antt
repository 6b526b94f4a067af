use Rattle.std.proofs.Common.{◌≡◌, ◌+◌, ◌≤◌, drop, length, min}
use Rattle.std.specs.List.{flat_map}
use Rattle.loop_values.specs.declared.values.TheConstants.{MANY}
use Rattle.loop_values.specs.Values.{span_values}
use Rattle.loop_values.proofs.values.index_count.Given as goal

abbrev pub invariant-loop-span : goal.invariant-loop-span
invariant-loop-span l = (l.count ≤ MANY)
    × (min (l.count + length (flat_map span_values (drop l.span-index l.index.values))) MANY ≡ min (length (flat_map span_values l.index.values)) MANY)
