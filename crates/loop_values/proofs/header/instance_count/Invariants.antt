use Rattle.std.proofs.Common.{◌≡◌, ◌*◌, ◌≤◌, drop, min}
use Rattle.loop_values.specs.declared.values.TheConstants.{MANY}
use Rattle.loop_values.specs.Headers as spec
use Rattle.loop_values.proofs.header.instance_count.Given as goal

abbrev pub invariant-loop-index : goal.invariant-loop-index
invariant-loop-index l = (l.count ≤ MANY)
    × (min (l.count * spec.instance_count (drop l.index-index l.indexes)) MANY ≡ min (l.before * spec.instance_count l.indexes) MANY)
