use Rattle.std.proofs.Common.{◌≡◌, ◌*◌, ◌≤◌, drop, min}
use Rattle.loop_values.specs.declared.values.TheConstants.{MANY}
use Rattle.loop_values.specs.Headers as spec
use Rattle.loop_values.proofs.header.headers_count.Given as goal

abbrev pub invariant-loop-header : goal.invariant-loop-header
invariant-loop-header l = (l.count ≤ MANY)
    × (min (l.count * spec.instance_count (spec.all_indexes (drop l.header-index l.headers))) MANY ≡ min (spec.instance_count (spec.all_indexes l.headers))
    MANY)
