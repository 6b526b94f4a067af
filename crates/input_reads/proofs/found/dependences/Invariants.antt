use Rattle.std.proofs.Common.{◌≡◌, ◌-◌, ◌≤◌, length, map, take}
use Rattle.input_reads.specs.Reads.{depends_on}
use Rattle.input_reads.proofs.found.dependences.Given as goal

abbrev pub invariant-loop-from : goal.invariant-loop-from
invariant-loop-from l = (l.from ≤ length l.wanted) × (l.found.items ≡ map (depends_on l.known l.nodes l.inputs) (take l.from l.wanted))

abbrev pub decreases-loop-from : goal.decreases-loop-from
decreases-loop-from l = length l.wanted - l.from
