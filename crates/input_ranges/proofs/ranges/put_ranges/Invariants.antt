use Rattle.std.proofs.Common.{◌≡◌, ◌≤◌, length, drop}
use Rattle.input_ranges.specs.Ranges.{facts_within}
use Rattle.input_ranges.proofs.ranges.put_ranges.Given as goal

abbrev pub invariant-loop-left : goal.invariant-loop-left
invariant-loop-left l = record {
  within : l.left ≤ length l.ranges;
  filled : l.facts ≡ facts_within (drop l.left l.ranges) l.inputs;
}

abbrev pub decreases-loop-left : goal.decreases-loop-left
decreases-loop-left l = l.left
