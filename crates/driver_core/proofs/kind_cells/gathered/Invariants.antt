use Rattle.std.proofs.Common.{◌≡◌, ◌++◌, drop}
use Rattle.driver_core.specs.Groups.{joined}
use Rattle.driver_core.proofs.kind_cells.gathered.Given as goal

abbrev pub invariant-loop-value : goal.invariant-loop-value
invariant-loop-value l = l.cells.items ++ joined l.index l.attribute (drop l.value-index l.values) ≡ joined l.index l.attribute l.values
