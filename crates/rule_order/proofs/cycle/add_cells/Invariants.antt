use Rattle.std.proofs.Common.{◌≡◌, ◌++◌, drop}
use Rattle.rule_order.specs.inner.Marks.{cells_of}
use Rattle.rule_order.proofs.cycle.add_cells.Given as goal

abbrev pub invariant-loop-frame : goal.invariant-loop-frame
invariant-loop-frame l = l.cells.items ++ cells_of (drop l.frame-index l.frames) ≡ l.initial.cells.items ++ cells_of l.frames
