use Rattle.std.proofs.Common.{◌≡◌, ◌++◌, drop}
use Rattle.mpp_inline.specs.inner.Cells.{picked}
use Rattle.mpp_inline.proofs.cells.pick_cells.Given as goal

abbrev pub invariant-loop-cell : goal.invariant-loop-cell
invariant-loop-cell l = l.entries.items ++ picked 0 (drop l.cell-index l.cells) l.env ≡ picked 0 l.cells l.env
