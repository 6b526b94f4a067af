use Rattle.std.proofs.Common.{◌≡◌, drop}
use Rattle.mpp_inline.specs.inner.Cells.{written}
use Rattle.mpp_inline.proofs.cells.write.Given as goal

abbrev pub invariant-loop-cell : goal.invariant-loop-cell
invariant-loop-cell l = written (drop l.cell-index l.entries) l.env ≡ written l.entries l.initial.env
