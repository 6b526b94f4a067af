use Rattle.std.proofs.Common.{◌≡◌, drop}
use Rattle.mpp_inline.specs.inner.Cells.{blanked}
use Rattle.mpp_inline.proofs.cells.blank.Given as goal

abbrev pub invariant-loop-cell : goal.invariant-loop-cell
invariant-loop-cell l = blanked 0 (drop l.cell-index l.cells) l.env ≡ blanked 0 l.cells l.initial.env
