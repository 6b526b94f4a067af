use Rattle.std.proofs.Common.{◌≡◌, take}
use Rattle.mpp_core.specs.Cores.{received_cells}
use Rattle.mpp_core.proofs.plain.received_cells.Given as goal

abbrev pub invariant-loop-cell : goal.invariant-loop-cell
invariant-loop-cell l = l.cells.items ≡ received_cells (take l.cell-index l.requests) l.symbols
