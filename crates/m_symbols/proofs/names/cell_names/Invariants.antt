use Rattle.std.proofs.Common.{◌≡◌, take, map}
use Rattle.m_symbols.specs.Cells.{cell_name}
use Rattle.m_symbols.proofs.names.cell_names.Given as goal

abbrev pub invariant-loop-cell : goal.invariant-loop-cell
invariant-loop-cell l = l.names.items ≡ map (cell_name l.symbols) (take l.cell-index l.cells)
