use Rattle.std.proofs.Common.{◌≡◌, ◌≤◌, ◌-◌, ◌++◌}
use Rattle.std.specs.List.{range_with_len}
use Rattle.m_symbols.proofs.cells.add_returned.Given as goal

abbrev pub invariant-loop-cell : goal.invariant-loop-cell
invariant-loop-cell l = record {
  whole : l.cells.items ++ range_with_len l.cell (l.cell-end - l.cell) ≡ l.fn.cells.items ++ range_with_len l.variable.first_cell l.variable.cells;
  within : l.cell ≤ l.cell-end;
}
