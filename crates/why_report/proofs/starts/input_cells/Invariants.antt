use Rattle.std.proofs.Common.{◌≡◌, ◌++◌, drop}
use Rattle.why_report.specs.Starts.{input_cells, input_cells_among}
use Rattle.why_report.proofs.starts.input_cells.Given as goal

abbrev pub invariant-loop-number : goal.invariant-loop-number
invariant-loop-number l = l.cells.items ++ input_cells_among (drop l.number l.symbols.variables) ≡ input_cells l.symbols
