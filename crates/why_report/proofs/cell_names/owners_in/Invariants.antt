use Rattle.std.proofs.Common.{◌≡◌, take}
use Rattle.m_symbols.specs.Declarations.{owners_from}
use Rattle.why_report.proofs.cell_names.owners_in.Given as goal

abbrev pub invariant-loop-cell : goal.invariant-loop-cell
invariant-loop-cell l = l.owners.items ≡ take l.cell (owners_from 0 l.symbols.variables)
