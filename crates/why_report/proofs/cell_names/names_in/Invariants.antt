use Rattle.std.proofs.Common.{◌≡◌, take, map}
use Rattle.m_symbols.specs.Declarations.{name_of}
use Rattle.why_report.proofs.cell_names.names_in.Given as goal

abbrev pub invariant-loop-number : goal.invariant-loop-number
invariant-loop-number l = l.names.items ≡ map name_of (take l.number l.symbols.variables)
