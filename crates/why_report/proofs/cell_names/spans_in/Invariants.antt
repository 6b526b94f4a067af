use Rattle.std.proofs.Common.{◌≡◌, take, map}
use Rattle.m_symbols.specs.Spans.{span_of}
use Rattle.why_report.proofs.cell_names.spans_in.Given as goal

abbrev pub invariant-loop-number : goal.invariant-loop-number
invariant-loop-number l = l.spans.items ≡ map span_of (take l.number l.symbols.variables)
