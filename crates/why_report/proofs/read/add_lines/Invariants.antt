use Rattle.std.proofs.Common.{◌≡◌, ◌≤◌, ◌<◌, ◌+◌, [], length, All}
use Rattle.m_text.specs.Lines.{exact_lines_of}
use Rattle.m_symbols.specs.Declarations.{owners_from}
use Rattle.why_report.specs.Reports.{parsed_lines}
use Rattle.why_report.proofs.read.add_lines.Given as goal

abbrev pub invariant-loop-line : goal.invariant-loop-line
invariant-loop-line l = record {
  same : parsed_lines l.symbols l.number l.lines.items (exact_lines_of l.left) ≡ parsed_lines l.symbols 1 [] (exact_lines_of l.bytes);
  known : All (λ line. line.cell < length (owners_from 0 l.symbols.variables)) l.lines.items;
  few : l.number + length l.left ≤ length l.bytes + 1;
}

abbrev pub decreases-loop-line : goal.decreases-loop-line
decreases-loop-line l = length l.left
