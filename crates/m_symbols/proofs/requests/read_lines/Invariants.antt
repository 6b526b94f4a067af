use Rattle.std.proofs.Common.{◌≡◌, ◌≤◌, ◌<◌, ◌+◌, [], length, All}
use Rattle.m_text.specs.Lines.{lines_of}
use Rattle.m_symbols.specs.Declarations.{owners_from}
use Rattle.m_symbols.specs.Requests.{parsed_lines}
use Rattle.m_symbols.proofs.requests.read_lines.Given as goal

abbrev pub invariant-loop-line : goal.invariant-loop-line
invariant-loop-line l = record {
  same : parsed_lines l.symbols l.number l.cells.items (lines_of l.left) ≡ parsed_lines l.symbols 1 [] (lines_of l.bytes);
  known : All (λ c. c < length (owners_from 0 l.symbols.variables)) l.cells.items;
  few : l.number + length l.left ≤ length l.bytes + 1;
}

abbrev pub decreases-loop-line : goal.decreases-loop-line
decreases-loop-line l = length l.left
