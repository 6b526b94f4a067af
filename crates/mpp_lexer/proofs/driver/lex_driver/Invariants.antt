use Rattle.std.proofs.Common.{◌+◌, ◌≤◌, ◌++◌, ℕ, List, length}
use Rattle.m_text.specs.Lines.{lines_of}
use Rattle.mpp_lexer.specs.declared.piece.Line.{Line}
use Rattle.mpp_lexer.specs.Lines.{Lexes, FirstBadToken}
use Rattle.mpp_lexer.proofs.driver.lex_driver.Given as goal

abbrev pub invariant-loop-text : goal.invariant-loop-text
invariant-loop-text l = record {
  lists : (lines : List Line) → Lexes l.number (lines_of l.rest) lines → Lexes 1 (lines_of l.fn.bytes) (l.lines.items ++ lines);
  faults : (fault : ℕ) → FirstBadToken l.number (lines_of l.rest) fault → FirstBadToken 1 (lines_of l.fn.bytes) fault;
  from_one : 1 ≤ l.number;
  small : l.number + length l.rest ≤ 1 + length l.fn.bytes;
}

abbrev pub decreases-loop-text : goal.decreases-loop-text
decreases-loop-text l = length l.rest
