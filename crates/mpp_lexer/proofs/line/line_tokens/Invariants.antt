use Rattle.std.proofs.Common.{◌≢◌, ◌<◌, ◌≤◌, ◌-◌, length, get_or}
use Rattle.m_text.specs.Bytes.{space}
use Rattle.mpp_lexer.specs.inner.Steps.{GoesOn}
use Rattle.mpp_lexer.proofs.line.line_tokens.Given as goal

abbrev pub invariant-loop-at : goal.invariant-loop-at
invariant-loop-at l = record {
  within : l.at ≤ length l.line;
  no_space : l.at < length l.line → get_or l.line l.at 0 ≢ space;
  steps : GoesOn l.line 0 l.tokens.items l.at;
}

abbrev pub decreases-loop-at : goal.decreases-loop-at
decreases-loop-at l = length l.line - l.at
