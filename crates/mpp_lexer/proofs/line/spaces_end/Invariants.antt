use Rattle.std.proofs.Common.{◌≡◌, ℕ, ◌≤◌, ◌<◌, get_or}
use Rattle.m_text.specs.Bytes.{space}
use Rattle.mpp_lexer.proofs.line.spaces_end.Given as goal

abbrev pub invariant-loop-end : goal.invariant-loop-end
invariant-loop-end l = (k : ℕ) → l.from ≤ k → k < l.end → get_or l.line k 0 ≡ space
