use Rattle.std.proofs.Common.{ℕ, ◌≤◌, ◌<◌, ◌≢◌, get_or}
use Rattle.m_text.specs.Bytes.{quote}
use Rattle.m_text.proofs.runs.quote_end.Given as goal

abbrev pub invariant-loop-end : goal.invariant-loop-end
invariant-loop-end l = (k : ℕ) → l.from ≤ k → k < l.end → get_or l.bytes k 0 ≢ quote
