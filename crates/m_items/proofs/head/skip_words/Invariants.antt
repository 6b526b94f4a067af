use Rattle.std.proofs.Common.{◌≡◌, ◌≤◌, length}
use Rattle.m_items.specs.inner.RuleReading.{behind_words}
use Rattle.m_items.proofs.head.skip_words.Given as goal

abbrev pub invariant-words : goal.invariant-words
invariant-words l = record {
  words : behind_words l.fn.cursor ≡ behind_words l.cursor;
  shorter : length l.cursor ≤ length l.fn.cursor;
}

abbrev pub decreases-words : goal.decreases-words
decreases-words l = length l.cursor
