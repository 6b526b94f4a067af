use Rattle.std.proofs.Common.{◌≡◌, ◌++◌, drop}
use Rattle.m_lint.specs.inner.Loud.{coded_word}
use Rattle.m_lint.proofs.labels.add_word.Given as goal

abbrev pub invariant-loop-byte : goal.invariant-loop-byte
invariant-loop-byte l = l.code.items ++ coded_word (drop l.byte-index l.word) ≡ l.initial.code.items ++ coded_word l.word
