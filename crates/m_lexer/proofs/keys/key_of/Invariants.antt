use Rattle.std.proofs.Common.{◌≢◌, ◌<◌, ℕ, get_or}
use Rattle.m_lexer.specs.declared.token.Key.{Key}
use Rattle.m_lexer.specs.Spellings.{key_spelling}
use Rattle.m_lexer.proofs.keys.key_of.Given as goal

abbrev pub invariant-loop-key : goal.invariant-loop-key
invariant-loop-key l = (i : ℕ) (d : Key) → i < l.key-index → l.word ≢ key_spelling (get_or l.key-items i d)
