use Rattle.std.proofs.Common.{◌≡◌, take, map}
use Rattle.m_resolve.specs.inner.Words.{words_of}
use Rattle.m_resolve.proofs.checks.errors.Given as goal

abbrev pub invariant-loop-number : goal.invariant-loop-number
invariant-loop-number l = l.errors.items ≡ map words_of (take l.number l.symbols.errors)
