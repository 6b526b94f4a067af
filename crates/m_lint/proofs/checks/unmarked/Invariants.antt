use Rattle.std.proofs.Common.{◌≡◌}
use Rattle.m_lint.specs.Findings.{numbers_with}
use Rattle.m_lint.specs.inner.Loud.{is_unmarked}
use Rattle.m_lint.proofs.checks.unmarked.Given as goal

abbrev pub invariant-loop-k : goal.invariant-loop-k
invariant-loop-k l = l.found.items ≡ numbers_with (is_unmarked l.base l.marks l.names) l.k
