use Rattle.std.proofs.Common.{◌≡◌, drop}
use Rattle.m_lint.specs.inner.Loud.{with_checks}
use Rattle.m_lint.proofs.loud.mark_checks.Given as goal

abbrev pub invariant-loop-check : goal.invariant-loop-check
invariant-loop-check l = with_checks l.known (drop l.check-index l.checks) l.marks ≡ with_checks l.known l.checks l.initial.marks
