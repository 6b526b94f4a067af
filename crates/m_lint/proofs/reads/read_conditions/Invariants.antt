use Rattle.std.proofs.Common.{◌≡◌, drop, map}
use Rattle.m_lint.specs.inner.Marks.{reach_of_terms}
use Rattle.m_lint.proofs.reads.read_conditions.Given as goal

abbrev pub invariant-loop-check : goal.invariant-loop-check
invariant-loop-check l = reach_of_terms (map (λ check. check.0) (drop l.check-index l.checks)) l.reach ≡ reach_of_terms (map (λ check. check.0) l.checks)
    l.initial.reach
