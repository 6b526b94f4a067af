use Rattle.std.proofs.Common.{◌≡◌, drop, map}
use Rattle.m_lint.specs.inner.Marks.{reach_of_terms}
use Rattle.m_lint.proofs.reads.read_definitions.Given as goal

abbrev pub invariant-loop-definition : goal.invariant-loop-definition
invariant-loop-definition l = reach_of_terms (map (λ d. d.1) (drop l.definition-index l.definitions)) l.reach ≡ reach_of_terms (map (λ d. d.1) l.definitions)
    l.initial.reach
