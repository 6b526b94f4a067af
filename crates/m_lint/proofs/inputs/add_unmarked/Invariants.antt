use Rattle.std.proofs.Common.{◌≡◌, ◌++◌, false, map}
use Rattle.std.specs.Prelude.{slice_index_or, not}
use Rattle.m_lint.specs.declared.finding.Finding.TheVariants.{Unused}
use Rattle.m_lint.specs.Findings.{numbers_with}
use Rattle.m_lint.proofs.inputs.add_unmarked.Given as goal

abbrev pub invariant-loop-n : goal.invariant-loop-n
invariant-loop-n l = l.findings.items ≡ l.initial.findings.items ++ map Unused (numbers_with (λ n. not (slice_index_or l.marks n false)) l.n)
