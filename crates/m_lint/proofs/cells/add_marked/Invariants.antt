use Rattle.std.proofs.Common.{◌≡◌, ◌++◌, false, map}
use Rattle.std.specs.Prelude.{slice_index_or, not, ◌&&◌}
use Rattle.m_lint.specs.declared.finding.Finding.TheVariants.{NeverDefined}
use Rattle.m_lint.specs.Findings.{is_given, numbers_with}
use Rattle.m_lint.proofs.cells.add_marked.Given as goal

abbrev pub invariant-loop-cell : goal.invariant-loop-cell
invariant-loop-cell l =
    l.findings.items ≡ l.initial.findings.items ++ map NeverDefined (numbers_with (λ c. slice_index_or l.marks c false && not (is_given l.symbols c)) l.cell)
