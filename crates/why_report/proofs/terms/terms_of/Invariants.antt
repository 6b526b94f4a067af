use Rattle.why_report.specs.inner.Terms.{AreTerms}
use Rattle.why_report.proofs.terms.terms_of.Given as goal

abbrev pub invariant-loop-cell : goal.invariant-loop-cell
invariant-loop-cell l = AreTerms l.base l.cell l.terms
