use Rattle.std.proofs.Common.{◌≡◌, ◌++◌, drop, map}
use Rattle.m_lint.specs.declared.finding.Finding.TheVariants.{NeverStops}
use Rattle.m_lint.proofs.checks.add_all.Given as goal

abbrev pub invariant-loop-k : goal.invariant-loop-k
invariant-loop-k l = l.findings.items ++ map NeverStops (drop l.k-index l.found) ≡ l.initial.findings.items ++ map NeverStops l.found
