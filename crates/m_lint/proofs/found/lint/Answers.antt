use Rattle.std.proofs.Common.{◌≡◌, rules, sym, subst, length}
use Rattle.m_lint.specs.Findings.{findings_of, AreWithinCounts}
use Rattle.m_lint.proofs.TruthLemmas.{all_within}
use Rattle.m_lint.proofs.found.lint.Goals as goal

pub returns-clause-within : goal.returns-clause-within
returns-clause-within c =
    let declared = c.args.symbols.now in
    let base = c.args.base.now in
    let flat = c.args.tidy.now in
    let face = c.args.face.now in
    let is : c.from_vec.result ≡ findings_of declared base flat face = search rules in
    subst (AreWithinCounts base.cells (length base.checks) flat.inputs) (sym is) (all_within declared base flat face)
