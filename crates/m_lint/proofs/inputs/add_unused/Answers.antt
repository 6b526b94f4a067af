use Rattle.std.proofs.Common.{◌∙◌, refl, ap, false, get_or}
use Rattle.std.specs.Prelude.{not}
use Rattle.m_lint.specs.declared.finding.Finding.TheVariants.{Unused}
use Rattle.m_lint.specs.Findings.{is_unused}
use Rattle.m_lint.proofs.NumberLemmas.{found-same}
use Rattle.m_lint.proofs.SetLemmas.{unused-at}
use Rattle.m_lint.proofs.inputs.add_unused.Goals as goal

pub returns : goal.returns
returns c =
    let flat = c.args.flat.now in
    found-same c.add_unmarked.result Unused c.args.findings.now.items _ _ (is_unused flat) flat.inputs flat.inputs refl
    (λ k low. ap (λ marks. not (get_or marks k false)) (c.deref.ensures.value ∙ c.in_ok-marks.ensures.marks) ∙ unused-at flat k low)
    c.add_unmarked.ensures
