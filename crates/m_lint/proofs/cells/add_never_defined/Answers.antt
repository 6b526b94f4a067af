use Rattle.std.proofs.Common.{◌≡◌, ◌∙◌, ap, false, length, get_or}
use Rattle.std.specs.Prelude.{not, ◌&&◌}
use Rattle.m_lint.specs.declared.finding.Finding.TheVariants.{NeverDefined}
use Rattle.m_lint.specs.Findings.{is_given, is_never_defined}
use Rattle.m_lint.proofs.NumberLemmas.{found-same}
use Rattle.m_lint.proofs.SetLemmas.{never-defined}
use Rattle.m_lint.proofs.cells.add_never_defined.Goals as goal

pub returns : goal.returns
returns c =
    let declared = c.args.symbols.now in
    let base = c.args.base.now in
    let so_many : length c.deref.result.now ≡ base.cells = ap length c.deref.ensures.value ∙ c.in_ok-marks.ensures.count in
    found-same c.add_marked.result NeverDefined c.args.findings.now.items _ (λ k. get_or c.deref.result.now k false && not (is_given declared k))
    (is_never_defined declared base)
    (length c.deref.result.now) base.cells so_many
    (λ k low. never-defined declared base k (get_or c.deref.result.now k false) (ap (λ marks. get_or marks k false) c.deref.ensures.value
    ∙ c.in_ok-marks.ensures.marks k (rw so_many at low)))
    c.add_marked.ensures
