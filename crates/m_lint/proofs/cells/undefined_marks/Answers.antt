use Rattle.std.proofs.Common.{◌≡◌, ◌∙◌, ap, false, length, get_or, sym, subst, All, ◌<◌}
use Rattle.std.specs.Prelude.{not, ◌&&◌}
use Rattle.micro_m.specs.Bases.{is_among, targets_of}
use Rattle.m_lint.specs.inner.Marks.{cleared}
use Rattle.m_lint.proofs.SetLemmas.{cleared-at, cleared-length, targets-low}
use Rattle.m_lint.proofs.cells.undefined_marks.Goals as goal

pub without_defined-requires : goal.without_defined-requires
without_defined-requires c =
    rw c.as_slice.ensures (subst (λ n. All (λ d. d.0 < n) c.args.base.now.definitions) (sym c.in_ok-marks.ensures.count)
    (targets-low c.args.base.now.cells c.args.base.now.definitions c.requires.targets))

pub returns : goal.returns
returns c =
    let base = c.args.base.now in
    let is : c.without_defined.result.items ≡ cleared base.definitions c.in_ok-marks.marks.items = c.without_defined.ensures
    ∙ ap (λ ds. cleared ds c.in_ok-marks.marks.items) c.as_slice.ensures in
    record {
      count = ap length is ∙ cleared-length base.definitions c.in_ok-marks.marks.items ∙ c.in_ok-marks.ensures.count;
      marks = λ k low.
          ap (λ marks. get_or marks k false) is ∙ cleared-at base.definitions c.in_ok-marks.marks.items k
          ∙ ap (λ b. b && not (is_among k (targets_of base))) (c.in_ok-marks.ensures.marks k low);
    }
