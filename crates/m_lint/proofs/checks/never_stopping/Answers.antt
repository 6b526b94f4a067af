use Rattle.std.proofs.Common.{◌≡◌, ◌∙◌, ap, sym, length, arith, []}
use Rattle.m_lint.specs.Findings.{is_never_stopping}
use Rattle.m_lint.specs.inner.Loud.{loud_of, with_labels, is_unmarked}
use Rattle.m_lint.proofs.NumberLemmas.{numbers-found}
use Rattle.m_lint.proofs.LoudLemmas.{unmarked-never, first-length}
use Rattle.m_lint.proofs.checks.never_stopping.Goals as goal

pub marked_labels-requires : goal.marked_labels-requires
marked_labels-requires c = ap length c.as_slice.ensures ∙ sym (ap length c.deref.ensures.value ∙ c.in_ok-marks.ensures.count)

pub unmarked-requires-clause-marks : goal.unmarked-requires-clause-marks
unmarked-requires-clause-marks c = omega (
  arith,
  first-length c.args.base.now.labels c.args.face.now.labels c.requires.first_labels,
  ap length
      c.deref-2.ensures.value,
  c.in_ok-marks.ensures.count,
)

pub returns : goal.returns
returns c =
    let base = c.args.base.now in
    let flat = c.args.flat.now in
    let face = c.args.face.now in
    let marks : c.in_ok-marks.marks.items ≡ loud_of c.args.known.now flat face = c.in_ok-marks.ensures.marks in
    let names : c.in_ok-names.names ≡ with_labels face.labels (loud_of c.args.known.now flat face) [] =
    c.in_ok-names.ensures ∙ ap (λ labels. with_labels labels c.deref.result.now []) c.as_slice.ensures
    ∙ ap (λ bs. with_labels face.labels bs []) (c.deref.ensures.value ∙ marks) in
    numbers-found c.unmarked.result (λ found. found.items) _ (is_never_stopping c.args.known.now base flat face) (length base.checks)
    (λ k low. ap (λ bs. is_unmarked base bs c.in_ok-names.names k) (c.deref-2.ensures.value ∙ marks)
    ∙ ap (λ ns. is_unmarked base (loud_of c.args.known.now flat face) ns k) names ∙ unmarked-never c.args.known.now base flat face k c.requires.first_labels)
    c.unmarked.ensures
