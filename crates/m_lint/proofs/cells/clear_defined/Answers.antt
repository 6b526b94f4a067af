use Rattle.std.proofs.Common.{◌<◌, ℕ, length, sym, subst, arith}
use Rattle.m_places.specs.declared.place.Place.{Place}
use Rattle.micro_m.specs.declared.term.MTerm.{MTerm}
use Rattle.m_lint.proofs.cells.clear_defined.Goals as goal

pub bounds-marks-definition : goal.bounds-marks-definition
bounds-marks-definition c =
    let low = subst (λ (d : ℕ × MTerm ℕ × Place). d.0 < length c.args.marks.now) (sym c.definition-item.is)
    (c.requires c.loop-definition.definition-index c.definition-item.result c.loop-definition-test.true) in
    omega (arith, low, c.loop-definition.auto.marks)
