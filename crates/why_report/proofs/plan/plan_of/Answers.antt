use Rattle.std.proofs.Common.{◌<◌, length, ap, sym, ◌∙◌, subst, arith}
use Rattle.std.specs.List.{All}
use Rattle.micro_m.specs.Bases.{AreDistinctCells}
use Rattle.why_report.proofs.DownLemmas.{all-left, down-distinct, down-length, down-all}
use Rattle.why_report.specs.Reasons.{cells_down}
use Rattle.why_report.proofs.plan.plan_of.Goals as goal

pub spots_of-requires-clause-once : goal.spots_of-requires-clause-once
spots_of-requires-clause-once c =
    let ordered = c.args.ordered.now in
    subst AreDistinctCells (sym (c.deref.ensures.value ∙ c.in_ok-cells.ensures))
    (down-distinct ordered.base (cells_down ordered) (all-left ordered c.requires.valid c.requires.order).down)

pub spots_of-requires-clause-within : goal.spots_of-requires-clause-within
spots_of-requires-clause-within c =
    let ordered = c.args.ordered.now in
    subst (All (λ n. n < ordered.base.cells)) (sym (c.deref.ensures.value ∙ c.in_ok-cells.ensures)) (down-all ordered c.requires.valid c.requires.order)

pub spots_of-requires-clause-few : goal.spots_of-requires-clause-few
spots_of-requires-clause-few c =
    let ordered = c.args.ordered.now in
    omega (arith, ap length (c.deref.ensures.value ∙ c.in_ok-cells.ensures), down-length ordered c.requires.valid c.requires.order)
