use Rattle.std.proofs.Common.{get_or, refl}
use Rattle.why_report.proofs.PlanLemmas.{spots-next}
use Rattle.why_report.proofs.plan.spots_of.Goals as goal

pub loop-spot-preserved : goal.loop-spot-preserved
loop-spot-preserved c =
    spots-next c.args.cells.now c.loop-spot.spots.items c.args.count c.loop-spot.spot (get_or c.args.cells.now c.loop-spot.spot 0)
    c.requires.once c.requires.within c.loop-spot-test.true refl c.loop-spot.invariant
