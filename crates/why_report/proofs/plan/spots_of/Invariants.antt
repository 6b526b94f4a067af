use Rattle.why_report.proofs.PlanLemmas.{AreSpotsSoFar}
use Rattle.why_report.proofs.plan.spots_of.Given as goal

abbrev pub invariant-loop-spot : goal.invariant-loop-spot
invariant-loop-spot l = AreSpotsSoFar l.cells l.spots.items l.count l.spot
