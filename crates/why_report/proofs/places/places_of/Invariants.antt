use Rattle.why_report.proofs.PlaceLemmas.{ArePlacesSoFar}
use Rattle.why_report.proofs.places.places_of.Given as goal

abbrev pub invariant-loop-position : goal.invariant-loop-position
invariant-loop-position l = ArePlacesSoFar l.base l.places.items l.position
