use Rattle.std.proofs.Common.{take}
use Rattle.m_batch.specs.inner.Places.{IsPlacing, HasPlaces, KeepPlaces}
use Rattle.m_batch.proofs.places.place_row.Given as goal

abbrev pub invariant-loop-pair : goal.invariant-loop-pair
invariant-loop-pair l = record {
  placing : IsPlacing l.places;
  placed : HasPlaces l.places (take l.pair-index l.household.pairs);
  kept : KeepPlaces l.fn.places l.places;
}
