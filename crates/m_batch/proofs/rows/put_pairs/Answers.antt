use Rattle.std.proofs.Common.{◌∙◌, ◌<◌, ◌-◌, length, arith}
use Rattle.std.proofs.lemmas.List.{length-set}
use Rattle.m_batch.proofs.PlaceLemmas.{filled_next, pair_placed, place_within}
use Rattle.m_batch.proofs.rows.put_pairs.Goals as goal

pub index-place-requires : goal.index-place-requires
index-place-requires c =
    let here = pair_placed c.args.places.now c.args.household.now.pairs c.as_slice-pairs.result.now (c.loop-left.left - 1) c.index-pairs-left.result
    c.requires.placed c.as_slice-pairs.ensures
    (omega (arith, c.loop-left-test.true, c.loop-left.invariant.within)) c.index-pairs-left.is in
    omega (arith, here.0)

pub offset_bounds-row-place : goal.offset_bounds-row-place
offset_bounds-row-place c =
    let here = pair_placed c.args.places.now c.args.household.now.pairs c.as_slice-pairs.result.now (c.loop-left.left - 1) c.index-pairs-left.result
    c.requires.placed c.as_slice-pairs.ensures
    (omega (arith, c.loop-left-test.true, c.loop-left.invariant.within)) c.index-pairs-left.is in
    let within : c.index-place.result.now < length c.loop-left.row =
    place_within c.args.places.now c.loop-left.row c.index-pairs-left.result.0 c.index-place.result.now c.requires.placing here.0
    (rw c.input.ensures at c.index-place.ensures) (c.loop-left.invariant.width ∙ c.requires.width) in
    omega (arith, within)

pub bounds-row-place : goal.bounds-row-place
bounds-row-place c =
    let here = pair_placed c.args.places.now c.args.household.now.pairs c.as_slice-pairs.result.now (c.loop-left.left - 1) c.index-pairs-left.result
    c.requires.placed c.as_slice-pairs.ensures
    (omega (arith, c.loop-left-test.true, c.loop-left.invariant.within)) c.index-pairs-left.is in
    place_within c.args.places.now c.loop-left.row c.index-pairs-left.result.0 c.index-place.result.now c.requires.placing here.0
    (rw c.input.ensures at c.index-place.ensures) (c.loop-left.invariant.width ∙ c.requires.width)

pub loop-left-preserved : goal.loop-left-preserved
loop-left-preserved c = record {
  within = omega arith;
  width = length-set c.loop-left.row _ _ ∙ c.loop-left.invariant.width;
  filled = rw c.amount.ensures (filled_next c.args.places.now c.loop-left.row c.args.household.now.pairs c.as_slice-pairs.result.now c.loop-left.left
      c.index-pairs-left.result c.index-place.result.now
      c.requires.placing c.requires.placed c.as_slice-pairs.ensures (c.loop-left.invariant.width ∙ c.requires.width) c.loop-left-test.true
      c.loop-left.invariant.within
      c.index-pairs-left.is (rw c.input.ensures at c.index-place.ensures) c.loop-left.invariant.filled);
}
