use Rattle.std.proofs.Common.{length, arith}
use Rattle.m_batch.proofs.PlaceLemmas.{pair_below, placed_next, keep_trans}
use Rattle.m_batch.proofs.places.place_row.Goals as goal

pub place_input-requires-clause-input : goal.place_input-requires-clause-input
place_input-requires-clause-input c =
    let below = pair_below (length c.args.places.now.of.items) c.args.household.now.pairs c.as_slice-pair-items.result.now c.loop-pair.pair-index
    c.pair-item.result
    c.requires.inputs c.as_slice-pair-items.ensures c.loop-pair-test.true c.pair-item.is in
    omega (arith, below, c.loop-pair.invariant.kept.many)

pub loop-pair-preserved : goal.loop-pair-preserved
loop-pair-preserved c =
    let below = pair_below (length c.args.places.now.of.items) c.args.household.now.pairs c.as_slice-pair-items.result.now c.loop-pair.pair-index
    c.pair-item.result
    c.requires.inputs c.as_slice-pair-items.ensures c.loop-pair-test.true c.pair-item.is in
    let gave = c.in_ok-place_input.ensures in
    record {
      placing = gave.placing;
      placed = placed_next c.loop-pair.places c.place_input.new.places c.args.household.now.pairs c.as_slice-pair-items.result.now c.loop-pair.pair-index
          c.pair-item.result
          c.loop-pair.invariant.placed gave.kept c.as_slice-pair-items.ensures c.loop-pair-test.true c.pair-item.is
          (omega (arith, below, c.loop-pair.invariant.kept.many)) (rw c.input.ensures at gave.placed);
      kept = keep_trans c.args.places.now c.loop-pair.places c.place_input.new.places c.loop-pair.invariant.kept gave.kept;
    }
