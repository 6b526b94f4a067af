use Rattle.m_batch.proofs.PlaceLemmas.{row_below, rows_next}
use Rattle.std.proofs.Common.{length}
use Rattle.m_batch.proofs.places.place_rows.Goals as goal

pub place_row-requires-clause-inputs : goal.place_row-requires-clause-inputs
place_row-requires-clause-inputs c =
    row_below (length c.args.places.now.of.items) (length c.loop-row.places.of.items) c.args.rows.now c.loop-row.row-index c.row-item.result c.requires.inputs
    c.loop-row-test.true
    c.row-item.is c.loop-row.invariant.many

pub loop-row-preserved : goal.loop-row-preserved
loop-row-preserved c =
    let gave = c.in_ok-place_row.ensures in
    rows_next (length c.args.places.now.of.items) c.loop-row.places c.place_row.new.places c.args.rows.now c.loop-row.row-index c.row-item.result
    c.loop-row.invariant gave.placing gave.kept
    c.loop-row-test.true c.row-item.is gave.placed
