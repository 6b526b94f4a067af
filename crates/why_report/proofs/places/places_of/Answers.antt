use Rattle.std.proofs.Common.{length, ap, arith}
use Rattle.why_report.proofs.PlaceLemmas.{place-low, places-more, places-all}
use Rattle.why_report.proofs.places.places_of.Goals as goal

pub index_mut-requires : goal.index_mut-requires
index_mut-requires c =
    let low = place-low c.args.base.now c.as_slice-definition-items.result.now c.loop-position.position c.definition-item.result c.requires
    c.as_slice-definition-items.ensures c.loop-position-test.true c.definition-item.is in
    let size = c.loop-position.places.ok in
    let kept = c.loop-position.invariant.size in
    let l = low.0 in
    omega arith

pub loop-position-preserved : goal.loop-position-preserved
loop-position-preserved c =
    let low = place-low c.args.base.now c.as_slice-definition-items.result.now c.loop-position.position c.definition-item.result c.requires
    c.as_slice-definition-items.ensures c.loop-position-test.true c.definition-item.is in
    places-more c.args.base.now c.loop-position.places.items c.loop-position.position c.definition-item.result.0 low.0 low.1 c.loop-position.invariant

pub returns : goal.returns
returns c =
    places-all c.args.base.now c.loop-position.places.items c.loop-position.position c.requires
    (omega (arith, c.loop-position-test.false, c.loop-position.auto.position-end, ap length c.as_slice-definition-items.ensures)) c.loop-position.invariant
