use Rattle.std.proofs.Common.{arith}
use Rattle.rule_order.proofs.MarkLemmas.{marked-more, definition-low}
use Rattle.rule_order.proofs.search.first_marks.Goals as goal

pub index_mut-requires : goal.index_mut-requires
index_mut-requires c =
    let low = definition-low c.args.base.now c.as_slice-definition-items.result.now c.loop-position.position _ c.definition-item.result c.requires
    c.as_slice-definition-items.ensures c.loop-position-test.true c.definition-item.is c.loop-position.invariant.size in
    let size = c.loop-position.marks.ok in
    let l = low.0 in
    omega arith

pub loop-position-preserved : goal.loop-position-preserved
loop-position-preserved c =
    let low = definition-low c.args.base.now c.as_slice-definition-items.result.now c.loop-position.position _ c.definition-item.result c.requires
    c.as_slice-definition-items.ensures c.loop-position-test.true c.definition-item.is c.loop-position.invariant.size in
    marked-more c.args.base.now c.loop-position.marks.items c.loop-position.position c.definition-item.result.0 c.requires low.2 low.1 c.loop-position.invariant
