use Rattle.std.proofs.Common.{◌∙◌, arith}
use Rattle.m_names.proofs.Distinct.{distinct_added}
use Rattle.m_names.proofs.names.Names.of.Goals as goal

pub loop-name-preserved : goal.loop-name-preserved
loop-name-preserved c =
    distinct_added c.args.names.now c.loop-name.name-index c.name-item.result (omega arith) c.loop-name.invariant.0 c.loop-name.invariant.1
    (c.bytes.ensures ∙ c.name-item.is) c.in_ok-earlier.ensures.fresh c.if-not-fresh.false c.in_ok-earlier.ensures.added
