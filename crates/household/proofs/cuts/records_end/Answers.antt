use Rattle.std.proofs.Common.{◌+◌, arith}
use Rattle.household.proofs.CutLemmas.{over_next, over_none}
use Rattle.household.proofs.cuts.records_end.Goals as goal

pub returns-in-None : goal.returns-in-None
returns-in-None c = over_none c.loop.counter c.args.count _ _ c.loop.invariant.here c.in-None.ensures c.loop-test.true

pub loop-preserved : goal.loop-preserved
loop-preserved c =
    let next = over_next c.loop.counter (c.loop.counter + 1) _ _ _ (omega arith) c.loop.invariant.here c.in-Some.ensures.1 in
    record { cut = c.in-Some.ensures.0; here = next.0; some = next.1 }
