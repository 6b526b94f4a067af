use Rattle.std.proofs.Common.{drop, ap, ◌+◌}
use Rattle.std.specs.List.{flat_map}
use Rattle.index_expand.specs.LoopFaults.{header_faults}
use Rattle.index_expand.proofs.FaultLemmas.{drop_next, least_next}
use Rattle.index_expand.proofs.faults.with_headers.Goals as goal

pub loop-header-preserved : goal.loop-header-preserved
loop-header-preserved c =
    least_next c.loop-header.first _ (header_faults c.header-item.result) (flat_map header_faults (drop (c.loop-header.header-index + 1) c.args.headers.now)) _
    _ c.loop-header.invariant
    (ap (flat_map header_faults) (drop_next c.args.headers.now c.loop-header.header-index c.header-item.result c.loop-header-test.true c.header-item.is))
    c.with_header-first.ensures
