use Rattle.std.proofs.Common.{drop, ap, ◌+◌}
use Rattle.std.specs.List.{flat_map}
use Rattle.index_expand.specs.LoopFaults.{check_faults}
use Rattle.index_expand.proofs.FaultLemmas.{drop_next, least_next}
use Rattle.index_expand.proofs.items.with_checks.Goals as goal

pub loop-check-preserved : goal.loop-check-preserved
loop-check-preserved c =
    least_next c.loop-check.first _ (check_faults c.check-item.result) (flat_map check_faults (drop (c.loop-check.check-index + 1) c.args.checks.now)) _ _
    c.loop-check.invariant
    (ap (flat_map check_faults) (drop_next c.args.checks.now c.loop-check.check-index c.check-item.result c.loop-check-test.true c.check-item.is))
    c.with_check-first.ensures
