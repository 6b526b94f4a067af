use Rattle.std.proofs.Common.{ap, ◌∙◌}
use Rattle.index_expand.specs.LoopFaults.{scope_within}
use Rattle.index_expand.proofs.FaultLemmas.{scope_next}
use Rattle.index_expand.proofs.faults.formula_scope.Goals as goal

pub loop-header-preserved : goal.loop-header-preserved
loop-header-preserved c =
    scope_next c.args.headers.now c.loop-header.header-index c.header-item.result c.loop-header.scope _ _ c.loop-header-test.true c.header-item.is
    c.loop-header.invariant
    (c.bind_letters.ensures ∙ ap (λ is. scope_within is c.loop-header.scope) c.as_slice.ensures)
