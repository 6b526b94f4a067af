use Rattle.std.proofs.Common.{ap, ◌∙◌, sym, drop, ◌+◌}
use Rattle.loop_values.specs.Values.{is_nothing}
use Rattle.index_expand.specs.LoopFaults.{bad_ranges}
use Rattle.index_expand.proofs.FaultLemmas.{drop_next, bad_here}
use Rattle.index_expand.proofs.faults.is_any_bad.Goals as goal

pub returns-then-is_bad : goal.returns-then-is_bad
returns-then-is_bad c =
    sym c.loop-index.invariant
    ∙ ap (λ is. is_nothing (bad_ranges c.args.indexes.now is)) (drop_next c.args.indexes.now c.loop-index.index-index c.index-item.result c.loop-index-test.true
    c.index-item.is)
    ∙ bad_here c.args.indexes.now c.index-item.result (drop (c.loop-index.index-index + 1) c.args.indexes.now) (sym c.is_bad.ensures ∙ c.if-is_bad.true)
