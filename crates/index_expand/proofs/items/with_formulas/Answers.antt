use Rattle.std.proofs.Common.{drop, ap, ◌+◌}
use Rattle.std.specs.List.{flat_map}
use Rattle.index_expand.specs.LoopFaults.{formula_faults}
use Rattle.index_expand.proofs.FaultLemmas.{drop_next, least_next}
use Rattle.index_expand.proofs.items.with_formulas.Goals as goal

pub loop-formula-preserved : goal.loop-formula-preserved
loop-formula-preserved c =
    least_next c.loop-formula.first _ (formula_faults c.formula-item.result)
    (flat_map formula_faults (drop (c.loop-formula.formula-index + 1) c.args.formulas.now)) _ _ c.loop-formula.invariant
    (ap (flat_map formula_faults) (drop_next c.args.formulas.now c.loop-formula.formula-index c.formula-item.result c.loop-formula-test.true c.formula-item.is))
    c.with_formula-first.ensures
