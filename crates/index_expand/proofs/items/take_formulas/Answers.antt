use Rattle.std.proofs.Common.{◌∙◌}
use Rattle.std.proofs.lemmas.Result.{err_from_is_err_and}
use Rattle.index_expand.specs.Expansion.{formula_definitions}
use Rattle.index_expand.specs.Faults.{formula_parts}
use Rattle.index_expand.proofs.TakenLemmas.{each_next, each_too_much}
use Rattle.index_expand.proofs.items.take_formulas.Goals as goal

pub loop-formula-preserved : goal.loop-formula-preserved
loop-formula-preserved c = record {
  letters = c.in_ok-count.ensures.letters ∙ c.loop-formula.invariant.letters;
  taken =
      each_next (formula_definitions c.args.symbols.now) (formula_parts c.args.symbols.now) c.args.formulas.now c.loop-formula.formula-index
      c.formula-item.result c.args.total c.loop-formula.count c.in_ok-count.count
      c.args.definitions.now.items c.loop-formula.definitions.items _ c.loop-formula-test.true c.formula-item.is c.loop-formula.invariant.taken
      c.in_ok-count.ensures.outcome;
}

pub returns-in_err-count-clause-outcome : goal.returns-in_err-count-clause-outcome
returns-in_err-count-clause-outcome c =
    let p = err_from_is_err_and c.from_residual.result c.from_residual.ensures.1 in
    rw (p.1, p.2) (λ n.
    each_too_much (formula_definitions c.args.symbols.now) (formula_parts c.args.symbols.now) c.args.formulas.now c.loop-formula.formula-index
    c.formula-item.result c.args.total c.loop-formula.count c.args.rule c.in_err-count.field-0.0
    c.args.definitions.now.items c.loop-formula.definitions.items c.loop-formula-test.true c.formula-item.is c.loop-formula.invariant.taken
    (c.in_err-count.ensures.outcome n))
