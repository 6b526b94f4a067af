use Rattle.std.proofs.Common.{ap, ◌∙◌}
use Rattle.std.specs.Prelude.{Some}
use Rattle.std.proofs.lemmas.Result.{err_from_is_err_and}
use Rattle.m_ast.specs.declared.item.Slot.TheVariants.{Cell}
use Rattle.index_expand.specs.Expansion.{defined, defined_cell}
use Rattle.index_expand.proofs.TakenLemmas.{cells_next, cells_too_much}
use Rattle.index_expand.proofs.definitions.take_cells.Goals as goal

pub loop-k-preserved : goal.loop-k-preserved
loop-k-preserved c = record {
  letters = c.in_ok-count.ensures.letters ∙ c.loop-k.invariant.letters;
  taken =
      cells_next (defined_cell c.args.template.now.formula.now c.args.letters.now) c.loop-k.k c.args.template.now.weight c.args.total c.loop-k.count
      c.in_ok-count.count
      c.args.definitions.now.items c.loop-k.definitions.items _ _
      (ap (defined c.args.template.now.formula.now (Cell c.loop-k.k) (Some c.loop-k.k)) c.loop-k.invariant.letters) c.loop-k.invariant.taken
      c.in_ok-count.ensures.outcome;
}

pub returns-in_err-count-clause-outcome : goal.returns-in_err-count-clause-outcome
returns-in_err-count-clause-outcome c =
    let p = err_from_is_err_and c.from_residual.result c.from_residual.ensures.1 in
    rw (p.1, p.2) (λ n.
    cells_too_much (defined_cell c.args.template.now.formula.now c.args.letters.now) c.loop-k.k c.args.size c.args.template.now.weight c.args.total
    c.loop-k.count
    c.args.definitions.now.items c.loop-k.definitions.items (defined c.args.template.now.formula.now (Cell c.loop-k.k) (Some c.loop-k.k) c.loop-k.letters)
    c.args.template.now.rule c.in_err-count.field-0.0 c.loop-k-test.true c.loop-k.invariant.taken (c.in_err-count.ensures.outcome n))
