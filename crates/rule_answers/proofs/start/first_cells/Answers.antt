use Rattle.std.proofs.Common.{arith}
use Rattle.rule_answers.proofs.StartLemmas.{next_few, start_end, start_next}
use Rattle.rule_answers.proofs.start.first_cells.Goals as goal

pub loop-number-preserved : goal.loop-number-preserved
loop-number-preserved c = record {
  cells = start_next c.args.inputs.now _ _ _ c.args.symbols.now.variables c.loop-number.next _ c.loop-number.number _ _ c.variable-variable.ensures
      c.first_value-value.ensures c.next_input-next.ensures c.in_ok-add_cells.ensures c.loop-number.invariant.cells;
  few = omega (arith, next_few c.loop-number.next c.variable-variable.result.now.item.role, c.next_input-next.ensures, c.loop-number.invariant.few);
}

pub returns : goal.returns
returns c = start_end c.args.inputs.now _ _ c.args.symbols.now.variables c.loop-number.next c.loop-number.number
    (omega (arith, c.loop-number-test.false, c.count-number-end.ensures)) c.loop-number.invariant.cells
