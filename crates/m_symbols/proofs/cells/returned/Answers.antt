use Rattle.std.proofs.Common.{arith}
use Rattle.m_symbols.proofs.Placing.{fits, returned_next, returned_more}
use Rattle.m_symbols.proofs.cells.returned.Goals as goal

pub add_returned-requires : goal.add_returned-requires
add_returned-requires c = fits c.args.symbols.now _ _ _ c.requires c.variable.ensures c.cells-all.ensures

pub loop-number-preserved : goal.loop-number-preserved
loop-number-preserved c = record {
  so_far = returned_more c.args.symbols.now.variables c.loop-number.number _ _ _ (omega (arith, c.loop-number-test.true, c.count-number-end.ensures))
      c.variable.ensures c.in_ok-add_returned.ensures c.loop-number.invariant.so_far;
  known = returned_next c.args.symbols.now c.loop-number.number _ _ _ c.requires c.variable.ensures c.in_ok-add_returned.ensures c.loop-number.invariant.known;
}
