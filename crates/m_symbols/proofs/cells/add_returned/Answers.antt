use Rattle.std.proofs.Common.{arith, subst, sym, ◌++◌, ◌≡◌, ◌-◌}
use Rattle.std.specs.List.{range_with_len}
use Rattle.m_symbols.proofs.Placing.{range_step}
use Rattle.m_symbols.proofs.cells.add_returned.Goals as goal

pub loop-cell-preserved : goal.loop-cell-preserved
loop-cell-preserved c = record {
  whole = rw c.in_ok-push.ensures.items (range_step _ _ c.loop-cell.cell _ c.loop-cell-test.true c.loop-cell.invariant.whole);
  within = omega (arith, c.loop-cell-test.true);
}
