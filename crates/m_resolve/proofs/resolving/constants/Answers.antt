use Rattle.std.proofs.Common.{arith}
use Rattle.m_symbols.proofs.Filters.{filter_map_more}
use Rattle.m_resolve.specs.Bases.{constant_in}
use Rattle.m_resolve.proofs.resolving.constants.Goals as goal

pub loop-number-preserved : goal.loop-number-preserved
loop-number-preserved c =
    filter_map_more (λ v. constant_in v.first_cell v.item.role) c.args.symbols.now.variables c.loop-number.number _ _ _
    (omega (arith, c.loop-number-test.true, c.count-number-end.ensures)) c.variable.ensures
    c.loop-number.invariant c.in_ok-add_constant.ensures
