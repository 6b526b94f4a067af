use Rattle.m_fixed.proofs.Reading.{size_ok, size_too_great}
use Rattle.m_fixed.proofs.read.size.Goals as goal

pub returns-then-size-le-MOST-clause-value : goal.returns-then-size-le-MOST-clause-value
returns-then-size-le-MOST-clause-value c = size_ok c.args.whole.now c.args.decimals.now _ _ c.whole_units.ensures c.rounded_decimals.ensures.value
    c.rounded_decimals.ensures.bound c.if-size-le-MOST.true

pub returns-else-size-le-MOST-clause-value : goal.returns-else-size-le-MOST-clause-value
returns-else-size-le-MOST-clause-value c = size_too_great c.args.whole.now c.args.decimals.now _ _ c.whole_units.ensures c.rounded_decimals.ensures.value
    c.rounded_decimals.ensures.bound c.if-size-le-MOST.false
