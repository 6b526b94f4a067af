use Rattle.m_items.proofs.Expressions.{header_read, header_fails}
use Rattle.m_items.proofs.expression.header.Goals as goal

pub returns-in-Ok-clause-reads : goal.returns-in-Ok-clause-reads
returns-in-Ok-clause-reads c = rw c.skip.ensures (header_read c.args.cursor.now (rw c.left.ensures at c.in-Ok.ensures.outcome))

pub returns-in-Err-clause-reads : goal.returns-in-Err-clause-reads
returns-in-Err-clause-reads c = rw c.item_fault.ensures (header_fails c.args.cursor.now c.in-Err.fault (rw c.left.ensures at c.in-Err.ensures.outcome))
