use Rattle.m_items.proofs.Answered.{failed, declaration_found, no_declaration}
use Rattle.m_items.proofs.declaration_reads.read_declaration.Goals as goal

pub returns-in_err-item : goal.returns-in_err-item
returns-in_err-item c = record {
  outcome = failed _ _ _ c.from_residual.ensures.1 (no_declaration c.args.tokens.now) (rw c.new-cursor.ensures at c.in_err-item.ensures.reads);
}

pub returns : goal.returns
returns c = record {
  outcome = rw c.len.ensures (declaration_found c.args.tokens.now (rw c.new-cursor.ensures at c.in_ok-item.ensures.reads));
}
