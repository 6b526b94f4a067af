use Rattle.std.proofs.Common.{sym}
use Rattle.m_items.proofs.Answered.{failed, applications_stand, no_applications, no_applications_end}
use Rattle.m_items.proofs.declaration_reads.read_applications.Goals as goal

pub returns-in_err-names : goal.returns-in_err-names
returns-in_err-names c = record {
  outcome = failed _ _ _ c.from_residual.ensures.1 (no_applications c.args.tokens.now) (rw c.new-cursor.ensures at c.in_err-names.ensures.reads);
}

pub returns-then-is_at_sign : goal.returns-then-is_at_sign
returns-then-is_at_sign c = record {
  outcome = λ other. no_applications_end c.args.tokens.now (rw c.new-cursor.ensures at c.in_ok-names.ensures.reads) (sym c.if-is_at_sign.ensures);
}

pub returns : goal.returns
returns c = record {
  outcome = rw c.len.ensures (applications_stand c.args.tokens.now (rw c.new-cursor.ensures at c.in_ok-names.ensures.reads) (sym c.if-is_at_sign.ensures));
}
