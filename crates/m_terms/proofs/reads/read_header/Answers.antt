use Rattle.std.proofs.Common.{sym}
use Rattle.m_terms.proofs.Answered.{failed, to_the_end, header_found, no_header_read, no_header_ends}
use Rattle.m_terms.proofs.reads.read_header.Goals as goal

pub returns-in_err-header : goal.returns-in_err-header
returns-in_err-header c = record {
  outcome = failed _ _ _ c.from_residual.ensures.1 (no_header_read c.args.tokens.now c.args.from)
      (rw (c.new-cursor.ensures, to_the_end c.args.tokens.now c.args.from) at c.in_err-header.ensures.reads);
}

pub returns-then-not-is_at : goal.returns-then-not-is_at
returns-then-not-is_at c = record {
  outcome = λ other. no_header_ends c.args.tokens.now c.args.from (rw (c.new-cursor.ensures, to_the_end c.args.tokens.now c.args.from) at
      c.in_ok-header.ensures.reads) (sym c.if-not-is_at.ensures);
}

pub returns : goal.returns
returns c = record {
  outcome = rw c.len.ensures (header_found c.args.tokens.now c.args.from c.requires (rw (c.new-cursor.ensures, to_the_end c.args.tokens.now c.args.from) at
      c.in_ok-header.ensures.reads) (sym c.if-not-is_at.ensures));
}
