use Rattle.std.proofs.Common.{sym}
use Rattle.m_terms.proofs.Answered.{failed, to_the_end, term_is_marked, no_term_read, no_term_ends}
use Rattle.m_terms.proofs.reads.read_term.Goals as goal

pub returns-in_err-term : goal.returns-in_err-term
returns-in_err-term c = record {
  outcome = failed _ _ _ c.from_residual.ensures.1 (no_term_read c.args.tokens.now c.args.from)
      (rw (c.new-cursor.ensures, to_the_end c.args.tokens.now c.args.from) at c.in_err-term.ensures.reads);
}

pub returns-then-not-is_at_follower : goal.returns-then-not-is_at_follower
returns-then-not-is_at_follower c = record {
  outcome = λ other. no_term_ends c.args.tokens.now c.args.from (rw (c.new-cursor.ensures, to_the_end c.args.tokens.now c.args.from) at
      c.in_ok-term.ensures.reads) (sym c.if-not-is_at_follower.ensures);
}

pub returns : goal.returns
returns c = record {
  outcome = rw (c.into_inner.ensures, c.len.ensures)
      (term_is_marked c.args.tokens.now c.args.from c.requires (rw (c.new-cursor.ensures, to_the_end c.args.tokens.now c.args.from) at
      c.in_ok-term.ensures.reads) (sym c.if-not-is_at_follower.ensures));
}
