use Rattle.std.proofs.Common.{arith, refl}
use Rattle.m_lexer.proofs.Chains.{chain_start, chain_turn, chain_stop, chain_stuck}
use Rattle.mpp_parser.proofs.Exits.{exit, inner_none, inner_some}
use Rattle.mpp_parser.proofs.expression.+read.Goals as goal

pub read_inner-returns-then-depth-eq0-clause-reads : goal.read_inner-returns-then-depth-eq0-clause-reads
read_inner-returns-then-depth-eq0-clause-reads t c = inner_none _ _ c.if-depth-eq0.true

pub read_inner-returns-clause-reads : goal.read_inner-returns-clause-reads
read_inner-returns-clause-reads t c = rw (inner_some _ c.args.cursor.now c.if-depth-eq0.false) c.read_level.ensures.reads

pub read_links-links-init : goal.read_links-links-init
read_links-links-init t c = record { shorter = omega arith; going = rw c.new-links.ensures.items (chain_start _ _ _ refl) }

pub read_links-returns-in_err-term-clause-reads : goal.read_links-returns-in_err-term-clause-reads
read_links-returns-in_err-term-clause-reads t c =
    exit _ _ _ _ c.from_residual.ensures.1 (chain_stuck _ _ _ c.links.invariant.going c.in-Some.ensures.operator c.in-Some.ensures.shorter)
    c.in_err-term.ensures.reads

pub read_links-links-preserved : goal.read_links-links-preserved
read_links-links-preserved t c = record {
  shorter = omega (arith, c.in_ok-term.ensures.shorter, c.in-Some.ensures.shorter, c.links.invariant.shorter);
  going = rw (c.in_ok-push.ensures.items, c.into_inner.ensures) (chain_turn _ _ _ c.links.invariant.going c.in-Some.ensures.operator c.in_ok-term.ensures.reads
      (omega (arith, c.in_ok-term.ensures.shorter, c.in-Some.ensures.shorter)));
}

pub read_links-returns-clause-reads : goal.read_links-returns-clause-reads
read_links-returns-clause-reads t c = rw c.in_default.ensures.operator.0 (chain_stop _ _ _ c.links.invariant.going c.in_default.ensures.operator.1)
