use Rattle.std.proofs.Common.{arith, refl}
use Rattle.m_lexer.proofs.Chains.{chain_start, chain_turn, chain_stop, chain_stuck}
use Rattle.m_terms.proofs.Exits.{fails}
use Rattle.m_terms.proofs.Depths.{inner_none, inner_some}
use Rattle.m_terms.proofs.expression.+read.Goals as goal

pub read_inner-returns-then-depth-eq0-clause-reads : goal.read_inner-returns-then-depth-eq0-clause-reads
read_inner-returns-then-depth-eq0-clause-reads t c = inner_none _ _ c.if-depth-eq0.true

pub read_inner-returns-clause-reads : goal.read_inner-returns-clause-reads
read_inner-returns-clause-reads t c = rw (inner_some _ c.args.cursor.now c.if-depth-eq0.false) c.read_level.ensures.reads

pub read_links-returns-in-Err-clause-reads : goal.read_links-returns-in-Err-clause-reads
read_links-returns-in-Err-clause-reads t c =
    rw c.without.ensures (fails _ _ _ (chain_stuck _ _ _ c.links.invariant.going c.in-Some.ensures.op c.in-Some.ensures.shorter) c.in-Err.ensures.reads)

pub read_links-links-preserved : goal.read_links-links-preserved
read_links-links-preserved t c = record {
  shorter = omega (arith, c.in-Ok.ensures.shorter, c.in-Some.ensures.shorter);
  going = rw c.in-Ok-add_link.ensures (chain_turn _ _ _ c.links.invariant.going c.in-Some.ensures.op c.in-Ok.ensures.reads
      (omega (arith, c.in-Ok.ensures.shorter, c.in-Some.ensures.shorter)));
}

pub read_links-returns-clause-reads : goal.read_links-returns-clause-reads
read_links-returns-clause-reads t c = rw c.in_default.ensures.op.0 (chain_stop _ _ _ c.links.invariant.going c.in_default.ensures.op.1)

pub read_links-links-init : goal.read_links-links-init
read_links-links-init t c = record { shorter = omega arith; going = rw c.new-links.ensures.items (chain_start _ _ _ refl) }

pub read_operand-returns-in-Disjunction-clause-reads : goal.read_operand-returns-in-Disjunction-clause-reads
read_operand-returns-in-Disjunction-clause-reads t c = rw c.in-Disjunction.is c.read_level.ensures.reads

pub read_operand-returns-in-Sum-clause-reads : goal.read_operand-returns-in-Sum-clause-reads
read_operand-returns-in-Sum-clause-reads t c = rw c.in-Sum.is c.read_level-in-Sum.ensures.reads
