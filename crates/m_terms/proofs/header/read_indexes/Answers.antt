use Rattle.std.proofs.Common.{arith, refl}
use Rattle.m_terms.specs.inner.Reading.{joined_at}
use Rattle.m_lexer.proofs.Chains.{chain_start, chain_turn, chain_stop, chain_stuck}
use Rattle.m_terms.proofs.Exits.{exit}
use Rattle.m_terms.proofs.header.read_indexes.Goals as goal

pub indexes-init : goal.indexes-init
unfolding joined_at
indexes-init c = record {
  shorter = c.in_ok-first.ensures.shorter;
  going = rw (c.in_ok-push.ensures.items, c.in_ok-indexes.ensures.items, c.further-between.ensures) (chain_start _ _ _ (rw c.in_ok-first.ensures.reads refl));
}

pub returns-in_err-index-clause-reads : goal.returns-in_err-index-clause-reads
returns-in_err-index-clause-reads c =
    exit _ _ _ _ c.from_residual-in_err-index.ensures.1 (chain_stuck _ _ _ c.indexes.invariant.going c.indexes-test.ensures.mark c.indexes-test.ensures.shorter)
    c.in_err-index.ensures.reads

pub indexes-preserved : goal.indexes-preserved
indexes-preserved c = record {
  shorter = omega (arith, c.in_ok-index.ensures.shorter, c.indexes-test.ensures.shorter, c.indexes.invariant.shorter);
  going = rw c.in_ok-push-2.ensures.items (chain_turn _ _ _ c.indexes.invariant.going c.indexes-test.ensures.mark c.in_ok-index.ensures.reads
      (omega (arith, c.in_ok-index.ensures.shorter, c.indexes-test.ensures.shorter)));
}

pub returns-clause-reads : goal.returns-clause-reads
returns-clause-reads c = rw c.indexes-test.ensures.mark.0 (chain_stop _ _ _ c.indexes.invariant.going c.indexes-test.ensures.mark.1)
