use Rattle.std.proofs.Common.{arith, refl}
use Rattle.m_terms.specs.inner.Reading.{joined_at}
use Rattle.m_lexer.proofs.Chains.{chain_start, chain_turn, chain_stop, chain_stuck}
use Rattle.m_terms.proofs.Exits.{exit}
use Rattle.m_terms.proofs.header.read_values.Goals as goal

pub values-init : goal.values-init
unfolding joined_at
values-init c = record {
  shorter = c.in_ok-first.ensures.shorter;
  going = rw (c.in_ok-push.ensures.items, c.in_ok-values.ensures.items) (chain_start _ _ _ (rw c.in_ok-first.ensures.reads refl));
}

pub returns-in_err-value-clause-reads : goal.returns-in_err-value-clause-reads
returns-in_err-value-clause-reads c =
    exit _ _ _ _ c.from_residual-in_err-value.ensures.1 (chain_stuck _ _ _ c.values.invariant.going c.values-test.ensures.mark c.values-test.ensures.shorter)
    c.in_err-value.ensures.reads

pub values-preserved : goal.values-preserved
values-preserved c = record {
  shorter = omega (arith, c.in_ok-value.ensures.shorter, c.values-test.ensures.shorter, c.values.invariant.shorter);
  going = rw c.in_ok-push-2.ensures.items (chain_turn _ _ _ c.values.invariant.going c.values-test.ensures.mark c.in_ok-value.ensures.reads
      (omega (arith, c.in_ok-value.ensures.shorter, c.values-test.ensures.shorter)));
}

pub returns-clause-reads : goal.returns-clause-reads
returns-clause-reads c = rw c.values-test.ensures.mark.0 (chain_stop _ _ _ c.values.invariant.going c.values-test.ensures.mark.1)
