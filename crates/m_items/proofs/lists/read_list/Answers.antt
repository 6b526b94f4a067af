use Rattle.std.proofs.Common.{arith, refl}
use Rattle.m_terms.specs.inner.Reading.{joined_at}
use Rattle.m_lexer.proofs.Chains.{chain_start, chain_turn, chain_stop, chain_stuck}
use Rattle.m_items.proofs.DeclarationExits.{exit}
use Rattle.m_items.proofs.lists.read_list.Goals as goal

pub parts-init : goal.parts-init
unfolding joined_at
parts-init c = record {
  shorter = c.in_ok-first.ensures.shorter;
  going = rw (c.in_ok-push.ensures.items, c.in_ok-parts.ensures.items, c.between-sign.ensures) (chain_start _ _ _ (rw c.in_ok-first.ensures.reads refl));
}

pub returns-in_err-part-clause-reads : goal.returns-in_err-part-clause-reads
returns-in_err-part-clause-reads c =
    exit _ _ _ _ c.from_residual-in_err-part.ensures.1 (chain_stuck _ _ _ c.parts.invariant.going c.parts-test.ensures.sign c.parts-test.ensures.shorter)
    c.in_err-part.ensures.reads

pub parts-preserved : goal.parts-preserved
parts-preserved c = record {
  shorter = omega (arith, c.in_ok-part.ensures.shorter, c.parts-test.ensures.shorter, c.parts.invariant.shorter);
  going = rw c.in_ok-push-2.ensures.items (chain_turn _ _ _ c.parts.invariant.going c.parts-test.ensures.sign c.in_ok-part.ensures.reads
      (omega (arith, c.in_ok-part.ensures.shorter, c.parts-test.ensures.shorter)));
}

pub returns-clause-reads : goal.returns-clause-reads
returns-clause-reads c = rw c.parts-test.ensures.sign.0 (chain_stop _ _ _ c.parts.invariant.going c.parts-test.ensures.sign.1)

pub returns-in_err-first-clause-reads : goal.returns-in_err-first-clause-reads
unfolding joined_at
returns-in_err-first-clause-reads c =
    exit _ _ _ _ c.from_residual-in_err-first.ensures.1 (λ h. rw h refl) c.in_err-first.ensures.reads
