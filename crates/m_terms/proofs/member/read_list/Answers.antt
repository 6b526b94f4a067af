use Rattle.std.proofs.Common.{arith, refl}
use Rattle.m_terms.specs.inner.Reading.{joined_at}
use Rattle.m_lexer.proofs.Chains.{chain_start, chain_turn, chain_stop, chain_stuck}
use Rattle.m_terms.proofs.Exits.{exit}
use Rattle.m_terms.proofs.member.read_list.Goals as goal

pub members-init : goal.members-init
unfolding joined_at
members-init c = record {
  shorter = c.in_ok-first.ensures.shorter;
  going = rw (c.in_ok-push.ensures.items, c.in_ok-members.ensures.items) (chain_start _ _ _ (rw c.in_ok-first.ensures.reads refl));
}

pub returns-in_err-member-clause-reads : goal.returns-in_err-member-clause-reads
returns-in_err-member-clause-reads c =
    exit _ _ _ _ c.from_residual-in_err-member.ensures.1 (chain_stuck _ _ _ c.members.invariant.going c.members-test.ensures.mark
    c.members-test.ensures.shorter) c.in_err-member.ensures.reads

pub members-preserved : goal.members-preserved
members-preserved c = record {
  shorter = omega (arith, c.in_ok-member.ensures.shorter, c.members-test.ensures.shorter, c.members.invariant.shorter);
  going = rw c.in_ok-push-2.ensures.items (chain_turn _ _ _ c.members.invariant.going c.members-test.ensures.mark c.in_ok-member.ensures.reads
      (omega (arith, c.in_ok-member.ensures.shorter, c.members-test.ensures.shorter)));
}

pub returns-clause-reads : goal.returns-clause-reads
returns-clause-reads c = rw c.members-test.ensures.mark.0 (chain_stop _ _ _ c.members.invariant.going c.members-test.ensures.mark.1)
