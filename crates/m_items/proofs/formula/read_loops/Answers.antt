use Rattle.std.proofs.Common.{arith}
use Rattle.m_lexer.proofs.Chains.{chain_turn, chain_stop, chain_stuck}
use Rattle.m_items.proofs.RuleExits.{exit}
use Rattle.m_items.proofs.formula.read_loops.Goals as goal

pub returns-in_err-header-clause-reads : goal.returns-in_err-header-clause-reads
returns-in_err-header-clause-reads c =
    exit _ _ _ _ c.from_residual.ensures.1 (chain_stuck _ _ _ c.loops.invariant.going c.loops-test.ensures.key c.loops-test.ensures.shorter)
    c.in_err-header.ensures.reads

pub loops-preserved : goal.loops-preserved
loops-preserved c = record {
  shorter = omega (arith, c.in_ok-header.ensures.shorter, c.loops-test.ensures.shorter, c.loops.invariant.shorter);
  going = rw c.in_ok-push.ensures.items (chain_turn _ _ _ c.loops.invariant.going c.loops-test.ensures.key c.in_ok-header.ensures.reads
      (omega (arith, c.in_ok-header.ensures.shorter, c.loops-test.ensures.shorter)));
}

pub returns-clause-reads : goal.returns-clause-reads
returns-clause-reads c = rw c.loops-test.ensures.key.0 (chain_stop _ _ _ c.loops.invariant.going c.loops-test.ensures.key.1)
