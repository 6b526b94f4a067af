use Rattle.std.proofs.Common.{arith}
use Rattle.m_large.proofs.LargeLemmas.{rules_turn}
use Rattle.m_large.proofs.base.append_rules.Goals as goal

pub loop-k-preserved : goal.loop-k-preserved
loop-k-preserved c = record {
  same = rules_turn c.loop-k.k _ _ _ c.loop-k-test.true c.loop-k.invariant.same c.in_ok-append_rule.ensures;
  within = omega (arith, c.loop-k.invariant.within);
}
