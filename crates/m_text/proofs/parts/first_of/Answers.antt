use Rattle.std.proofs.Common.{arith}
use Rattle.m_text.proofs.PartLemmas.{splits_next, splits_here, splits_end}
use Rattle.m_text.proofs.parts.first_of.Goals as goal

pub loop-at-preserved : goal.loop-at-preserved
loop-at-preserved c = record {
  within = omega (arith, c.loop-at-test.true);
  splits = splits_next c.args.byte c.args.text.now c.loop-at.at c.loop-at-test.true c.if-text-at.true c.loop-at.invariant.splits;
}

pub returns-else-text-at-clause-some : goal.returns-else-text-at-clause-some
returns-else-text-at-clause-some c = λ h. splits_here c.args.byte c.args.text.now c.loop-at.at h c.if-text-at.false c.loop-at.invariant.splits

pub returns-after-loop-at-clause-none : goal.returns-after-loop-at-clause-none
returns-after-loop-at-clause-none c = λ h. splits_end c.args.byte c.args.text.now c.loop-at.at h c.loop-at.invariant.splits
