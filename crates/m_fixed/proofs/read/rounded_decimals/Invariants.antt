use Rattle.m_fixed.proofs.Rounds.{AreRead}
use Rattle.m_fixed.proofs.read.rounded_decimals.Given as goal

abbrev pub invariant-loop-place : goal.invariant-loop-place
invariant-loop-place l = AreRead l.decimals l.place l.millionths
