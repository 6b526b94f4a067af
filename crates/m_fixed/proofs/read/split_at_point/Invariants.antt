use Rattle.std.proofs.Common.{◌≡◌, ◌++◌, take, drop}
use Rattle.m_fixed.specs.Text.{before_point, behind_point}
use Rattle.m_fixed.proofs.read.split_at_point.Given as goal

abbrev pub invariant-loop-i : goal.invariant-loop-i
invariant-loop-i l = (before_point l.text ≡ take l.i l.text ++ before_point (drop l.i l.text)) × (behind_point l.text ≡ behind_point (drop l.i l.text))
