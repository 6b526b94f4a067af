use Rattle.std.proofs.Common.{length, ◌≤◌, ◌-◌}
use Rattle.m_text.proofs.PartLemmas.{Splits}
use Rattle.m_text.proofs.parts.first_of.Given as goal

abbrev pub invariant-loop-at : goal.invariant-loop-at
invariant-loop-at l = record {
  within : l.at ≤ length l.text;
  splits : Splits l.byte l.text l.at;
}

abbrev pub decreases-loop-at : goal.decreases-loop-at
decreases-loop-at l = length l.text - l.at
