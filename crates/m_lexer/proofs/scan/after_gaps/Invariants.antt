use Rattle.std.proofs.Common.{length, [], ◌-◌, ◌≤◌}
use Rattle.m_lexer.specs.inner.Steps.{IsPlaceIn, GoesOn}
use Rattle.m_lexer.proofs.scan.after_gaps.Given as goal

abbrev pub invariant-loop-next : goal.invariant-loop-next
invariant-loop-next l = record {
  there : IsPlaceIn l.bytes l.place;
  onward : l.fn.from.byte ≤ l.place.byte;
  steps : GoesOn l.bytes l.fn.from [] l.place;
}

abbrev pub decreases-loop-next : goal.decreases-loop-next
decreases-loop-next l = length l.bytes - l.place.byte
