use Rattle.std.proofs.Common.{length, ◌-◌, ◌<◌}
use Rattle.m_lexer.specs.inner.Steps.{IsPlaceIn, GoesOn, BeginsGap, byte_at}
use Rattle.m_lexer.specs.Tokens.{start_of}
use Rattle.m_lexer.proofs.scan.lex.Given as goal

abbrev pub invariant-loop-place : goal.invariant-loop-place
invariant-loop-place l = record {
  there : IsPlaceIn l.bytes l.place;
  steps : GoesOn l.bytes (start_of l.fn.file) l.tokens.items l.place;
  no_gap : l.place.byte < length l.bytes → BeginsGap (byte_at l.bytes l.place) → ⊥;
}

abbrev pub decreases-loop-place : goal.decreases-loop-place
decreases-loop-place l = length l.bytes - l.place.byte
