use Rattle.std.proofs.Common.{arith}
use Rattle.m_places.proofs.Pushed.{within_push, bytes_push, count_push}
use Rattle.language_tests.proofs.meeting.texts_of.Goals as goal

pub loop-preserved : goal.loop-preserved
loop-preserved c = let short = c.in_ok-text_of.ensures in record {
  each = within_push _ _ _ c.in_ok-push.ensures.items c.loop.invariant.each (omega (arith, short));
  so_many = omega (arith, c.loop.invariant.so_many, count_push _ _ _ c.in_ok-push.ensures.items);
  bytes = omega (arith, short, c.loop.invariant.bytes, bytes_push _ _ _ c.in_ok-push.ensures.items);
}
