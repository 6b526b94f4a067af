use Rattle.std.proofs.Common.{◌≡◌, ◌≤◌, ◌*◌, length}
use Rattle.m_places.specs.SourceLimits.{EachIsWithin, all_bytes}
use Rattle.language_tests.proofs.meeting.texts_of.Given as goal

abbrev pub invariant-loop : goal.invariant-loop
invariant-loop l = record { each : EachIsWithin l.texts.items; so_many : length l.texts.items ≡ l.counter; bytes : all_bytes l.texts.items ≤ 4096 * l.counter }
