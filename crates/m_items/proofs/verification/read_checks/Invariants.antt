use Rattle.std.proofs.Common.{◌<◌, length}
use Rattle.m_items.specs.inner.RuleReading.{check_at}
use Rattle.m_items.proofs.Manys.{Begun}
use Rattle.m_items.proofs.verification.read_checks.Given as goal

abbrev pub invariant-checks : goal.invariant-checks
invariant-checks l = record {
  shorter : length l.cursor < length l.fn.cursor;
  begun : Begun check_at l.fn.cursor l.checks.items l.cursor;
}

abbrev pub decreases-checks : goal.decreases-checks
decreases-checks l = length l.cursor
