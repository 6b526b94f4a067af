use Rattle.std.proofs.Common.{◌≡◌, ◌+◌, ◌≤◌, length}
use Rattle.m_text.specs.Lines.{lines_of}
use Rattle.command_plans.specs.inner.Reading.{first_bad_from}
use Rattle.command_plans.proofs.read_listing.first_bad_line.Given as goal

abbrev pub invariant-loop-line : goal.invariant-loop-line
invariant-loop-line l = record {
  same : first_bad_from l.number (lines_of l.rest) ≡ first_bad_from 2 (lines_of l.fn.bytes);
  small : l.number + length l.rest ≤ 2 + length l.fn.bytes;
}

abbrev pub decreases-loop-line : goal.decreases-loop-line
decreases-loop-line l = length l.rest
