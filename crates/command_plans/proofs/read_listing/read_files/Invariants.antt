use Rattle.std.proofs.Common.{◌≡◌, ◌≤◌, ◌++◌, length}
use Rattle.m_places.specs.declared.limits.TheConstants.{LIST_FILES}
use Rattle.m_text.specs.Lines.{lines_of}
use Rattle.command_plans.specs.Files.{files_of}
use Rattle.command_plans.proofs.read_listing.read_files.Given as goal

abbrev pub invariant-loop-line : goal.invariant-loop-line
invariant-loop-line l = record {
  same : l.files.items ++ files_of (lines_of l.rest) ≡ files_of (lines_of l.fn.bytes);
  few : length l.files.items ≤ LIST_FILES;
}

abbrev pub decreases-loop-line : goal.decreases-loop-line
decreases-loop-line l = length l.rest
