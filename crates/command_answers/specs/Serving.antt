-- How much of an input was read and what was written, where each line is replied to.
use Rattle.std.specs.Prelude.{◌≡◌, ℕ, ◌<◌, ◌≤◌, List, ◌++◌, length}
use Rattle.std.specs.Io.KnownBytes.{prepend_known, IsAtEnd}
use Rattle.m_places.specs.declared.limits.TheConstants.{INPUT_BYTES}
use Rattle.m_ports.specs.Counts.{Rose}
use Rattle.tax_print.specs.FaultLines.{input_too_long_line, unreadable_input_line}
use Rattle.command_plans.specs.Printing.{Appends, Breaks, Prints}
use Rattle.command_plans.specs.Views.{InputView, OutputView}
use Rattle.command_plans.specs.declared.status.Status.{Status}
use Rattle.command_plans.specs.declared.status.Status.TheVariants.{Done, ReadFault, Refused, WriteFault}

-- How an input was replied to: until its end, a failed read, the limit of bytes read, or a failed write. `whole` gives
-- the replies to all lines of an input, `ended` those to the lines that have their line feed. The input's end and a
-- failed read come before the limit. After a failed read, or at the limit, a line after the replies reports this.
-- After a failed write, a prefix of a text was written: of the replies to the lines that have their line feed, or at
-- the input's end of those to all lines, or of one of the two texts with such a last line.
pub data Served (whole ended : List ℕ → List ℕ) (heard reported : InputView) (old new : OutputView) (status : Status) : Type 0 where
  to_its_end : (taken : List ℕ) → heard.left ≡ prepend_known taken reported.left → length taken < INPUT_BYTES → IsAtEnd reported.left
      → reported.faults ≡ heard.faults
      → Appends (whole taken) old new → status ≡ Done → Served whole ended heard reported old new status
  unread : (taken : List ℕ) → heard.left ≡ prepend_known taken reported.left → length taken < INPUT_BYTES → Rose heard.faults reported.faults
      → Prints (ended taken ++ unreadable_input_line) ReadFault old new status → Served whole ended heard reported old new status
  too_long : (taken : List ℕ) → heard.left ≡ prepend_known taken reported.left → length taken ≡ INPUT_BYTES → reported.faults ≡ heard.faults
      → Prints (ended taken ++ input_too_long_line) Refused old new status → Served whole ended heard reported old new status
  unwritten : (taken : List ℕ) → heard.left ≡ prepend_known taken reported.left → length taken ≤ INPUT_BYTES → reported.faults ≡ heard.faults
      → Breaks (ended taken) old new → status ≡ WriteFault → Served whole ended heard reported old new status
  unwritten_at_end : (taken : List ℕ) → heard.left ≡ prepend_known taken reported.left → length taken < INPUT_BYTES → IsAtEnd reported.left
      → reported.faults ≡ heard.faults
      → Breaks (whole taken) old new → status ≡ WriteFault → Served whole ended heard reported old new status
