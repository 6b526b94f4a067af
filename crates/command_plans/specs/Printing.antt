-- What a printing call has written.
use Rattle.std.specs.Prelude.{◌≡◌, ◌⊎◌, ◌<◌, ℕ, List}
use Rattle.std.specs.Io.KnownBytes.{append_known}
use Rattle.m_ports.specs.Counts.{Rose}
use Rattle.m_ports.specs.Sink.{AppendsPrefix}
use Rattle.tax_print.specs.FaultLines.{unreadable_line}
use Rattle.command_plans.specs.Refusals.{refusal_line}
use Rattle.command_plans.specs.Status.{IsOfEnd}
use Rattle.command_plans.specs.Views.{OutputView}
use Rattle.command_plans.specs.declared.ending.Ending.{Ending}
use Rattle.command_plans.specs.declared.ending.Ending.TheVariants as ending
use Rattle.command_plans.specs.declared.status.Status.{Status}
use Rattle.command_plans.specs.declared.status.Status.TheVariants.{Refused, ReadFault, WriteFault, Memory}

-- the whole text was appended, and no write failed
abbrev pub Appends : List ℕ → OutputView → OutputView → Type 0
Appends text old new = (new.written ≡ append_known old.written text) × (new.faults ≡ old.faults)

-- a write failed, and a prefix of the text was appended
abbrev pub Breaks : List ℕ → OutputView → OutputView → Type 0
Breaks text old new = AppendsPrefix old.written new.written text × Rose old.faults new.faults

-- A text was printed, with its own status, or with `WriteFault` where a write failed.
abbrev pub Prints : List ℕ → Status → OutputView → OutputView → Status → Type 0
Prints text own old new status = (Appends text old new × (status ≡ own)) ⊎ (Breaks text old new × (status ≡ WriteFault))

-- A write fault is reported exactly if a write failed.
pub record ReportsWrites (old new : OutputView) (status : Status) : Type 0 where
  pub only : status ≡ WriteFault → Rose old.faults new.faults
  pub always : old.faults < new.faults → status ≡ WriteFault

-- The ending of a command was reported, with its status. For out of memory nothing is printed.
abbrev pub ReportsEnding : Ending → OutputView → OutputView → Status → Type 0
ReportsEnding (ending.Refused refusal) old new status = Prints (refusal_line refusal) Refused old new status
ReportsEnding (ending.Unreadable name) old new status = Prints (unreadable_line name) ReadFault old new status
ReportsEnding ending.Memory old new status = (new ≡ old) × (status ≡ Memory)

-- An answer was printed, with the status of a command that ran to its end; or there was no memory for it, and nothing
-- was written. `Replies` relates the answer's text and its status.
pub data IsAnswered (Replies : List ℕ → Status → Type 0) (old new : OutputView) (status : Status) : Type 0 where
  printed : (text : List ℕ) (own : Status) → Replies text own → IsOfEnd own → Prints text own old new status → IsAnswered Replies old new status
  no_memory : new ≡ old → status ≡ Memory → IsAnswered Replies old new status
