-- The clauses of `m_survey`: what a call has read and written, given the views before and after it.
use Rattle.std.specs.Prelude.{◌≡◌, ◌⊎◌, ℕ, List, ◌++◌}
use Rattle.std.specs.Io.KnownBytes.{append_known}
use Rattle.m_ports.specs.Counts.{Rose}
use Rattle.m_ports.specs.Files.{failed_count}
use Rattle.m_ports.specs.Sink.{AppendsPrefix}
use Rattle.m_ports.specs.declared.files.Attempt.{Attempt}
use Rattle.tax_print.specs.FaultLines.{unreadable_line}
use Rattle.command_plans.specs.Attempts.{LastFailed}
use Rattle.command_plans.specs.Courses.{IsValidCommand, KnowsDisk}
use Rattle.command_plans.specs.Courses as courses
use Rattle.command_plans.specs.Status.{IsFaultless, IsComplete}
use Rattle.command_plans.specs.Views.{Disk, FilesView, OutputView}
use Rattle.command_plans.specs.declared.status.Status.{Status}
use Rattle.command_plans.specs.declared.status.Status.TheVariants.{WriteFault, Memory}
use Rattle.survey_commands.specs.Answer.{HasAnswer}
use Rattle.survey_commands.specs.Command.{command_of, plan_of}
use Rattle.survey_commands.specs.Output.{Output}

-- If the files' contents are known (unless the command fetches none), and nothing failed, the appended text and the
-- status are an `Output`.
abbrev pub PrintsOutput : List (List ℕ) → FilesView → OutputView → OutputView → Status → Type 0
PrintsOutput words files old new status =
    (disk : Disk) → KnowsDisk plan_of (command_of words) files disk → IsFaultless status
    → (text : List ℕ) × (new.written ≡ append_known old.written text) × Output words disk text status

-- The attempts of a call to read files: a read fault has no other cause, since no input is read.
abbrev pub ReadsInOrder : List (List ℕ) → FilesView → FilesView → OutputView → OutputView → Status → Type 0
ReadsInOrder words = courses.ReadsInOrder plan_of (command_of words) ⊥

-- The whole text that a call writes if no write fails: an output, or the line of the file that can't be read.
pub data IsWholeText (words : List (List ℕ)) (disk : Disk) (before after : FilesView) (text : List ℕ) : Type 0 where
  output : {status : Status} → Output words disk text status → IsWholeText words disk before after text
  unreadable : {made : List Attempt} {name : List ℕ} → after.attempts ≡ before.attempts ++ made → LastFailed made name → text ≡ unreadable_line name
      → IsWholeText words disk before after text

-- If the files' contents are known (unless the command fetches none), and a write failed, the appended text is a
-- prefix of a whole text.
abbrev pub WritesFront : List (List ℕ) → FilesView → FilesView → OutputView → OutputView → Status → Type 0
WritesFront words before after old new status =
    (disk : Disk) → KnowsDisk plan_of (command_of words) before disk → status ≡ WriteFault
    → (text : List ℕ) × IsWholeText words disk before after text × AppendsPrefix old.written new.written text

-- If the files' contents are known (unless the command fetches none), and memory ran out, nothing or a prefix of an
-- output is appended.
abbrev pub StopsInFront : List (List ℕ) → FilesView → OutputView → OutputView → Status → Type 0
StopsInFront words before old new status =
    (disk : Disk) → KnowsDisk plan_of (command_of words) before disk → status ≡ Memory
    → (new.written ≡ old.written) ⊎ ((text : List ℕ) × (own : Status) × Output words disk text own × AppendsPrefix old.written new.written text)

-- no read and no write failed
abbrev pub NothingFailed : FilesView → FilesView → OutputView → OutputView → Type 0
NothingFailed before after old new = (Rose (failed_count before.attempts) (failed_count after.attempts) → ⊥) × (Rose old.faults new.faults → ⊥)

-- Valid words and files are answered, unless a read, a write or memory failed. The contents of files that the command
-- doesn't fetch need not be known.
abbrev pub AnswersValid : List (List ℕ) → FilesView → FilesView → OutputView → OutputView → Status → Type 0
AnswersValid words before after old new status =
    (disk : Disk) → KnowsDisk plan_of (command_of words) before disk → IsValidCommand plan_of HasAnswer (command_of words) disk
    → NothingFailed before after old new → IsComplete status
