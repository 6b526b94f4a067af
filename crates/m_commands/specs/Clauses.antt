-- The clauses of `m_tax`: what a call has read and written, given the views before and after it.
use Rattle.std.specs.Prelude.{◌≡◌, ◌⊎◌, ℕ, ◌<◌, ◌≤◌, true, List, ◌++◌, length, Some}
use Rattle.std.specs.Io.KnownBytes.{append_known, prepend_known}
use Rattle.m_places.specs.declared.limits.TheConstants.{INPUT_BYTES}
use Rattle.code_file.specs.Reading.{IsFormOf}
use Rattle.code_file.specs.declared.loaded.Loaded.{Loaded}
use Rattle.m_places.specs.declared.source.Source.{Source}
use Rattle.m_ports.specs.Counts.{Rose}
use Rattle.m_ports.specs.Files.{failed_count}
use Rattle.m_ports.specs.Sink.{AppendsPrefix}
use Rattle.m_ports.specs.declared.files.Attempt.{Attempt}
use Rattle.command_plans.specs.Attempts.{LastFailed}
use Rattle.command_plans.specs.Courses.{IsValidCommand, KnowsDisk}
use Rattle.command_plans.specs.Courses as courses
use Rattle.tax_print.specs.FaultLines.{unreadable_line}
use Rattle.command_plans.specs.Plan.{end_of, gathered}
use Rattle.command_plans.specs.Status.{IsFaultless, IsComplete}
use Rattle.command_plans.specs.Views.{Disk, FilesView, InputView, OutputView}
use Rattle.command_plans.specs.declared.status.Status.{Status}
use Rattle.command_plans.specs.declared.status.Status.TheVariants.{Done, Refused, WriteFault, Memory}
use Rattle.command_plans.specs.Source.{source_plan}
use Rattle.command_plans.specs.declared.source.SourceNames.{SourceNames}
use Rattle.command_answers.specs.Prepared.{IsPreparedCode}
use Rattle.m_commands.specs.Answer.{CutOff, HasAnswer}
use Rattle.m_commands.specs.Command.{command_of, plan_of, reads_input}
use Rattle.m_commands.specs.Output.{Output}
use Rattle.m_commands.specs.declared.command.Command.{Command}
use Rattle.m_commands.specs.declared.command.Command.TheVariants.{Compile}
use Rattle.m_commands.specs.declared.work.Work.{Work}

-- the input has these known contents, if the command reads it
abbrev pub IsTyped : List (List ℕ) → InputView → List ℕ → Type 0
IsTyped words input typed = reads_input words ≡ true → input.left ≡ Some typed

-- If the contents of the files and of the input are known, as far as the command reads them, and nothing failed, the
-- appended text and the status are an `Output`.
abbrev pub PrintsOutput : List (List ℕ) → FilesView → InputView → OutputView → OutputView → Status → Type 0
PrintsOutput words files input old new status =
    (disk : Disk) (typed : List ℕ) → KnowsDisk plan_of (command_of words) files disk → IsTyped words input typed → IsFaultless status
    → (text : List ℕ) × (new.written ≡ append_known old.written text) × Output words disk typed text status

-- the text of a command if its read of the input fails after these bytes
pub data IsCutOff (words : List (List ℕ)) (disk : Disk) (taken text : List ℕ) : Type 0 where
  cuts_off : (command : Command) (work : Work) → command_of words ≡ Some command → end_of disk (plan_of command) ≡ gathered work → CutOff work taken text
      → IsCutOff words disk taken text

-- If the contents of the files and of the input are known, the appended text is that of a read that failed after the
-- bytes read.
abbrev pub ReportsInput : List (List ℕ) → FilesView → InputView → InputView → OutputView → OutputView → Type 0
ReportsInput words before heard reported old new =
    (disk : Disk) (typed : List ℕ) → before.known_files ≡ Some disk → heard.left ≡ Some typed
    → (taken text : List ℕ) × (heard.left ≡ prepend_known taken reported.left) × (new.written ≡ append_known old.written text) × IsCutOff words disk taken text

-- A call reads at most `INPUT_BYTES` bytes of the input, and that many only if the status is that of an input that is
-- too long or of a failed write. So a session that reached the input's end has read less, as has one with a failed
-- read.
abbrev pub KeepsInputLimit : (heard reported : InputView) → Status → Type 0
KeepsInputLimit heard reported status =
    (taken : List ℕ) × (heard.left ≡ prepend_known taken reported.left) × (length taken ≤ INPUT_BYTES)
    × (length taken ≡ INPUT_BYTES → (status ≡ Refused) ⊎ (status ≡ WriteFault))

-- The attempts of a call to read files. The status may be `ReadFault` also after a failed read of the input.
abbrev pub ReadsInOrder : List (List ℕ) → FilesView → FilesView → InputView → InputView → OutputView → OutputView → Status → Type 0
ReadsInOrder words before after heard reported old new =
    courses.ReadsInOrder plan_of (command_of words)
    ((reads_input words ≡ true) × Rose heard.faults reported.faults × ReportsInput words before heard reported old new)
    before after old new

-- The whole text that a call writes if no write fails: an output, the line of the file that can't be read, or the text
-- after a failed read of the input.
pub data IsWholeText (words : List (List ℕ)) (disk : Disk) (typed : List ℕ) (before after : FilesView) (heard reported : InputView) (text : List ℕ) : Type 0
  where
    output : {status : Status} → Output words disk typed text status → IsWholeText words disk typed before after heard reported text
    unreadable : {made : List Attempt} {name : List ℕ} → after.attempts ≡ before.attempts ++ made → LastFailed made name → text ≡ unreadable_line name
        → IsWholeText words disk typed before after heard reported text
    cut_off : (taken : List ℕ) → heard.left ≡ prepend_known taken reported.left → Rose heard.faults reported.faults → IsCutOff words disk taken text
        → IsWholeText words disk typed before after heard reported text

-- If the contents of the files and of the input are known, as far as the command reads them, and a write failed, the
-- appended text is a prefix of a whole text.
abbrev pub WritesFront : List (List ℕ) → FilesView → FilesView → InputView → InputView → OutputView → OutputView → Status → Type 0
WritesFront words before after heard reported old new status =
    (disk : Disk) (typed : List ℕ) → KnowsDisk plan_of (command_of words) before disk → IsTyped words heard typed → status ≡ WriteFault
    → (text : List ℕ) × IsWholeText words disk typed before after heard reported text × AppendsPrefix old.written new.written text

-- If the files' contents are known (unless the command fetches none), and memory ran out, nothing or a prefix of an
-- output is appended.
abbrev pub StopsInFront : List (List ℕ) → FilesView → OutputView → OutputView → Status → Type 0
StopsInFront words before old new status =
    (disk : Disk) (typed : List ℕ) → KnowsDisk plan_of (command_of words) before disk → status ≡ Memory
    → (new.written ≡ old.written) ⊎ ((text : List ℕ) × (own : Status) × Output words disk typed text own × AppendsPrefix old.written new.written text)

-- If the files' contents are known, a `compile` that did all of its work has written a code file of its compiled
-- source: the code shows the source's scheme, with its face, and the text has the form that `exec` accepts.
abbrev pub WritesCode : List (List ℕ) → FilesView → OutputView → OutputView → Status → Type 0
WritesCode words before old new status =
    (disk : Disk) (names : SourceNames) → before.known_files ≡ Some disk → command_of words ≡ Some (Compile names) → status ≡ Done
    → (source : Source) × (loaded : Loaded) × (text : List ℕ) × (end_of disk (source_plan names) ≡ gathered source) × IsPreparedCode source loaded
    × IsFormOf text loaded
    × (new.written ≡ append_known old.written text)

-- no read and no write failed
abbrev pub NothingFailed : FilesView → FilesView → InputView → InputView → OutputView → OutputView → Type 0
NothingFailed before after heard reported old new =
    (Rose (failed_count before.attempts) (failed_count after.attempts) → ⊥) × (Rose heard.faults reported.faults → ⊥) × (Rose old.faults new.faults → ⊥)

-- fewer bytes of the input are read than the limit, if the command reads the input
abbrev pub TakesFew : List (List ℕ) → InputView → InputView → Type 0
TakesFew words heard reported = reads_input words ≡ true → (taken : List ℕ) → heard.left ≡ prepend_known taken reported.left → length taken < INPUT_BYTES

-- Valid words and files are answered, unless a read, a write or memory failed. The contents of files that the command
-- doesn't fetch need not be known.
abbrev pub AnswersValid : List (List ℕ) → FilesView → FilesView → InputView → InputView → OutputView → OutputView → Status → Type 0
AnswersValid words before after heard reported old new status =
    (disk : Disk) → KnowsDisk plan_of (command_of words) before disk → IsValidCommand plan_of HasAnswer (command_of words) disk
    → NothingFailed before after heard reported old new → TakesFew words heard reported
    → IsComplete status
