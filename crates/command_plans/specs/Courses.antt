-- What a program of commands reads and writes, given the command of its words, if they are one, and the plan of each
-- command.
use Rattle.std.specs.Prelude.{◌≡◌, ◌⊎◌, ℕ, false, true, List, [], ◌++◌, Option, Some, None, Ok, Err}
use Rattle.std.specs.Io.KnownBytes.{append_known}
use Rattle.std.specs.Option.{option_map_or}
use Rattle.m_ports.specs.declared.files.Attempt.{Attempt}
use Rattle.tax_print.specs.FaultLines.{unreadable_line}
use Rattle.command_plans.specs.Attempts.{BeginsWith, names_tried, NoneFailed, LastFailed}
use Rattle.command_plans.specs.Plan.{Plan, requests_file, names_fetched, end_of, gathered, refused}
use Rattle.command_plans.specs.Printing.{Prints, ReportsEnding}
use Rattle.command_plans.specs.Trips.{GoesAlong}
use Rattle.command_plans.specs.Views.{Disk, FilesView, OutputView}
use Rattle.command_plans.specs.declared.ending.Ending.{Ending}
use Rattle.command_plans.specs.declared.status.Status.{Status}
use Rattle.command_plans.specs.declared.status.Status.TheVariants.{Refused, Usage, ReadFault, WriteFault, Memory}

-- the files have these known contents, if the command fetches a file
abbrev pub KnowsDisk : {Command Work : Type 0} → (Command → Plan Work) → Option Command → FilesView → Disk → Type 0
KnowsDisk plan_of command files disk = option_map_or (λ wanted. requests_file (plan_of wanted)) command false ≡ true → files.known_files ≡ Some disk

-- The fetched names, in order, up to the first that is missing or too long.
abbrev pub fetches_of : {Command Work : Type 0} → (Command → Plan Work) → Option Command → Disk → List (List ℕ)
fetches_of plan_of command disk = option_map_or (λ wanted. names_fetched disk (plan_of wanted)) command []

-- The printed text and the status if nothing fails: the usage line for words that are no command, the error line of
-- the command's plan, or the command's answer to what it gathered.
pub data Output {Command Work : Type 0} (plan_of : Command → Plan Work) (Replies : Work → List ℕ → Status → Type 0) (usage_line : List ℕ)
    (command : Option Command) (disk : Disk) : List ℕ → Status → Type 0 where
  usage : command ≡ None → Output plan_of Replies usage_line command disk usage_line Usage
  refuses : {line : List ℕ} (wanted : Command) → command ≡ Some wanted → end_of disk (plan_of wanted) ≡ refused line
      → Output plan_of Replies usage_line command disk line Refused
  answers : {text : List ℕ} {status : Status} (wanted : Command) (work : Work) → command ≡ Some wanted → end_of disk (plan_of wanted) ≡ gathered work
      → Replies work text status → Output plan_of Replies usage_line command disk text status

-- The words are a command that can be answered over these files: its files exist and are within their limits, its plan
-- rejects nothing, and what it gathers has an answer.
pub record IsValidCommand {Command Work : Type 0} (plan_of : Command → Plan Work) (HasAnswer : Work → Type 0) (command : Option Command) (disk : Disk) : Type 0
  where
    pub wanted : Command
    pub is_command : command ≡ Some wanted
    pub work : Work
    pub gathers : end_of disk (plan_of wanted) ≡ gathered work
    pub answer : HasAnswer work

-- The attempts of a call to read files. If the files' contents are known, the names are fetched in the order of
-- `fetches_of`. At most the last attempt failed, and then the status reports this or a failed write. The status is
-- `ReadFault` only then, with the line of the unreadable file, or for another cause.
pub record ReadsInOrder {Command Work : Type 0} (plan_of : Command → Plan Work) (command : Option Command) (Other : Type 0) (before after : FilesView)
    (old new : OutputView) (status : Status) : Type 0 where
  pub made : List Attempt
  pub appended : after.attempts ≡ before.attempts ++ made
  pub in_order : (disk : Disk) → before.known_files ≡ Some disk → BeginsWith (fetches_of plan_of command disk) (names_tried made)
  pub at_most_last : NoneFailed made ⊎ ((name : List ℕ) × LastFailed made name)
  pub failed : (name : List ℕ) → LastFailed made name → (status ≡ ReadFault) ⊎ (status ≡ WriteFault)
  pub cause : status ≡ ReadFault → ((name : List ℕ) × LastFailed made name × (new.written ≡ append_known old.written (unreadable_line name))) ⊎ Other

-- The usage line is printed only for words that are no command, and for these always unless a write or memory failed.
pub record IsUsageReport {Command : Type 0} (command : Option Command) (status : Status) : Type 0 where
  pub only : status ≡ Usage → command ≡ None
  pub always : command ≡ None → (status ≡ Usage) ⊎ (status ≡ WriteFault) ⊎ (status ≡ Memory)

-- The course of a call, from which its clauses follow. The words were no command, or there was no memory to copy them,
-- or the plan of their command ended before its files were gathered, or the files were gathered and answered.
-- `Untouched` holds where nothing was answered.
pub data Course {Command Work : Type 0} (plan_of : Command → Plan Work) (usage_line : List ℕ) (Untouched : Type 0) (Answers : Command → Work → Type 0)
    (command : Option Command) (before after : FilesView) (old new : OutputView) (status : Status) : Type 0 where
  is_no_command : command ≡ None → after ≡ before → Untouched → Prints usage_line Usage old new status
      → Course plan_of usage_line Untouched Answers command before after old new status
  has_no_memory : after ≡ before → Untouched → new ≡ old → status ≡ Memory → Course plan_of usage_line Untouched Answers command before after old new status
  ended : (wanted : Command) (ending : Ending) → command ≡ Some wanted → GoesAlong (plan_of wanted) before after (Err ending) → Untouched
      → ReportsEnding ending old new status → Course plan_of usage_line Untouched Answers command before after old new status
  answered : (wanted : Command) (work : Work) → command ≡ Some wanted → GoesAlong (plan_of wanted) before after (Ok work) → Answers wanted work
      → Course plan_of usage_line Untouched Answers command before after old new status
