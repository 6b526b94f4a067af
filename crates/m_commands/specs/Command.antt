-- The words of the command line as commands, and the plan of each command.
use Rattle.std.specs.Prelude.{ℕ, ◌≤◌, nat_le, Bool, true, false, ◌&&◌, List, [], ◌∷◌, length, Option, Some, None, if◌then◌else◌, codes}
use Rattle.std.specs.List.{list_all}
use Rattle.std.specs.Option.{option_map, option_map_or, option_or}
use Rattle.std.specs.Str.{bytes_eq, is_utf8}
use Rattle.m_places.specs.declared.limits.TheConstants.{CODE_FILE_BYTES, FILE_BYTES, LARGE}
use Rattle.m_text.specs.Numbers.{whole_number}
use Rattle.command_plans.specs.Plan.{Plan, done, file_plan, and_then}
use Rattle.command_plans.specs.Source.{code_file_plan, source_file_plan, source_plan}
use Rattle.command_plans.specs.declared.source.SourceNames.{SourceNames}
use Rattle.m_places.specs.declared.source.Source.{Source}
use Rattle.m_commands.specs.declared.command.Command.{Command}
use Rattle.m_commands.specs.declared.command.Command.TheVariants.{Run, Serve, Batch, Large, Compile, Exec, Check, Lint, Cases}
use Rattle.m_commands.specs.declared.command.Form.{Form}
use Rattle.m_commands.specs.declared.command.Form.TheVariants as form
use Rattle.m_commands.specs.declared.work.Work.{Work}
use Rattle.m_commands.specs.declared.work.Work.TheVariants as work

-- ---- words

-- a number that `large N` accepts
abbrev pub reached : Option ℕ → Option ℕ
reached None = None
reached (Some n) = if nat_le 1 n && nat_le n LARGE then Some n else None

-- The number of a word of one to six digits that `large N` accepts: `007` has 7, and `0` and `100001` have none.
abbrev pub large_number : List ℕ → Option ℕ
large_number word = if nat_le (length word) 6 then reached (whole_number word) else None

-- the command `large N` of these words, or none
abbrev pub large_command : List (List ℕ) → Option Command
large_command (word ∷ number ∷ []) = if bytes_eq word (codes "large") then option_map Large (large_number number) else None
large_command _ = None

-- the form of a command over a source, by its word
abbrev pub form_of : List ℕ → Option Form
form_of word =
    if bytes_eq word (codes "run") then Some form.Run else if bytes_eq word (codes "serve") then Some form.Serve
    else if bytes_eq word (codes "batch") then Some form.Batch else if bytes_eq word (codes "cases") then Some form.Cases else None

abbrev pub of_form : Form → SourceNames → List ℕ → Command
of_form form.Run names behind = Run names behind
of_form form.Serve names behind = Serve names behind
of_form form.Batch names behind = Batch names behind
of_form form.Cases names behind = Cases names behind

-- the command over a source of these words, or none: its word, a name at each place after it, all in UTF-8
abbrev pub source_command : List (List ℕ) → Option Command
source_command (word ∷ list ∷ driver ∷ requests ∷ behind ∷ []) =
    if list_all is_utf8 (list ∷ driver ∷ requests ∷ behind ∷ [])
    then option_map (λ f. of_form f (record { list = list; driver = driver; requests = requests }) behind) (form_of word) else None
source_command _ = None

-- the command `compile` of these words, or none: its word, a name at each place of a source, all in UTF-8
abbrev pub compile_command : List (List ℕ) → Option Command
compile_command (word ∷ list ∷ driver ∷ requests ∷ []) =
    if bytes_eq word (codes "compile")
    then (if list_all is_utf8 (list ∷ driver ∷ requests ∷ []) then Some (Compile (record { list = list; driver = driver; requests = requests })) else None) else
    None
compile_command _ = None

-- the command `exec` of these words, or none: its word, and the names of a code file and a household, in UTF-8
abbrev pub exec_command : List (List ℕ) → Option Command
exec_command (word ∷ code ∷ household ∷ []) =
    if bytes_eq word (codes "exec") then (if list_all is_utf8 (code ∷ household ∷ []) then Some (Exec code household) else None) else None
exec_command _ = None

-- the command `check` of these words, or none: its word, and the names of a list, a household and a report, in UTF-8
abbrev pub check_command : List (List ℕ) → Option Command
check_command (word ∷ list ∷ household ∷ report ∷ []) =
    if bytes_eq word (codes "check") then (if list_all is_utf8 (list ∷ household ∷ report ∷ []) then Some (Check list household report) else None) else None
check_command _ = None

-- the command `lint` of these words, or none: its word, a name at each place of a source, all in UTF-8
abbrev pub lint_command : List (List ℕ) → Option Command
lint_command (word ∷ list ∷ driver ∷ requests ∷ []) =
    if bytes_eq word (codes "lint")
    then (if list_all is_utf8 (list ∷ driver ∷ requests ∷ []) then Some (Lint (record { list = list; driver = driver; requests = requests })) else None) else
    None
lint_command _ = None

-- The command of these words, or none: `large N`; `exec` over a code file and a household; `compile` or `lint` over a
-- source; `check` over a list, a household and a report; or `run`, `serve`, `batch` or `cases` over a source and one
-- more file.
abbrev pub command_of : List (List ℕ) → Option Command
command_of words = option_or (large_command words)
    (option_or (exec_command words) (option_or (compile_command words)
    (option_or (check_command words) (option_or (lint_command words) (source_command words)))))

-- the number of `large N` is within its limits
abbrev pub IsInReach : Command → Type 0
IsInReach (Large n) = (1 ≤ n) × (n ≤ LARGE)
IsInReach _ = Unit {0}

-- ---- plans

-- the work of a command of this form, which gathered this source and this file
abbrev pub work_of : Form → Source → List ℕ → Work
work_of form.Run = work.Run
work_of form.Serve = work.Serve
work_of form.Batch = work.Batch
work_of form.Cases = work.Cases

-- a source is gathered, and then one more file
abbrev pub work_plan : SourceNames → List ℕ → (Source → List ℕ → Work) → Plan Work
work_plan names behind kind = and_then (source_file_plan names behind) (λ gathered. done (kind gathered.0 gathered.1))

-- the names of a source that has rules only: no driver and no requests
abbrev pub rules_only : List ℕ → SourceNames
rules_only list = record { list = list; driver = codes "-"; requests = codes "-" }

-- the rules of a list are gathered, and then a household and a report
abbrev pub check_plan : List ℕ → List ℕ → List ℕ → Plan Work
check_plan list household report =
    and_then (source_plan (rules_only list)) (λ source. and_then (file_plan household FILE_BYTES)
    (λ rows. and_then (file_plan report CODE_FILE_BYTES) (λ bytes. done (work.Check source rows bytes))))

-- The plan of a command: which files it fetches, in which order, where it rejects them, and what it has gathered in
-- the end. `large N` fetches none.
abbrev pub plan_of : Command → Plan Work
plan_of (Run names household) = work_plan names household work.Run
plan_of (Serve names household) = work_plan names household work.Serve
plan_of (Batch names table) = work_plan names table work.Batch
plan_of (Large n) = done (work.Large n)
plan_of (Compile names) = and_then (source_plan names) (λ source. done (work.Compile source))
plan_of (Exec code household) = and_then (code_file_plan code household) (λ gathered. done (work.Exec gathered.0 gathered.1))
plan_of (Check list household report) = check_plan list household report
plan_of (Lint names) = and_then (source_plan names) (λ source. done (work.Lint source))
plan_of (Cases names table) = work_plan names table work.Cases

-- the greatest number of bytes of a file that a command fetches; `large N` fetches none
abbrev pub file_limit : Command → ℕ
file_limit (Exec code household) = CODE_FILE_BYTES
file_limit (Check list household report) = CODE_FILE_BYTES
file_limit (Large n) = 0
file_limit _ = FILE_BYTES

-- the greatest number of bytes of a file that the words' command fetches; 0 for words that are no command
abbrev pub limit_of : List (List ℕ) → ℕ
limit_of words = option_map_or file_limit (command_of words) 0

-- whether a command reads the input
abbrev pub takes_input : Command → Bool
takes_input (Serve names household) = true
takes_input _ = false

-- whether the words are a command that reads the input
abbrev pub reads_input : List (List ℕ) → Bool
reads_input words = option_map_or takes_input (command_of words) false

-- whether a command writes before all its work is done, so that memory may run out after a part of its text
abbrev pub writes_in_parts : Command → Bool
writes_in_parts (Batch names table) = true
writes_in_parts (Cases names table) = true
writes_in_parts _ = false

-- whether the words are a command that writes before all its work is done
abbrev pub writes_early : List (List ℕ) → Bool
writes_early words = option_map_or writes_in_parts (command_of words) false
