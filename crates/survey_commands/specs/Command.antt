-- The words of the command line as commands, and the plan of each command.
use Rattle.std.specs.Prelude.{ℕ, Bool, true, false, List, [], ◌∷◌, Option, Some, None, if◌then◌else◌, codes, option_map}
use Rattle.std.specs.List.{list_all}
use Rattle.std.specs.Option.{option_map_or, option_or}
use Rattle.std.specs.Str.{bytes_eq, is_utf8}
use Rattle.m_places.specs.declared.limits.TheConstants.{CODE_FILE_BYTES, FILE_BYTES}
use Rattle.command_plans.specs.Plan.{Plan, done, and_then}
use Rattle.command_plans.specs.Source.{code_file_plan, optional_plan, source_file_plan, source_plan}
use Rattle.command_plans.specs.declared.source.SourceNames.{SourceNames}
use Rattle.survey_commands.specs.declared.command.Command.{Command}
use Rattle.survey_commands.specs.declared.command.Command.TheVariants.{Table, Facts, CodeTable, Version}
use Rattle.survey_commands.specs.declared.command.OverSource.{OverSource}
use Rattle.survey_commands.specs.declared.command.OverSource.TheVariants as over
use Rattle.survey_commands.specs.declared.work.Work.{Work}
use Rattle.survey_commands.specs.declared.work.Work.TheVariants as work

-- ---- words

-- the command `version` of these words, or none
abbrev pub version_command : List (List ℕ) → Option Command
version_command (word ∷ []) = if bytes_eq word (codes "version") then Some Version else None
version_command _ = None

-- the command `table` over a code file of these words, or none: its word, and the names of a code file and a table, in
-- UTF-8
abbrev pub code_command : List (List ℕ) → Option Command
code_command (word ∷ code ∷ table ∷ []) =
    if bytes_eq word (codes "table") then (if list_all is_utf8 (code ∷ table ∷ []) then Some (CodeTable code table) else None) else None
code_command _ = None

-- the command over a source and one more file with this word, `table` or `facts`
abbrev pub over_source : List ℕ → Option OverSource
over_source word = if bytes_eq word (codes "table") then Some over.Table else if bytes_eq word (codes "facts") then Some over.Facts else None

abbrev pub command_over : OverSource → SourceNames → List ℕ → Command
command_over over.Table names file = Table names file
command_over over.Facts names file = Facts names file

-- The command over a source and one more file of these words, or none: `table` or `facts`, a name at each place of a
-- source, and the name of a table or of ranges, all in UTF-8.
abbrev pub source_command : List (List ℕ) → Option Command
source_command (word ∷ list ∷ driver ∷ requests ∷ file ∷ []) =
    if list_all is_utf8 (list ∷ driver ∷ requests ∷ file ∷ [])
    then option_map (λ wanted. command_over wanted (record { list = list; driver = driver; requests = requests }) file) (over_source word)
    else None
source_command _ = None

-- The command of these words, or none: `version`, `table` over a code file or a source and a table, or `facts` over a
-- source and ranges.
abbrev pub command_of : List (List ℕ) → Option Command
command_of words = option_or (version_command words) (option_or (code_command words) (source_command words))

-- ---- plans

-- The plan of a command: which files it fetches, in which order, where it rejects them, and what it has gathered in
-- the end. The ranges of `facts` may be `-`, and `version` fetches no file.
abbrev pub plan_of : Command → Plan Work
plan_of (Table names table) = and_then (source_file_plan names table) (λ gathered. done (work.Table gathered.0 gathered.1))
plan_of (Facts names ranges) = and_then (source_plan names) (λ source. and_then (optional_plan ranges) (λ bytes. done (work.Facts source bytes)))
plan_of (CodeTable code table) = and_then (code_file_plan code table) (λ gathered. done (work.CodeTable gathered.0 gathered.1))
plan_of Version = done work.Version

-- the greatest number of bytes of a file that a command fetches
abbrev pub file_limit : Command → ℕ
file_limit (Table names table) = FILE_BYTES
file_limit (Facts names ranges) = FILE_BYTES
file_limit (CodeTable code table) = CODE_FILE_BYTES
file_limit Version = 0

-- the greatest number of bytes of a file that the words' command fetches; 0 for words that are no command
abbrev pub limit_of : List (List ℕ) → ℕ
limit_of words = option_map_or file_limit (command_of words) 0

-- whether a command writes before all its work is done, so that memory may run out after a part of its text
abbrev pub writes_in_parts : Command → Bool
writes_in_parts (Table names table) = true
writes_in_parts (Facts names ranges) = false
writes_in_parts (CodeTable code table) = true
writes_in_parts Version = false

-- whether the words are a command that writes before all its work is done
abbrev pub writes_early : List (List ℕ) → Bool
writes_early words = option_map_or writes_in_parts (command_of words) false
