-- The answer of a command, given what it gathered.
use Rattle.std.specs.Prelude.{◌≡◌, ℕ, ◌≤◌, List, length}
use Rattle.m_places.specs.declared.limits.TheConstants.{CODE_FILE_BYTES}
use Rattle.m_places.specs.SourceLimits.{SourceKeepsLimits}
use Rattle.command_plans.specs.declared.status.Status.{Status}
use Rattle.command_plans.specs.declared.status.Status.TheVariants.{Done}
use Rattle.household.specs.Table.{table_of}
use Rattle.code_file.specs.Reading.{IsFormOf}
use Rattle.code_file.specs.declared.loaded.Loaded.{Loaded}
use Rattle.code_answers.specs.Execs.{CodeReplies}
use Rattle.code_answers.specs.Replies.{HasGiven}
use Rattle.code_answers.specs.Schemes.{Scheme}
use Rattle.command_answers.specs.Sources.{IsScheme, SourceReplies}
use Rattle.survey_commands.specs.Facts.{FactsHaveAnswer, FactsReplies}
use Rattle.survey_commands.specs.Lines.{version_line}
use Rattle.survey_commands.specs.Tables.{SchemeReplies}
use Rattle.survey_commands.specs.declared.work.Work.{Work}
use Rattle.survey_commands.specs.declared.work.Work.TheVariants.{Table, Facts, CodeTable, Version}

-- The text and the status of a command that gathered this.
abbrev pub Replies : Work → List ℕ → Status → Type 0
Replies (Table source table) = SourceReplies source (λ scheme. SchemeReplies scheme table)
Replies (Facts source ranges) = FactsReplies source ranges
Replies (CodeTable code table) = CodeReplies code (λ scheme. SchemeReplies scheme table)
Replies Version = λ text status. (text ≡ version_line) × (status ≡ Done)

-- what was gathered has an answer that isn't an error
abbrev pub HasAnswer : Work → Type 0
HasAnswer (Table source table) = HasGiven (IsScheme source) (λ (scheme : Scheme). table_of scheme.inputs table)
HasAnswer (Facts source ranges) = FactsHaveAnswer source ranges
HasAnswer (CodeTable code table) = HasGiven (IsFormOf code) (λ (loaded : Loaded). table_of loaded.face.inputs table)
HasAnswer Version = Unit {0}

-- the gathered files are within the limits
abbrev pub WorkKeepsLimits : Work → Type 0
WorkKeepsLimits (Table source table) = SourceKeepsLimits source
WorkKeepsLimits (Facts source ranges) = SourceKeepsLimits source
WorkKeepsLimits (CodeTable code table) = length code ≤ CODE_FILE_BYTES
WorkKeepsLimits Version = Unit {0}
