-- The course of a call of the program, from which all its clauses follow.
use Rattle.std.specs.Prelude.{◌≡◌, ℕ, Bool, true, false, List}
use Rattle.command_plans.specs.Courses as courses
use Rattle.command_plans.specs.Printing.{IsAnswered, Prints}
use Rattle.command_plans.specs.Views.{FilesView, OutputView}
use Rattle.command_plans.specs.declared.status.Status.{Status}
use Rattle.command_plans.specs.declared.status.Status.TheVariants.{Done}
use Rattle.code_answers.specs.Parts.{IsWrittenInParts}
use Rattle.survey_commands.specs.Command.{command_of, plan_of, writes_in_parts}
use Rattle.survey_commands.specs.Facts.{FactsReplies}
use Rattle.survey_commands.specs.Lines.{usage_line, version_line}
use Rattle.code_answers.specs.Execs.{CodeReplies}
use Rattle.command_answers.specs.Sources.{SourceReplies}
use Rattle.survey_commands.specs.Tables.{SchemeReplies}
use Rattle.survey_commands.specs.declared.command.Command.{Command}
use Rattle.survey_commands.specs.declared.work.Work.{Work}
use Rattle.survey_commands.specs.declared.work.Work.TheVariants.{Table, Facts, CodeTable, Version}

-- whether the work is answered in parts
abbrev pub work_in_parts : Work → Bool
work_in_parts (Table source table) = true
work_in_parts (Facts source ranges) = false
work_in_parts (CodeTable code table) = true
work_in_parts Version = false

-- the work is that of the command
abbrev pub IsWorkOf : Command → Work → Type 0
IsWorkOf wanted work = work_in_parts work ≡ writes_in_parts wanted

-- how the work was answered
abbrev pub WorkIsAnswered : Work → OutputView → OutputView → Status → Type 0
WorkIsAnswered (Table source table) old new status = IsWrittenInParts (SourceReplies source (λ scheme. SchemeReplies scheme table)) old new status
WorkIsAnswered (Facts source ranges) old new status = IsAnswered (FactsReplies source ranges) old new status
WorkIsAnswered (CodeTable code table) old new status = IsWrittenInParts (CodeReplies code (λ scheme. SchemeReplies scheme table)) old new status
WorkIsAnswered Version old new status = Prints version_line Done old new status

-- The course of a call.
abbrev pub Course : List (List ℕ) → (before after : FilesView) → (old new : OutputView) → Status → Type 0
Course words before after old new status =
    courses.Course plan_of usage_line (Unit {0}) (λ wanted work. IsWorkOf wanted work × WorkIsAnswered work old new status)
    (command_of words) before after old new
    status
