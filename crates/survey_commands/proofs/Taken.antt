-- The clause on how many bytes were read.
use Rattle.std.proofs.Common.{ℕ, Bool, true, false, cond, List, None, arith}
use Rattle.m_places.specs.declared.limits.TheConstants.{CODE_FILE_BYTES, FILE_BYTES}
use Rattle.command_plans.specs.Attempts.{TakesWithin}
use Rattle.command_plans.specs.Plan.{done}
use Rattle.command_plans.specs.Source.{code_file_plan, is_none, optional_plan, source_file_plan, source_plan}
use Rattle.command_plans.specs.Views.{FilesView, OutputView}
use Rattle.command_plans.specs.declared.status.Status.{Status}
use Rattle.command_plans.proofs.Parts.{present}
use Rattle.command_plans.proofs.SourceWithin.{code_file_within, source_file_within, source_within}
use Rattle.command_plans.proofs.TakenLemmas.{taken_of as taken}
use Rattle.command_plans.proofs.Within.{KeepsWithin, within_then}
use Rattle.survey_commands.specs.Command.{command_of, plan_of, file_limit, limit_of}
use Rattle.survey_commands.specs.Lines.{usage_line}
use Rattle.survey_commands.specs.declared.command.Command.{Command}
use Rattle.survey_commands.specs.declared.command.Command.TheVariants.{Table, Facts, CodeTable, Version}
use Rattle.survey_commands.specs.declared.work.Work.{Work}
use Rattle.survey_commands.specs.declared.work.Work.TheVariants as work
use Rattle.survey_commands.specs.inner.Courses.{Course}

-- ranges are within the limit of a file
chosen : (test : Bool) (name : List ℕ) → KeepsWithin FILE_BYTES (cond test (done None) (present name))
chosen true name = tt
chosen false name = (omega arith, λ bytes. tt)

-- the files of a command are within its limit
keeps_limit : (command : Command) → KeepsWithin (file_limit command) (plan_of command)
keeps_limit (Table names table) = within_then FILE_BYTES (source_file_plan names table) _ (source_file_within names table) (λ gathered. tt)
keeps_limit (Facts names ranges) = within_then FILE_BYTES (source_plan names) _ (source_within names)
    (λ source. within_then FILE_BYTES (optional_plan ranges) _ (chosen (is_none ranges) ranges) (λ bytes. tt))
keeps_limit (CodeTable code table) =
    within_then {B = Work} CODE_FILE_BYTES (code_file_plan code table) (λ gathered. done (work.CodeTable gathered.0 gathered.1)) (code_file_within code table)
    (λ gathered. tt)
keeps_limit Version = tt

pub taken_of : (words : List (List ℕ)) (before after : FilesView) (old new : OutputView) (status : Status) → Course words before after old new status
    → TakesWithin (limit_of words) before after status
taken_of words before after old new status course = taken plan_of usage_line (command_of words) before after old new status file_limit keeps_limit course
