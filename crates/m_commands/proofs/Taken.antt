-- The clause on how many bytes were read.
use Rattle.std.proofs.Common.{◌≤◌, ℕ, List, arith}
use Rattle.m_places.specs.declared.limits.TheConstants.{CODE_FILE_BYTES, FILE_BYTES}
use Rattle.tax_print.specs.FaultLines.{usage_line}
use Rattle.command_plans.specs.Attempts.{TakesWithin}
use Rattle.command_plans.specs.Plan.{done}
use Rattle.command_plans.specs.Source.{code_file_plan, source_file_plan, source_plan}
use Rattle.command_plans.specs.Views.{FilesView, InputView, OutputView}
use Rattle.command_plans.specs.declared.status.Status.{Status}
use Rattle.command_plans.proofs.SourceWithin.{code_file_within, source_file_within, source_within}
use Rattle.command_plans.proofs.TakenLemmas.{taken_of as taken}
use Rattle.command_plans.proofs.Within.{KeepsWithin, within_more, within_then}
use Rattle.m_commands.specs.Command.{command_of, plan_of, file_limit, limit_of, rules_only}
use Rattle.m_commands.specs.declared.command.Command.{Command}
use Rattle.m_commands.specs.declared.command.Command.TheVariants.{Run, Serve, Batch, Large, Compile, Exec, Check, Lint, Cases}
use Rattle.m_commands.specs.declared.work.Work.{Work}
use Rattle.m_commands.specs.declared.work.Work.TheVariants as work
use Rattle.m_commands.specs.inner.Courses.{Course}

file_fits : FILE_BYTES ≤ CODE_FILE_BYTES
file_fits = omega arith

-- the files of a command are within its limit
keeps_limit : (command : Command) → KeepsWithin (file_limit command) (plan_of command)
keeps_limit (Run names household) =
    within_then FILE_BYTES (source_file_plan names household) _ (source_file_within names household) (λ gathered. tt)
keeps_limit (Serve names household) =
    within_then FILE_BYTES (source_file_plan names household) _ (source_file_within names household) (λ gathered. tt)
keeps_limit (Batch names table) =
    within_then FILE_BYTES (source_file_plan names table) _ (source_file_within names table) (λ gathered. tt)
keeps_limit (Large n) = tt
keeps_limit (Cases names table) =
    within_then FILE_BYTES (source_file_plan names table) _ (source_file_within names table) (λ gathered. tt)
keeps_limit (Compile names) = within_then FILE_BYTES (source_plan names) _ (source_within names) (λ source. tt)
keeps_limit (Exec code household) =
    within_then {B = Work} CODE_FILE_BYTES (code_file_plan code household) (λ gathered. done (work.Exec gathered.0 gathered.1))
    (code_file_within code household) (λ gathered. tt)
keeps_limit (Lint names) = within_then FILE_BYTES (source_plan names) _ (source_within names) (λ source. tt)
keeps_limit (Check list household report) =
    within_then CODE_FILE_BYTES (source_plan (rules_only list)) _ (within_more FILE_BYTES CODE_FILE_BYTES (source_plan (rules_only list)) file_fits
    (source_within (rules_only list)))
    (λ source. (file_fits, λ rows. (omega arith, λ bytes. tt)))

pub taken_of : (words : List (List ℕ)) (before after : FilesView) (heard reported : InputView) (old new : OutputView) (status : Status)
    → Course words before after heard reported old new status → TakesWithin (limit_of words) before after status
taken_of words before after heard reported old new status course =
    taken plan_of usage_line (command_of words) before after old new status file_limit keeps_limit
    course
