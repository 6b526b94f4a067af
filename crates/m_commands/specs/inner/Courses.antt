-- The course of a call of the program, from which all its clauses follow.
use Rattle.std.specs.Prelude.{◌≡◌, ℕ, List, Option, Some, None}
use Rattle.tax_print.specs.FaultLines.{usage_line}
use Rattle.command_plans.specs.Courses as courses
use Rattle.command_plans.specs.Printing.{IsAnswered}
use Rattle.command_plans.specs.Views.{FilesView, InputView, OutputView}
use Rattle.command_plans.specs.declared.status.Status.{Status}
use Rattle.code_answers.specs.Parts.{IsWrittenInParts}
use Rattle.rule_answers.specs.Checks.{CheckReplies}
use Rattle.command_answers.specs.Compiles.{CompileReplies}
use Rattle.code_answers.specs.Execs.{ExecReplies}
use Rattle.command_answers.specs.LargeAnswers.{LargeReplies}
use Rattle.rule_answers.specs.Lints.{LintReplies}
use Rattle.command_answers.specs.Runs.{RunReplies}
use Rattle.command_answers.specs.Sources.{SourceReplies}
use Rattle.code_answers.specs.Cases.{ComparedReplies}
use Rattle.code_answers.specs.Shown.{TableReplies}
use Rattle.command_answers.specs.Serves.{IsServed}
use Rattle.m_commands.specs.Command.{command_of, plan_of}
use Rattle.m_commands.specs.declared.command.Command.{Command}
use Rattle.m_commands.specs.declared.command.Command.TheVariants as command
use Rattle.m_commands.specs.declared.command.Form.{Form}
use Rattle.m_commands.specs.declared.command.Form.TheVariants as form
use Rattle.m_commands.specs.declared.work.Work.{Work}
use Rattle.m_commands.specs.declared.work.Work.TheVariants.{Run, Serve, Batch, Large, Compile, Exec, Check, Lint, Cases}

-- the form of a command over a source and one more file
abbrev pub command_form : Command → Option Form
command_form (command.Run names household) = Some form.Run
command_form (command.Serve names household) = Some form.Serve
command_form (command.Batch names table) = Some form.Batch
command_form (command.Large n) = None
command_form (command.Compile names) = None
command_form (command.Exec code household) = None
command_form (command.Check list household report) = None
command_form (command.Lint names) = None
command_form (command.Cases names table) = Some form.Cases

-- the form of the command that gathered this
abbrev pub work_form : Work → Option Form
work_form (Run source rows) = Some form.Run
work_form (Serve source rows) = Some form.Serve
work_form (Batch source table) = Some form.Batch
work_form (Large n) = None
work_form (Compile source) = None
work_form (Exec code rows) = None
work_form (Check source rows report) = None
work_form (Lint source) = None
work_form (Cases source table) = Some form.Cases

-- the work is of the command's form
abbrev pub IsWorkOf : Command → Work → Type 0
IsWorkOf wanted work = work_form work ≡ command_form wanted

-- how the work was answered
abbrev pub WorkIsAnswered : Work → (heard reported : InputView) (old new : OutputView) → Status → Type 0
WorkIsAnswered (Run source rows) heard reported old new status = (reported ≡ heard) × IsAnswered (RunReplies source rows) old new status
WorkIsAnswered (Serve source rows) heard reported old new status = IsServed source rows heard reported old new status
WorkIsAnswered (Batch source table) heard reported old new status =
    (reported ≡ heard) × IsWrittenInParts (SourceReplies source (λ scheme. TableReplies scheme table)) old new status
WorkIsAnswered (Large n) heard reported old new status = (reported ≡ heard) × IsAnswered (LargeReplies n) old new status
WorkIsAnswered (Compile source) heard reported old new status = (reported ≡ heard) × IsAnswered (CompileReplies source) old new status
WorkIsAnswered (Exec code rows) heard reported old new status = (reported ≡ heard) × IsAnswered (ExecReplies code rows) old new status
WorkIsAnswered (Check source rows report) heard reported old new status = (reported ≡ heard) × IsAnswered (CheckReplies source rows report) old new status
WorkIsAnswered (Lint source) heard reported old new status = (reported ≡ heard) × IsAnswered (LintReplies source) old new status
WorkIsAnswered (Cases source table) heard reported old new status =
    (reported ≡ heard) × IsWrittenInParts (SourceReplies source (λ scheme. ComparedReplies scheme table)) old new status

-- The course of a call: nothing was read from the input unless the command's work was answered.
abbrev pub Course : List (List ℕ) → (before after : FilesView) → (heard reported : InputView) → (old new : OutputView) → Status → Type 0
Course words before after heard reported old new status =
    courses.Course plan_of usage_line (reported ≡ heard) (λ wanted work. IsWorkOf wanted work × WorkIsAnswered work heard reported old new status)
    (command_of words) before after old new status
