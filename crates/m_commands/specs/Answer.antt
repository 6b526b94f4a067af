-- The answer of a command, given what it gathered.
use Rattle.std.specs.Prelude.{ℕ, ◌≤◌, List, length}
use Rattle.m_places.specs.declared.limits.TheConstants.{CODE_FILE_BYTES, LARGE}
use Rattle.m_places.specs.SourceLimits.{SourceKeepsLimits}
use Rattle.command_plans.specs.declared.status.Status.{Status}
use Rattle.rule_answers.specs.Checks.{CheckReplies, CheckHasAnswer}
use Rattle.command_answers.specs.Compiles.{CompileReplies, CompileHasAnswer}
use Rattle.code_answers.specs.Execs.{ExecReplies, ExecHasAnswer}
use Rattle.command_answers.specs.LargeAnswers.{LargeReplies}
use Rattle.rule_answers.specs.Lints.{LintReplies}
use Rattle.command_answers.specs.Runs.{RunReplies, RunHasAnswer}
use Rattle.command_answers.specs.Sources.{IsScheme, SourceReplies}
use Rattle.code_answers.specs.Cases.{ComparedReplies}
use Rattle.code_answers.specs.Replies.{HasGiven}
use Rattle.code_answers.specs.Schemes.{Scheme}
use Rattle.code_answers.specs.Shown.{TableReplies}
use Rattle.household.specs.Table.{table_of}
use Rattle.m_cases.specs.Cases.{cases_of}
use Rattle.command_answers.specs.Serves.{ServeReplies, ServeCutOff}
use Rattle.m_commands.specs.declared.work.Work.{Work}
use Rattle.m_commands.specs.declared.work.Work.TheVariants.{Run, Serve, Batch, Large, Compile, Exec, Check, Lint, Cases}

-- The text and the status of a command that gathered this, where `typed` is the whole input.
abbrev pub Replies : Work → (typed : List ℕ) → List ℕ → Status → Type 0
Replies (Run source rows) typed = RunReplies source rows
Replies (Serve source rows) typed = ServeReplies source rows typed
Replies (Batch source table) typed = SourceReplies source (λ scheme. TableReplies scheme table)
Replies (Large n) typed = LargeReplies n
Replies (Compile source) typed = CompileReplies source
Replies (Exec code rows) typed = ExecReplies code rows
Replies (Check source rows report) typed = CheckReplies source rows report
Replies (Lint source) typed = LintReplies source
Replies (Cases source table) typed = SourceReplies source (λ scheme. ComparedReplies scheme table)

-- The text if a read of the input fails after these bytes: only a session reads the input.
abbrev pub CutOff : Work → (taken : List ℕ) → List ℕ → Type 0
CutOff (Serve source rows) taken text = ServeCutOff source rows taken text
CutOff _ taken text = ⊥

-- what was gathered has an answer that isn't an error; for the generated source and household this always holds
abbrev pub HasAnswer : Work → Type 0
HasAnswer (Run source rows) = RunHasAnswer source rows
HasAnswer (Serve source rows) = RunHasAnswer source rows
HasAnswer (Batch source table) = HasGiven (IsScheme source) (λ (scheme : Scheme). table_of scheme.inputs table)
HasAnswer (Large n) = Unit {0}
HasAnswer (Compile source) = CompileHasAnswer source
HasAnswer (Exec code rows) = ExecHasAnswer code rows
HasAnswer (Check source rows report) = CheckHasAnswer source rows report
HasAnswer (Lint source) = CompileHasAnswer source
HasAnswer (Cases source table) = HasGiven (IsScheme source) (λ (scheme : Scheme). cases_of scheme.inputs scheme.names table)

-- the gathered files are within the limits
abbrev pub WorkKeepsLimits : Work → Type 0
WorkKeepsLimits (Run source rows) = SourceKeepsLimits source
WorkKeepsLimits (Serve source rows) = SourceKeepsLimits source
WorkKeepsLimits (Batch source table) = SourceKeepsLimits source
WorkKeepsLimits (Large n) = (1 ≤ n) × (n ≤ LARGE)
WorkKeepsLimits (Compile source) = SourceKeepsLimits source
WorkKeepsLimits (Exec code rows) = length code ≤ CODE_FILE_BYTES
WorkKeepsLimits (Check source rows report) = SourceKeepsLimits source × (length report ≤ CODE_FILE_BYTES)
WorkKeepsLimits (Lint source) = SourceKeepsLimits source
WorkKeepsLimits (Cases source table) = SourceKeepsLimits source
