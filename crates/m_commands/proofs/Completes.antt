-- What has an answer to a file isn't rejected.
use Rattle.std.proofs.Common.{ℕ, zero, suc, List}
use Rattle.m_places.specs.declared.source.Source.{Source}
use Rattle.observables.specs.Answers.{Observation, values, stopped}
use Rattle.observables.specs.declared.inputs.Coded.{Coded}
use Rattle.household.specs.Household.{household_of}
use Rattle.household.specs.Table.{table_of}
use Rattle.m_cases.specs.Cases.{cases_of}
use Rattle.m_cases.specs.declared.cases.Cases.{Cases}
use Rattle.tax_print.specs.Lines.{observation_lines}
use Rattle.command_plans.specs.Status.{IsComplete}
use Rattle.command_plans.specs.declared.status.Status.{Status}
use Rattle.code_answers.specs.Cases.{ComparedReplies, cases_count, cases_fault_line, cases_text, count_status}
use Rattle.code_answers.specs.Execs.{ExecHasAnswer, ExecReplies}
use Rattle.code_answers.specs.Households.{household_fault_line, observation_status}
use Rattle.code_answers.specs.Schemes.{Scheme, observation_for}
use Rattle.code_answers.specs.Replies.{HasGiven}
use Rattle.code_answers.specs.Shown.{TableReplies}
use Rattle.code_answers.specs.Tables.{rows_lines}
use Rattle.code_answers.proofs.OneLaws.{code_complete}
use Rattle.command_answers.specs.Runs.{RunHasAnswer, RunReplies}
use Rattle.command_answers.specs.Sources.{IsScheme, SourceReplies}
use Rattle.command_answers.proofs.SchemeLaws.{source_complete}
use Rattle.command_plans.specs.declared.status.Status.TheVariants.{Done}

-- an observation has the status of a command that did all of its work
pub reported_complete : (reported : Observation) → IsComplete (observation_status reported)
reported_complete (values notes vs) = tt
reported_complete (stopped cause) = tt

count_complete : (count : ℕ) → IsComplete (count_status count)
count_complete zero = tt
count_complete (suc count) = tt

pub run_complete : (source : Source) (rows text : List ℕ) (status : Status) → RunHasAnswer source rows → RunReplies source rows text status → IsComplete status
run_complete source rows text status h a =
    source_complete source (λ (scheme : Scheme). household_of scheme.inputs rows) household_fault_line
    (λ (scheme : Scheme) pairs. observation_lines scheme.names (observation_for scheme pairs)) (λ scheme pairs. observation_status (observation_for scheme
    pairs))
    text status (λ scheme pairs. reported_complete (observation_for scheme pairs)) h a

pub batch_complete : (source : Source) (table text : List ℕ) (status : Status) → HasGiven (IsScheme source) (λ (scheme : Scheme). table_of scheme.inputs table)
    → SourceReplies source (λ scheme. TableReplies scheme table) text status → IsComplete status
batch_complete source table text status h a =
    source_complete source (λ (scheme : Scheme). table_of scheme.inputs table) household_fault_line rows_lines (λ scheme rows. Done) text status
    (λ scheme rows. tt) h a

pub cases_complete : (source : Source) (table text : List ℕ) (status : Status) → HasGiven (IsScheme source) (λ (scheme : Scheme). cases_of scheme.inputs
    scheme.names table)
    → SourceReplies source (λ scheme. ComparedReplies scheme table) text status → IsComplete status
cases_complete source table text status h a =
    source_complete source (λ (scheme : Scheme). cases_of scheme.inputs scheme.names table) cases_fault_line cases_text
    (λ scheme (cases : Cases). count_status (cases_count scheme cases.rows cases.expected)) text status
    (λ scheme (cases : Cases). count_complete (cases_count scheme cases.rows cases.expected)) h a

pub exec_complete : (code rows text : List ℕ) (status : Status) → ExecHasAnswer code rows → ExecReplies code rows text status → IsComplete status
exec_complete code rows text status h a =
    code_complete code (λ (inputs : List Coded). household_of inputs rows) household_fault_line
    (λ (scheme : Scheme) pairs. observation_lines scheme.names (observation_for scheme pairs)) (λ scheme pairs. observation_status (observation_for scheme
    pairs))
    text status (λ scheme pairs. reported_complete (observation_for scheme pairs)) h a
