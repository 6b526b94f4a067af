-- The clause that valid words and files are answered.
use Rattle.std.proofs.Common.{◌≡◌, ℕ, List, sym, subst}
use Rattle.m_ports.specs.Counts.{Rose}
use Rattle.household.specs.Table.{table_of}
use Rattle.observables.specs.declared.inputs.Coded.{Coded}
use Rattle.command_plans.specs.Status.{IsComplete}
use Rattle.command_plans.specs.Views.{FilesView, OutputView}
use Rattle.command_plans.specs.declared.status.Status.{Status}
use Rattle.command_plans.proofs.PrintedLemmas.{complete_status}
use Rattle.command_plans.proofs.ValidLemmas.{complete_of as complete}
use Rattle.command_plans.specs.declared.status.Status.TheVariants.{Done}
use Rattle.code_answers.specs.Households.{household_fault_line}
use Rattle.code_answers.specs.Schemes.{Scheme}
use Rattle.survey_commands.specs.Answer.{Replies, HasAnswer}
use Rattle.survey_commands.specs.Command.{command_of, plan_of}
use Rattle.survey_commands.specs.Clauses.{AnswersValid}
use Rattle.survey_commands.specs.Lines.{usage_line}
use Rattle.survey_commands.specs.Records.{table_text}
use Rattle.survey_commands.specs.declared.work.Work.{Work}
use Rattle.survey_commands.specs.declared.work.Work.TheVariants.{Table, Facts, CodeTable, Version}
use Rattle.survey_commands.specs.inner.Courses.{Course}
use Rattle.survey_commands.proofs.FactsLemmas.{facts_complete}
use Rattle.code_answers.proofs.OneLaws.{code_complete}
use Rattle.command_answers.proofs.SchemeLaws.{source_complete}
use Rattle.survey_commands.proofs.Ways.{Way, way_of, observe, lacks_memory, breaks_off}

-- what has an answer is answered, and not rejected
replies_complete : (work : Work) (text : List ℕ) (status : Status) → HasAnswer work → Replies work text status → IsComplete status
replies_complete (Table source table) text status h r =
    source_complete source (λ (scheme : Scheme). table_of scheme.inputs table) household_fault_line table_text (λ scheme rows. Done) text status
    (λ scheme rows. tt) h r
replies_complete (Facts source ranges) text status h r = facts_complete source ranges text status h r
replies_complete (CodeTable code table) text status h r =
    code_complete code (λ (inputs : List Coded). table_of inputs table) household_fault_line table_text (λ scheme rows. Done) text status (λ scheme rows. tt)
    h r
replies_complete Version text status h r = subst IsComplete (sym r.1) tt

complete_way : (work : Work) (old new : OutputView) (status : Status) → HasAnswer work → (Rose old.faults new.faults → ⊥) → Way work old new status
    → IsComplete status
complete_way work old new status h out (observe text own r o p) = complete_status text own old new status p (replies_complete work text own h r) out
complete_way work old new status h out (lacks_memory n m) = subst IsComplete (sym m) tt
complete_way work old new status h out (breaks_off text own r b a n m) = subst IsComplete (sym m) tt

pub complete_of : (words : List (List ℕ)) (before after : FilesView) (old new : OutputView) (status : Status) → Course words before after old new status
    → AnswersValid words before after old new status
complete_of words before after old new status course disk t valid quiet =
    complete plan_of usage_line HasAnswer (command_of words) disk before after old new status course t valid quiet.0
    (λ wanted work c h a. complete_way work old new status h quiet.1 (way_of work old new status a.1))
