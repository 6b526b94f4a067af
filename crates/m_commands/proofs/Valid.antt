-- The clause that valid words and files are answered.
use Rattle.std.proofs.Common.{◌≡◌, ℕ, List, [], ◌∷◌, ◌++◌, length, Some, sym, subst, arith}
use Rattle.m_places.specs.declared.limits.TheConstants.{INPUT_BYTES}
use Rattle.m_ports.specs.Counts.{Rose}
use Rattle.tax_print.specs.FaultLines.{usage_line}
use Rattle.command_plans.specs.Status.{IsComplete}
use Rattle.command_plans.specs.Views.{FilesView, InputView, OutputView}
use Rattle.command_plans.specs.declared.status.Status.{Status}
use Rattle.command_plans.specs.declared.status.Status.TheVariants.{Refused}
use Rattle.command_plans.proofs.PrintedLemmas.{complete_status}
use Rattle.command_plans.proofs.ValidLemmas.{complete_of as complete}
use Rattle.command_answers.specs.Compiles as compiles
use Rattle.command_answers.specs.LargeAnswers as large
use Rattle.code_answers.specs.Schemes.{observation_for}
use Rattle.command_answers.specs.Serves as serve
use Rattle.m_commands.specs.Answer.{Replies, HasAnswer}
use Rattle.m_commands.specs.Command.{command_of, plan_of}
use Rattle.m_commands.specs.Clauses.{AnswersValid, TakesFew}
use Rattle.m_commands.specs.declared.command.Command.{Command}
use Rattle.m_commands.specs.declared.work.Work.{Work}
use Rattle.m_commands.specs.declared.work.Work.TheVariants.{Run, Serve, Batch, Large, Compile, Exec, Check, Lint, Cases}
use Rattle.m_commands.specs.inner.Courses.{Course, IsWorkOf}
use Rattle.m_commands.proofs.Checks.{checked_complete}
use Rattle.m_commands.proofs.Codes.{compiled_not_refused}
use Rattle.m_commands.proofs.Completes.{batch_complete, cases_complete, exec_complete, reported_complete, run_complete}
use Rattle.m_commands.proofs.Lints.{linted_complete}
use Rattle.m_commands.proofs.Ways.{Way, way_of, observe, lacks_memory, breaks_off, serves_all, serves_part, serves_most, serves_front, serve_reads}

-- an empty input is below the limit
nothing_full : (taken rest : List ℕ) → [] ≡ taken ++ rest → length taken ≡ INPUT_BYTES → ⊥
nothing_full [] rest e full = cc full
nothing_full (byte ∷ taken) rest e full = absurd (cc e)

-- for an empty input, what has an answer is answered and not rejected
replies_complete : (work : Work) (text : List ℕ) (status : Status) → HasAnswer work → Replies work [] text status → IsComplete status
replies_complete (Run source rows) text status h replies = run_complete source rows text status h replies
replies_complete (Serve source rows) text status h (serve.is_refused {line = line} r) = absurd (run_complete source rows line Refused h r)
replies_complete (Serve source rows) text status h (serve.is_served scheme explains pairs s few) = tt
replies_complete (Serve source rows) text status h (serve.is_too_long scheme explains pairs taken rest s e full) = absurd (nothing_full taken rest e full)
replies_complete (Batch source table) text status h replies = batch_complete source table text status h replies
replies_complete (Large n) text status h (large.is_reported scheme pairs v g) = reported_complete (observation_for scheme pairs)
replies_complete (Compile source) text status h (compiles.is_refused fault is reported) = absurd (compiled_not_refused source fault h is)
replies_complete (Compile source) text status h (compiles.is_compiled compiled is form) = tt
replies_complete (Exec code rows) text status h replies = exec_complete code rows text status h replies
replies_complete (Check source rows report) text status h replies = checked_complete source rows report text status h replies
replies_complete (Lint source) text status h replies = linted_complete source text status h replies
replies_complete (Cases source table) text status h replies = cases_complete source table text status h replies

-- a text cut short by a failed read of the input
complete_way : (words : List (List ℕ)) (command : Command) (work : Work) (heard reported : InputView) (old new : OutputView) (status : Status)
    → command_of words ≡ Some command → IsWorkOf command work
    → HasAnswer work → (Rose heard.faults reported.faults → ⊥) → (Rose old.faults new.faults → ⊥) → TakesFew words heard reported
    → Way work heard reported old new status → IsComplete status
complete_way words command work heard reported old new status c k h input out few (observe text own r o same p) = complete_status text own old new status p
    (replies_complete work text own h (r [])) out
complete_way words command work heard reported old new status c k h input out few (lacks_memory same n m) = subst IsComplete (sym m) tt
complete_way words command work heard reported old new status c k h input out few (breaks_off text own r b same a n m) = subst IsComplete (sym m) tt
complete_way words command work heard reported old new status c k h input out few (serves_all taken text s moved none calm r a is) = subst IsComplete (sym is)
    tt
complete_way words command work heard reported old new status c k h input out few (serves_part taken text s moved rose cut p) = absurd (input rose)
complete_way words command work heard reported old new status c k h input out few (serves_most taken text s moved full calm r p) =
    absurd (omega (arith, full, few (serve_reads words command work c k s) taken moved))
complete_way words command work heard reported old new status c k h input out few (serves_front s calm fronts rose is) = absurd (out rose)

pub complete_of : (words : List (List ℕ)) (before after : FilesView) (heard reported : InputView) (old new : OutputView) (status : Status)
    → Course words before after heard reported old new status
    → AnswersValid words before after heard reported old new status
complete_of words before after heard reported old new status course disk t valid quiet few =
    complete plan_of usage_line HasAnswer (command_of words) disk before after old new status course t valid quiet.0
    (λ wanted work c h a. complete_way words wanted work heard reported old new status c a.0 h quiet.1 quiet.2 few
    (way_of work heard reported old new status a.1))
