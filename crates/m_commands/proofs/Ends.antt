-- The clause that a session which did all of its work is at the input's end.
use Rattle.std.proofs.Common.{◌≡◌, true, false, ℕ, List, Some, sym, ap, ◌∙◌}
use Rattle.std.specs.Option.{option_map_or}
use Rattle.std.specs.Io.KnownBytes.{IsAtEnd}
use Rattle.tax_print.specs.FaultLines.{unreadable_line, usage_line}
use Rattle.command_plans.specs.Courses.{is_no_command, has_no_memory, ended, answered}
use Rattle.command_plans.specs.Printing.{Prints}
use Rattle.command_plans.specs.Refusals.{refusal_line}
use Rattle.command_plans.specs.Views.{FilesView, InputView, OutputView}
use Rattle.command_plans.specs.declared.ending.Ending.TheVariants as ending
use Rattle.command_plans.specs.declared.status.Status.{Status}
use Rattle.command_plans.specs.declared.status.Status.TheVariants.{Done, ReadFault, Refused, Usage}
use Rattle.command_plans.proofs.PrintedLemmas.{other_status}
use Rattle.command_answers.specs.Serves as serve
use Rattle.command_answers.specs.Serving.{Served, to_its_end, unread, too_long, unwritten, unwritten_at_end}
use Rattle.m_commands.specs.Command.{reads_input, takes_input}
use Rattle.m_commands.specs.declared.command.Form.TheVariants as form
use Rattle.m_commands.specs.declared.work.Work.{Work}
use Rattle.m_commands.specs.declared.work.Work.TheVariants.{Run, Serve, Batch, Large, Compile, Exec, Check, Lint, Cases}
use Rattle.m_commands.specs.inner.Courses.{Course, WorkIsAnswered, work_form}
use Rattle.m_commands.proofs.Ways.{session_requested}

-- the status isn't `Done` after such a text was printed
not_done : (text : List ℕ) (own : Status) (old new : OutputView) (status : Status) → Prints text own old new status → (own ≡ Done → ⊥) → status ≡ Done → ⊥
not_done text own old new status p unlike e = other_status Done text own old new status p unlike (λ x. cc) e

session_ends : (whole each : List ℕ → List ℕ) (heard reported : InputView) (old new : OutputView) (status : Status)
    → Served whole each heard reported old new status → status ≡ Done → IsAtEnd reported.left
session_ends whole each heard reported old new status (to_its_end taken moved few none calm appends is) e = none
session_ends whole each heard reported old new status (unread taken moved few rose p) e = absurd (not_done _ ReadFault old new status p (λ x. cc) e)
session_ends whole each heard reported old new status (too_long taken moved full calm p) e = absurd (not_done _ Refused old new status p (λ x. cc) e)
session_ends whole each heard reported old new status (unwritten taken moved within calm breaks is) e = absurd (cc (is, e))
session_ends whole each heard reported old new status (unwritten_at_end taken moved few none calm breaks is) e = none

work_ends : (work : Work) (heard reported : InputView) (old new : OutputView) (status : Status) → WorkIsAnswered work heard reported old new status
    → work_form work ≡ Some form.Serve → status ≡ Done → IsAtEnd reported.left
work_ends (Run source rows) heard reported old new status a k e = absurd (cc k)
work_ends (Serve source rows) heard reported old new status (serve.refused line r same p) k e = absurd (not_done line Refused old new status p (λ x. cc) e)
work_ends (Serve source rows) heard reported old new status (serve.no_memory same n m) k e = absurd (cc (m, e))
work_ends (Serve source rows) heard reported old new status (serve.served scheme explains pairs s done) k e = session_ends _ _ heard reported old new status
    done e
work_ends (Batch source table) heard reported old new status a k e = absurd (cc k)
work_ends (Large n) heard reported old new status a k e = absurd (cc k)
work_ends (Compile source) heard reported old new status a k e = absurd (cc k)
work_ends (Exec code rows) heard reported old new status a k e = absurd (cc k)
work_ends (Check source rows report) heard reported old new status a k e = absurd (cc k)
work_ends (Lint source) heard reported old new status a k e = absurd (cc k)
work_ends (Cases source table) heard reported old new status a k e = absurd (cc k)

pub ends_of : (words : List (List ℕ)) (before after : FilesView) (heard reported : InputView) (old new : OutputView) (status : Status)
    → Course words before after heard reported old new status → reads_input words ≡ true → status ≡ Done → IsAtEnd reported.left
ends_of words before after heard reported old new status (is_no_command n s h p) r e = absurd (not_done usage_line Usage old new status p (λ x. cc) e)
ends_of words before after heard reported old new status (has_no_memory s h o m) r e = absurd (cc (m, e))
ends_of words before after heard reported old new status (ended wanted (ending.Refused refusal) c g h p) r e = absurd
    (not_done (refusal_line refusal) Refused old new status p (λ x. cc) e)
ends_of words before after heard reported old new status (ended wanted (ending.Unreadable name) c g h p) r e = absurd
    (not_done (unreadable_line name) ReadFault old new status p (λ x. cc) e)
ends_of words before after heard reported old new status (ended wanted ending.Memory c g h p) r e = absurd (cc (p.1, e))
ends_of words before after heard reported old new status (answered wanted work c g a) r e =
    work_ends work heard reported old new status a.1 (a.0 ∙ session_requested wanted (sym (ap (λ o. option_map_or takes_input o false) c) ∙ r)) e
