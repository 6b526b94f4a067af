-- The clause on the files that are read.
use Rattle.std.proofs.Common.{◌≡◌, ℕ, true, List, Some, Ok, subst}
use Rattle.m_ports.specs.Counts.{Rose}
use Rattle.tax_print.specs.FaultLines.{usage_line}
use Rattle.command_plans.specs.Status.{IsOfEnd}
use Rattle.command_plans.specs.Trips.{GoesAlong}
use Rattle.command_plans.specs.Views.{FilesView, InputView, OutputView}
use Rattle.command_plans.specs.declared.status.Status.{Status}
use Rattle.command_plans.specs.declared.status.Status.TheVariants.{Refused, ReadFault}
use Rattle.command_plans.proofs.CourseLemmas.{gathered_end, reading_of as reading}
use Rattle.command_plans.proofs.PrintedLemmas.{not_read, whole_text}
use Rattle.m_commands.specs.Command.{command_of, plan_of, reads_input}
use Rattle.m_commands.specs.Clauses.{ReadsInOrder, ReportsInput, cuts_off}
use Rattle.m_commands.specs.declared.command.Command.{Command}
use Rattle.m_commands.specs.declared.work.Work.{Work}
use Rattle.m_commands.specs.inner.Courses.{Course, IsWorkOf}
use Rattle.m_commands.proofs.Ways.{Way, way_of, observe, lacks_memory, breaks_off, serves_all, serves_part, serves_most, serves_front, serve_reads}

-- a read fault without an unreadable file is of the input
reading_way : (words : List (List ℕ)) (before after : FilesView) (heard reported : InputView) (old new : OutputView) (status : Status) (wanted : Command)
    (work : Work) → command_of words ≡ Some wanted
    → GoesAlong (plan_of wanted) before after (Ok work) → IsWorkOf wanted work → Way work heard reported old new status → status ≡ ReadFault
    → (reads_input words ≡ true) × Rose heard.faults reported.faults × ReportsInput words before heard reported old new
reading_way words before after heard reported old new status wanted work c g k (observe text own r o same p) e = absurd
    (not_read text own old new status p (λ x. subst IsOfEnd x o) e)
reading_way words before after heard reported old new status wanted work c g k (lacks_memory same n m) e = cc (m, e)
reading_way words before after heard reported old new status wanted work c g k (breaks_off text own r b same a n m) e = cc (m, e)
reading_way words before after heard reported old new status wanted work c g k (serves_all taken text s moved none calm r a is) e = cc (is, e)
reading_way words before after heard reported old new status wanted work c g k (serves_part taken text s moved rose cut p) e = (
  serve_reads words wanted work c k s,
  rose,
  λ disk typed t h. (
    taken,
    text,
    moved,
    whole_text text ReadFault old new status p (λ x. cc) e,
    cuts_off wanted work c (gathered_end plan_of (command_of words) wanted work disk before after (λ _. t) c g)
        cut,
  ),
)
reading_way words before after heard reported old new status wanted work c g k (serves_most taken text s moved full calm r p) e = absurd
    (not_read text Refused old new status p (λ x. cc) e)
reading_way words before after heard reported old new status wanted work c g k (serves_front s calm fronts rose is) e = cc (is, e)

pub reading_of : (words : List (List ℕ)) (before after : FilesView) (heard reported : InputView) (old new : OutputView) (status : Status)
    → Course words before after heard reported old new status
    → ReadsInOrder words before after heard reported old new status
reading_of words before after heard reported old new status course =
    reading plan_of usage_line (command_of words) _ before after old new status course
    (λ wanted work c g a e. reading_way words before after heard reported old new status wanted work c g a.0 (way_of work heard reported old new status a.1) e)
