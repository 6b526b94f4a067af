-- The clause on the files that are read.
use Rattle.std.proofs.Common.{◌≡◌, ℕ, List, subst}
use Rattle.command_plans.specs.Status.{IsOfEnd}
use Rattle.command_plans.specs.Views.{FilesView, OutputView}
use Rattle.command_plans.specs.declared.status.Status.{Status}
use Rattle.command_plans.specs.declared.status.Status.TheVariants.{ReadFault}
use Rattle.command_plans.proofs.CourseLemmas.{reading_of as reading}
use Rattle.command_plans.proofs.PrintedLemmas.{not_read}
use Rattle.survey_commands.specs.Command.{command_of, plan_of}
use Rattle.survey_commands.specs.Clauses.{ReadsInOrder}
use Rattle.survey_commands.specs.Lines.{usage_line}
use Rattle.survey_commands.specs.declared.work.Work.{Work}
use Rattle.survey_commands.specs.inner.Courses.{Course}
use Rattle.survey_commands.proofs.Ways.{Way, way_of, observe, lacks_memory, breaks_off}

reading_way : (work : Work) (old new : OutputView) (status : Status) → Way work old new status → status ≡ ReadFault → ⊥
reading_way work old new status (observe text own r o p) e = not_read text own old new status p (λ x. subst IsOfEnd x o) e
reading_way work old new status (lacks_memory n m) e = cc (m, e)
reading_way work old new status (breaks_off text own r b a n m) e = cc (m, e)

pub reading_of : (words : List (List ℕ)) (before after : FilesView) (old new : OutputView) (status : Status) → Course words before after old new status
    → ReadsInOrder words before after old new status
reading_of words before after old new status course = reading plan_of usage_line (command_of words) ⊥ before after old new status course
    (λ wanted work c g a e. reading_way work old new status (way_of work old new status a.1) e)
