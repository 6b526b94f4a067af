-- How the faults of the output relate to the status.
use Rattle.std.proofs.Common.{◌≡◌, ℕ, Bool, true, false, List, Some, ap, subst, inl, inr}
use Rattle.command_plans.specs.Courses.{IsUsageReport}
use Rattle.command_plans.specs.Printing.{ReportsWrites}
use Rattle.command_plans.specs.Status.{IsOfEnd}
use Rattle.command_plans.specs.Views.{FilesView, OutputView}
use Rattle.command_plans.specs.declared.status.Status.{Status}
use Rattle.command_plans.specs.declared.status.Status.TheVariants.{Usage, Memory}
use Rattle.command_plans.proofs.CourseLemmas.{memory_of as memory, usage_of as usage, writes_of as writes}
use Rattle.command_plans.proofs.PrintedLemmas.{not_memory, other_status, writes_none, writes_nothing, writes_text}
use Rattle.survey_commands.specs.Command.{command_of, plan_of, writes_early}
use Rattle.survey_commands.specs.Lines.{usage_line}
use Rattle.survey_commands.specs.declared.command.Command.{Command}
use Rattle.survey_commands.specs.declared.work.Work.{Work}
use Rattle.survey_commands.specs.inner.Courses.{Course, IsWorkOf}
use Rattle.survey_commands.proofs.Ways.{Way, way_of, observe, lacks_memory, breaks_off, parts_requested}

-- ---- the output's count of faults

counted_way : (work : Work) (old new : OutputView) (status : Status) → Way work old new status → ReportsWrites old new status
counted_way work old new status (observe text own r o p) = writes_text text own old new status p (λ x. subst IsOfEnd x o)
counted_way work old new status (lacks_memory n m) = writes_nothing old new status n m
counted_way work old new status (breaks_off text own r b a n m) = writes_none old new status n (λ e. cc (m, e))

pub counted_of : (words : List (List ℕ)) (before after : FilesView) (old new : OutputView) (status : Status) → Course words before after old new status
    → ReportsWrites old new status
counted_of words before after old new status course = writes plan_of usage_line (command_of words) before after old new status course
    (λ wanted work a. counted_way work old new status (way_of work old new status a.1))

-- ---- memory

no_bool : (b : Bool) → b ≡ true → b ≡ false → ⊥
no_bool b t f = cc (t, f)

-- if memory ran out nothing was written, except by a command that writes in parts
memory_way : (words : List (List ℕ)) (command : Command) (work : Work) (old new : OutputView) (status : Status) → command_of words ≡ Some command
    → IsWorkOf command work
    → Way work old new status → status ≡ Memory → writes_early words ≡ false → new.written ≡ old.written
memory_way words command work old new status c k (observe text own r o p) m early = absurd
    (not_memory text own old new status p (λ x. subst IsOfEnd x o) m)
memory_way words command work old new status c k (lacks_memory n e) m early = ap (λ (o : OutputView). o.written) n
memory_way words command work old new status c k (breaks_off text own r b a n e) m early = absurd
    (no_bool (writes_early words) (parts_requested words command work c k b) early)

pub memory_of : (words : List (List ℕ)) (before after : FilesView) (old new : OutputView) (status : Status) → Course words before after old new status
    → status ≡ Memory → writes_early words ≡ false → new.written ≡ old.written
memory_of words before after old new status course m early =
    elim (memory plan_of usage_line (command_of words) ⊥ before after old new status course m
    (λ wanted work c g a. inl (memory_way words wanted work old new status c a.0 (way_of work old new status a.1) m early))) [
      | inl same ↦ same
      | inr none ↦ absurd none
    ]

-- ---- the usage line

usage_way : (work : Work) (old new : OutputView) (status : Status) → Way work old new status → status ≡ Usage → ⊥
usage_way work old new status (observe text own r o p) u = other_status Usage text own old new status p (λ x. subst IsOfEnd x o) (λ x. cc) u
usage_way work old new status (lacks_memory n m) u = cc (m, u)
usage_way work old new status (breaks_off text own r b a n m) u = cc (m, u)

pub usage_of : (words : List (List ℕ)) (before after : FilesView) (old new : OutputView) (status : Status) → Course words before after old new status
    → IsUsageReport (command_of words) status
usage_of words before after old new status course = usage plan_of usage_line (command_of words) before after old new status course
    (λ wanted work a. usage_way work old new status (way_of work old new status a.1))
