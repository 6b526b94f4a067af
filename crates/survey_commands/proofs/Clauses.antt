-- The clauses on the text, for three cases: nothing failed, a write failed, memory ran out.
use Rattle.std.proofs.Common.{◌≡◌, ℕ, List, Some, refl, ap, subst, inl, inr}
use Rattle.std.specs.Prelude.{◌⊎◌}
use Rattle.std.specs.Io.KnownBytes.{append_known}
use Rattle.m_ports.specs.Sink.{AppendsPrefix}
use Rattle.command_plans.specs.Courses.{answers}
use Rattle.command_plans.specs.Plan.{end_of, gathered}
use Rattle.command_plans.specs.Status.{IsFaultless, IsOfEnd}
use Rattle.command_plans.specs.Views.{Disk, FilesView, OutputView}
use Rattle.command_plans.specs.declared.status.Status.{Status}
use Rattle.command_plans.specs.declared.status.Status.TheVariants.{Memory, WriteFault}
use Rattle.command_plans.proofs.CourseLemmas.{gathered_end, memory_of as memory, text_of as text, writing_of as writing}
use Rattle.command_plans.proofs.PrintedLemmas.{not_memory, text_front, whole_output}
use Rattle.survey_commands.specs.Answer.{Replies}
use Rattle.survey_commands.specs.Command.{command_of, plan_of}
use Rattle.survey_commands.specs.Clauses.{PrintsOutput, StopsInFront, WritesFront, IsWholeText, output, unreadable}
use Rattle.survey_commands.specs.Lines.{usage_line}
use Rattle.survey_commands.specs.Output.{Output}
use Rattle.survey_commands.specs.declared.command.Command.{Command}
use Rattle.survey_commands.specs.declared.work.Work.{Work}
use Rattle.survey_commands.specs.inner.Courses.{Course}
use Rattle.survey_commands.proofs.Ways.{Way, way_of, observe, lacks_memory, breaks_off}

-- ---- nothing failed

text_way : (words : List (List ℕ)) (disk : Disk) (old new : OutputView) (status : Status) (command : Command) (work : Work)
    → command_of words ≡ Some command → end_of disk (plan_of command) ≡ gathered work → IsFaultless status → Way work old new status
    → (text : List ℕ) × (new.written ≡ append_known old.written text) × Output words disk text status
text_way words disk old new status command work c g f (observe text own r o p) =
    whole_output (Output words disk) text own old new status p f (answers command work c g r)
text_way words disk old new status command work c g f (lacks_memory n m) = absurd (subst IsFaultless m f)
text_way words disk old new status command work c g f (breaks_off text own r b a n m) = absurd (subst IsFaultless m f)

pub text_of : (words : List (List ℕ)) (before after : FilesView) (old new : OutputView) (status : Status) → Course words before after old new status
    → PrintsOutput words before old new status
text_of words before after old new status course disk t f =
    text plan_of Replies usage_line (command_of words) disk before after old new status course t f
    (λ wanted work c g a. text_way words disk old new status wanted work c g f (way_of work old new status a.1))

-- ---- a write failed

writing_way : (words : List (List ℕ)) (disk : Disk) (before after : FilesView) (old new : OutputView) (status : Status) (command : Command) (work : Work)
    → command_of words ≡ Some command → end_of disk (plan_of command) ≡ gathered work → status ≡ WriteFault → Way work old new status
    → (text : List ℕ) × IsWholeText words disk before after text × AppendsPrefix old.written new.written text
writing_way words disk before after old new status command work c g e (observe text own r o p) =
    text_front (IsWholeText words disk before after) text own old new status p (λ x. subst IsOfEnd x o) e (output (answers command work c g r))
writing_way words disk before after old new status command work c g e (lacks_memory n m) = cc (m, e)
writing_way words disk before after old new status command work c g e (breaks_off text own r b a n m) = cc (m, e)

pub writing_of : (words : List (List ℕ)) (before after : FilesView) (old new : OutputView) (status : Status) → Course words before after old new status
    → WritesFront words before after old new status
writing_of words before after old new status course disk t e =
    writing plan_of Replies usage_line (command_of words) disk (IsWholeText words disk before after) before after old new status course t e
    (λ all own o. output o)
    (λ made name a l. unreadable a l refl)
    (λ wanted work c g a. writing_way words disk before after old new status wanted work c g e (way_of work old new status a.1))

-- ---- memory ran out

stopping_way : (words : List (List ℕ)) (disk : Disk) (old new : OutputView) (status : Status) (command : Command) (work : Work)
    → command_of words ≡ Some command → end_of disk (plan_of command) ≡ gathered work → status ≡ Memory → Way work old new status
    → (new.written ≡ old.written) ⊎ ((text : List ℕ) × (own : Status) × Output words disk text own × AppendsPrefix old.written new.written text)
stopping_way words disk old new status command work c g m (observe text own r o p) = absurd
    (not_memory text own old new status p (λ x. subst IsOfEnd x o) m)
stopping_way words disk old new status command work c g m (lacks_memory n e) = inl (ap (λ (o : OutputView). o.written) n)
stopping_way words disk old new status command work c g m (breaks_off text own r b a n e) = inr (text, own, answers command work c g r, a)

pub stopping_of : (words : List (List ℕ)) (before after : FilesView) (old new : OutputView) (status : Status) → Course words before after old new status
    → StopsInFront words before old new status
stopping_of words before after old new status course disk t m =
    memory plan_of usage_line (command_of words) _ before after old new status course m
    (λ wanted work c g a. stopping_way words disk old new status wanted work c (gathered_end plan_of (command_of words) wanted work disk before after t c g) m
    (way_of work old new status a.1))
