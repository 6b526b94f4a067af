-- How the faults of output and input relate to the status.
use Rattle.std.proofs.Common.{◌≡◌, ◌<◌, ℕ, Bool, true, false, List, Some, ap, subst, arith, inl, inr}
use Rattle.std.specs.Prelude.{◌⊎◌}
use Rattle.tax_print.specs.FaultLines.{usage_line}
use Rattle.command_plans.specs.Courses.{IsUsageReport, is_no_command, has_no_memory, ended, answered}
use Rattle.command_plans.specs.Printing.{ReportsWrites}
use Rattle.command_plans.specs.Status.{IsOfEnd}
use Rattle.command_plans.specs.Views.{FilesView, InputView, OutputView}
use Rattle.command_plans.specs.declared.status.Status.{Status}
use Rattle.command_plans.specs.declared.status.Status.TheVariants.{Refused, Usage, ReadFault, WriteFault, Memory}
use Rattle.command_plans.proofs.CourseLemmas.{memory_of as memory, usage_of as usage, writes_of as writes}
use Rattle.command_plans.proofs.PrintedLemmas.{not_memory, other_status, status_of, writes_none, writes_nothing, writes_text}
use Rattle.m_commands.specs.Command.{command_of, plan_of, reads_input, writes_early}
use Rattle.m_commands.specs.declared.command.Command.{Command}
use Rattle.m_commands.specs.declared.work.Work.{Work}
use Rattle.m_commands.specs.inner.Courses.{Course, IsWorkOf}
use Rattle.m_commands.proofs.Ways.{Way, way_of, observe, lacks_memory, breaks_off, serves_all, serves_part, serves_most, serves_front, serve_reads}
use Rattle.m_commands.proofs.Ways.{batch_writes}

-- ---- the output's count of faults

counted_way : (work : Work) (heard reported : InputView) (old new : OutputView) (status : Status) → Way work heard reported old new status
    → ReportsWrites old new status
counted_way work heard reported old new status (observe text own r o same p) = writes_text text own old new status p (λ x. subst IsOfEnd x o)
counted_way work heard reported old new status (lacks_memory same n m) = writes_nothing old new status n m
counted_way work heard reported old new status (breaks_off text own r b same a n m) = writes_none old new status n (λ e. cc (m, e))
counted_way work heard reported old new status (serves_all taken text s moved none quiet r a is) = writes_none old new status a.1 (λ e. cc (is, e))
counted_way work heard reported old new status (serves_part taken text s moved rose cut p) = writes_text text ReadFault old new status p (λ x. cc)
counted_way work heard reported old new status (serves_most taken text s moved full quiet r p) = writes_text text Refused old new status p (λ x. cc)
counted_way work heard reported old new status (serves_front s quiet fronts rose is) = record { only = λ e. rose; always = λ h. is }

pub counted_of : (words : List (List ℕ)) (before after : FilesView) (heard reported : InputView) (old new : OutputView) (status : Status)
    → Course words before after heard reported old new status → ReportsWrites old new status
counted_of words before after heard reported old new status course = writes plan_of usage_line (command_of words) before after old new status course
    (λ wanted work a. counted_way work heard reported old new status (way_of work heard reported old new status a.1))

-- ---- memory

no_bool : (b : Bool) → b ≡ true → b ≡ false → ⊥
no_bool b t f = cc (t, f)

-- if memory ran out nothing was written, except by a command that writes in parts
memory_way : (words : List (List ℕ)) (command : Command) (work : Work) (heard reported : InputView) (old new : OutputView) (status : Status)
    → command_of words ≡ Some command → IsWorkOf command work
    → Way work heard reported old new status → status ≡ Memory → writes_early words ≡ false → new.written ≡ old.written
memory_way words command work heard reported old new status c k (observe text own r o same p) m early = absurd
    (not_memory text own old new status p (λ x. subst IsOfEnd x o) m)
memory_way words command work heard reported old new status c k (lacks_memory same n e) m early = ap (λ (o : OutputView). o.written) n
memory_way words command work heard reported old new status c k (breaks_off text own r b same a n e) m early = absurd
    (no_bool (writes_early words) (batch_writes words command work c k b) early)
memory_way words command work heard reported old new status c k (serves_all taken text s moved none quiet r a is) m early = cc (is, m)
memory_way words command work heard reported old new status c k (serves_part taken text s moved rose cut p) m early = absurd
    (not_memory text ReadFault old new status p (λ x. cc) m)
memory_way words command work heard reported old new status c k (serves_most taken text s moved full quiet r p) m early = absurd
    (not_memory text Refused old new status p (λ x. cc) m)
memory_way words command work heard reported old new status c k (serves_front s quiet fronts rose is) m early = cc (is, m)

pub memory_of : (words : List (List ℕ)) (before after : FilesView) (heard reported : InputView) (old new : OutputView) (status : Status)
    → Course words before after heard reported old new status
    → status ≡ Memory → writes_early words ≡ false → new.written ≡ old.written
memory_of words before after heard reported old new status course m early =
    elim (memory plan_of usage_line (command_of words) ⊥ before after old new status course m
    (λ wanted work c g a. inl (memory_way words wanted work heard reported old new status c a.0 (way_of work heard reported old new status a.1) m early))) [
      | inl same ↦ same
      | inr none ↦ absurd none
    ]

-- ---- the input

-- if memory ran out nothing was read
quiet_way : (work : Work) (heard reported : InputView) (old new : OutputView) (status : Status) → Way work heard reported old new status → status ≡ Memory
    → reported ≡ heard
quiet_way work heard reported old new status (observe text own r o same p) m = same
quiet_way work heard reported old new status (lacks_memory same n e) m = same
quiet_way work heard reported old new status (breaks_off text own r b same a n e) m = same
quiet_way work heard reported old new status (serves_all taken text s moved none quiet r a is) m = cc (is, m)
quiet_way work heard reported old new status (serves_part taken text s moved rose cut p) m = absurd (not_memory text ReadFault old new status p (λ x. cc) m)
quiet_way work heard reported old new status (serves_most taken text s moved full quiet r p) m = absurd (not_memory text Refused old new status p (λ x. cc) m)
quiet_way work heard reported old new status (serves_front s quiet fronts rose is) m = cc (is, m)

pub quiet_of : (words : List (List ℕ)) (before after : FilesView) (heard reported : InputView) (old new : OutputView) (status : Status)
    → Course words before after heard reported old new status → status ≡ Memory → reported ≡ heard
quiet_of words before after heard reported old new status (is_no_command n s h p) m = h
quiet_of words before after heard reported old new status (has_no_memory s h o e) m = h
quiet_of words before after heard reported old new status (ended command ending c g h p) m = h
quiet_of words before after heard reported old new status (answered command work c g a) m = quiet_way work heard reported old new status
    (way_of work heard reported old new status a.1) m

-- a command that doesn't read the input leaves it unchanged
left_way : (words : List (List ℕ)) (command : Command) (work : Work) (heard reported : InputView) (old new : OutputView) (status : Status)
    → command_of words ≡ Some command → IsWorkOf command work
    → Way work heard reported old new status → reads_input words ≡ false → reported ≡ heard
left_way words command work heard reported old new status c k (observe text own r o same p) f = same
left_way words command work heard reported old new status c k (lacks_memory same n e) f = same
left_way words command work heard reported old new status c k (breaks_off text own r b same a n e) f = same
left_way words command work heard reported old new status c k (serves_all taken text s moved none quiet r a is) f = absurd
    (no_bool (reads_input words) (serve_reads words command work c k s) f)
left_way words command work heard reported old new status c k (serves_part taken text s moved rose cut p) f = absurd
    (no_bool (reads_input words) (serve_reads words command work c k s) f)
left_way words command work heard reported old new status c k (serves_most taken text s moved full quiet r p) f = absurd
    (no_bool (reads_input words) (serve_reads words command work c k s) f)
left_way words command work heard reported old new status c k (serves_front s quiet fronts rose is) f = absurd
    (no_bool (reads_input words) (serve_reads words command work c k s) f)

pub left_of : (words : List (List ℕ)) (before after : FilesView) (heard reported : InputView) (old new : OutputView) (status : Status)
    → Course words before after heard reported old new status → reads_input words ≡ false → reported ≡ heard
left_of words before after heard reported old new status (is_no_command n s h p) f = h
left_of words before after heard reported old new status (has_no_memory s h o e) f = h
left_of words before after heard reported old new status (ended command ending c g h p) f = h
left_of words before after heard reported old new status (answered command work c g a) f = left_way words command work heard reported old new status c a.0
    (way_of work heard reported old new status a.1) f

-- the count of faults is unchanged
no_rise : (heard reported : InputView) → reported.faults ≡ heard.faults → heard.faults < reported.faults → ⊥
no_rise heard reported same h = omega (arith, same, h)

same_faults : (heard reported : InputView) → reported ≡ heard → reported.faults ≡ heard.faults
same_faults heard reported same = ap (λ (v : InputView). v.faults) same

-- a failed read of the input is reported, unless a write failed too
reported_way : (work : Work) (heard reported : InputView) (old new : OutputView) (status : Status) → Way work heard reported old new status
    → heard.faults < reported.faults → (status ≡ ReadFault) ⊎ (status ≡ WriteFault)
reported_way work heard reported old new status (observe text own r o same p) h = absurd (no_rise heard reported (same_faults heard reported same) h)
reported_way work heard reported old new status (lacks_memory same n e) h = absurd (no_rise heard reported (same_faults heard reported same) h)
reported_way work heard reported old new status (breaks_off text own r b same a n e) h = absurd (no_rise heard reported (same_faults heard reported same) h)
reported_way work heard reported old new status (serves_all taken text s moved none quiet r a is) h = absurd (no_rise heard reported quiet h)
reported_way work heard reported old new status (serves_part taken text s moved rose cut p) h = status_of text ReadFault old new status p
reported_way work heard reported old new status (serves_most taken text s moved full quiet r p) h = absurd (no_rise heard reported quiet h)
reported_way work heard reported old new status (serves_front s quiet fronts rose is) h = absurd (no_rise heard reported quiet h)

pub observation : (words : List (List ℕ)) (before after : FilesView) (heard reported : InputView) (old new : OutputView) (status : Status)
    → Course words before after heard reported old new status
    → heard.faults < reported.faults → (status ≡ ReadFault) ⊎ (status ≡ WriteFault)
observation words before after heard reported old new status (is_no_command n s same p) h = absurd (no_rise heard reported (same_faults heard reported same) h)
observation words before after heard reported old new status (has_no_memory s same o e) h = absurd (no_rise heard reported (same_faults heard reported same) h)
observation words before after heard reported old new status (ended command ending c g same p) h = absurd
    (no_rise heard reported (same_faults heard reported same) h)
observation words before after heard reported old new status (answered command work c g a) h = reported_way work heard reported old new status
    (way_of work heard reported old new status a.1) h

-- ---- the usage line

usage_way : (work : Work) (heard reported : InputView) (old new : OutputView) (status : Status) → Way work heard reported old new status → status ≡ Usage → ⊥
usage_way work heard reported old new status (observe text own r o same p) u = other_status Usage text own old new status p (λ x. subst IsOfEnd x o) (λ x. cc) u
usage_way work heard reported old new status (lacks_memory same n m) u = cc (m, u)
usage_way work heard reported old new status (breaks_off text own r b same a n m) u = cc (m, u)
usage_way work heard reported old new status (serves_all taken text s moved none quiet r a is) u = cc (is, u)
usage_way work heard reported old new status (serves_part taken text s moved rose cut p) u =
    other_status Usage text ReadFault old new status p (λ x. cc) (λ x. cc) u
usage_way work heard reported old new status (serves_most taken text s moved full quiet r p) u =
    other_status Usage text Refused old new status p (λ x. cc) (λ x. cc) u
usage_way work heard reported old new status (serves_front s quiet fronts rose is) u = cc (is, u)

pub usage_of : (words : List (List ℕ)) (before after : FilesView) (heard reported : InputView) (old new : OutputView) (status : Status)
    → Course words before after heard reported old new status → IsUsageReport (command_of words) status
usage_of words before after heard reported old new status course = usage plan_of usage_line (command_of words) before after old new status course
    (λ wanted work a. usage_way work heard reported old new status (way_of work heard reported old new status a.1))
