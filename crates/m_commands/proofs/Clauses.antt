-- The clauses on the text, for three cases: nothing failed, a write failed, memory ran out.
use Rattle.std.proofs.Common.{◌≡◌, ℕ, List, Some, refl, sym, ap, ◌∙◌, subst, inl, inr}
use Rattle.std.specs.Prelude.{◌⊎◌}
use Rattle.std.specs.Io.KnownBytes.{append_known}
use Rattle.m_ports.specs.Sink.{AppendsPrefix}
use Rattle.tax_print.specs.FaultLines.{usage_line}
use Rattle.command_plans.specs.Courses.{answers}
use Rattle.command_plans.specs.Plan.{end_of, gathered}
use Rattle.command_plans.specs.Status.{IsFaultless, IsOfEnd}
use Rattle.command_plans.specs.Views.{Disk, FilesView, InputView, OutputView}
use Rattle.command_plans.specs.declared.status.Status.{Status}
use Rattle.command_plans.specs.declared.status.Status.TheVariants.{Done, Memory, Refused, ReadFault, WriteFault}
use Rattle.command_plans.proofs.CourseLemmas.{gathered_end, memory_of as memory, text_of as text, writing_of as writing}
use Rattle.command_plans.proofs.PrintedLemmas.{not_memory, read_failed, text_front, whole_output}
use Rattle.m_commands.specs.Answer.{Replies}
use Rattle.m_commands.specs.Command.{command_of, plan_of}
use Rattle.m_commands.specs.Clauses.{IsTyped, PrintsOutput, StopsInFront, WritesFront, IsWholeText, output, unreadable, cut_off, cuts_off}
use Rattle.m_commands.specs.Output.{Output}
use Rattle.m_commands.specs.declared.command.Command.{Command}
use Rattle.m_commands.specs.declared.work.Work.{Work}
use Rattle.m_commands.specs.inner.Courses.{Course, IsWorkOf}
use Rattle.m_commands.proofs.Ways.{Way, way_of, observe, lacks_memory, breaks_off, serves_all, serves_part, serves_most, serves_front, serve_reads, typed_all}
use Rattle.m_commands.proofs.Ways.{typed_rest}

-- ---- nothing failed

text_way : (words : List (List ℕ)) (disk : Disk) (typed : List ℕ) (heard reported : InputView) (old new : OutputView) (status : Status) (command : Command)
    (work : Work)
    → command_of words ≡ Some command → end_of disk (plan_of command) ≡ gathered work → IsWorkOf command work → IsTyped words heard typed → IsFaultless status
    → Way work heard reported old new status
    → (text : List ℕ) × (new.written ≡ append_known old.written text) × Output words disk typed text status
text_way words disk typed heard reported old new status command work c g k i f (observe text own r o same p) =
    whole_output (Output words disk typed) text own old new status p f (answers command work c g (r typed))
text_way words disk typed heard reported old new status command work c g k i f (lacks_memory same n m) = absurd (subst IsFaultless m f)
text_way words disk typed heard reported old new status command work c g k i f (breaks_off text own r b same a n m) = absurd (subst IsFaultless m f)
text_way words disk typed heard reported old new status command work c g k i f (serves_all taken text s moved none calm r a is) =
    let e = typed_all reported.left typed taken (sym (i (serve_reads words command work c k s)) ∙ moved) none in (
      text,
      a.0,
      subst (λ (x : Status). Output words disk typed text x) (sym is)
          (answers command work c g (subst (λ (b : List ℕ). Replies work b text Done) (sym e) r)),
    )
text_way words disk typed heard reported old new status command work c g k i f (serves_part taken text s moved rose cut p) = absurd
    (read_failed text old new status p f)
text_way words disk typed heard reported old new status command work c g k i f (serves_most taken text s moved full calm r p) =
    let e = typed_rest reported.left typed taken (sym (i (serve_reads words command work c k s)) ∙ moved) in
    whole_output (Output words disk typed) text Refused old new status p f
    (answers command work c g (subst (λ (b : List ℕ). Replies work b text Refused) (sym e.1) (r e.0)))
text_way words disk typed heard reported old new status command work c g k i f (serves_front s calm fronts rose is) = absurd (subst IsFaultless is f)

pub text_of : (words : List (List ℕ)) (before after : FilesView) (heard reported : InputView) (old new : OutputView) (status : Status)
    → Course words before after heard reported old new status → PrintsOutput words before heard old new status
text_of words before after heard reported old new status course disk typed t i f =
    text plan_of (λ work. Replies work typed) usage_line (command_of words) disk before after old new status course t f
    (λ wanted work c g a. text_way words disk typed heard reported old new status wanted work c g a.0 i f (way_of work heard reported old new status a.1))

-- ---- a write failed

writing_way : (words : List (List ℕ)) (disk : Disk) (typed : List ℕ) (before after : FilesView) (heard reported : InputView) (old new : OutputView)
    (status : Status) (command : Command) (work : Work)
    → command_of words ≡ Some command → end_of disk (plan_of command) ≡ gathered work → IsWorkOf command work → IsTyped words heard typed → status ≡ WriteFault
    → Way work heard reported old new status
    → (text : List ℕ) × IsWholeText words disk typed before after heard reported text × AppendsPrefix old.written new.written text
writing_way words disk typed before after heard reported old new status command work c g k i e (observe text own r o same p) =
    text_front (IsWholeText words disk typed before after heard reported) text own old new status p (λ x. subst IsOfEnd x o) e
    (output (answers command work c g (r typed)))
writing_way words disk typed before after heard reported old new status command work c g k i e (lacks_memory same n m) = cc (m, e)
writing_way words disk typed before after heard reported old new status command work c g k i e (breaks_off text own r b same a n m) = cc (m, e)
writing_way words disk typed before after heard reported old new status command work c g k i e (serves_all taken text s moved none calm r a is) = cc (is, e)
writing_way words disk typed before after heard reported old new status command work c g k i e (serves_part taken text s moved rose cut p) =
    text_front (IsWholeText words disk typed before after heard reported) text ReadFault old new status p (λ x. cc) e
    (cut_off taken moved rose (cuts_off command work c g cut))
writing_way words disk typed before after heard reported old new status command work c g k i e (serves_most taken text s moved full calm r p) =
    let t = typed_rest reported.left typed taken (sym (i (serve_reads words command work c k s)) ∙ moved) in
    text_front (IsWholeText words disk typed before after heard reported) text Refused old new status p (λ x. cc) e
    (output (answers command work c g (subst (λ (b : List ℕ). Replies work b text Refused) (sym t.1) (r t.0))))
writing_way words disk typed before after heard reported old new status command work c g k i e (serves_front s calm fronts rose is) =
    let f = fronts typed (sym (i (serve_reads words command work c k s))) in
    (f.text, output (answers command work c g f.replies), f.prefix)

pub writing_of : (words : List (List ℕ)) (before after : FilesView) (heard reported : InputView) (old new : OutputView) (status : Status)
    → Course words before after heard reported old new status
    → WritesFront words before after heard reported old new status
writing_of words before after heard reported old new status course disk typed t i e =
    writing plan_of (λ work. Replies work typed) usage_line (command_of words) disk
    (IsWholeText words disk typed before after heard reported) before after old new
    status course t e (λ all own o. output o) (λ made name a l. unreadable a l refl)
    (λ wanted work c g a. writing_way words disk typed before after heard reported old new status wanted work c g a.0 i e
    (way_of work heard reported old new status a.1))

-- ---- memory ran out

stopping_way : (words : List (List ℕ)) (disk : Disk) (typed : List ℕ) (heard reported : InputView) (old new : OutputView) (status : Status) (command : Command)
    (work : Work)
    → command_of words ≡ Some command → end_of disk (plan_of command) ≡ gathered work → status ≡ Memory → Way work heard reported old new status
    → (new.written ≡ old.written) ⊎ ((text : List ℕ) × (own : Status) × Output words disk typed text own × AppendsPrefix old.written new.written text)
stopping_way words disk typed heard reported old new status command work c g m (observe text own r o same p) = absurd
    (not_memory text own old new status p (λ x. subst IsOfEnd x o) m)
stopping_way words disk typed heard reported old new status command work c g m (lacks_memory same n e) = inl (ap (λ (o : OutputView). o.written) n)
stopping_way words disk typed heard reported old new status command work c g m (breaks_off text own r b same a n e) = inr
    (text, own, answers command work c g (r typed), a)
stopping_way words disk typed heard reported old new status command work c g m (serves_all taken text s moved none calm r a is) = cc (is, m)
stopping_way words disk typed heard reported old new status command work c g m (serves_part taken text s moved rose cut p) = absurd
    (not_memory text ReadFault old new status p (λ x. cc) m)
stopping_way words disk typed heard reported old new status command work c g m (serves_most taken text s moved full calm r p) = absurd
    (not_memory text Refused old new status p (λ x. cc) m)
stopping_way words disk typed heard reported old new status command work c g m (serves_front s calm fronts rose is) = cc (is, m)

pub stopping_of : (words : List (List ℕ)) (before after : FilesView) (heard reported : InputView) (old new : OutputView) (status : Status)
    → Course words before after heard reported old new status → StopsInFront words before old new status
stopping_of words before after heard reported old new status course disk typed t m =
    memory plan_of usage_line (command_of words) _ before after old new status course m
    (λ wanted work c g a. stopping_way words disk typed heard reported old new status wanted work c
    (gathered_end plan_of (command_of words) wanted work disk before after t c g) m (way_of work heard reported old new status a.1))
