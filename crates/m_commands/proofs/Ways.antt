-- How any work was answered, in one form for all commands.
use Rattle.std.proofs.Common.{◌≡◌, ℕ, ℤ, ◌-◌, ◌≤◌, Bool, true, false, List, ◌++◌, length, length-append, length-take, take, drop, Option, None, Some, refl, sym}
use Rattle.std.proofs.Common.{ap, ◌∙◌, subst, append_assoc, inl, inr, arith}
use Rattle.std.proofs.lemmas.Bool.{cases_lt}
use Rattle.std.proofs.lemmas.List.{append-nil, take-append-drop}
use Rattle.std.specs.Option.{option_map_or}
use Rattle.std.specs.Io.KnownBytes.{IsAtEnd, prepend_known}
use Rattle.m_places.specs.declared.limits.TheConstants.{INPUT_BYTES}
use Rattle.m_ports.specs.Counts.{Rose}
use Rattle.m_ports.specs.Sink.{AppendsPrefix}
use Rattle.m_ports.proofs.SinkLemmas.{AppendsPrefix-before}
use Rattle.tax_print.specs.FaultLines.{input_too_long_line, unreadable_input_line}
use Rattle.command_plans.specs.Printing.{Appends, Breaks, Prints, printed, no_memory}
use Rattle.command_plans.specs.Status.{IsOfEnd}
use Rattle.command_plans.specs.Views.{InputView, OutputView}
use Rattle.command_plans.specs.declared.status.Status.{Status}
use Rattle.command_plans.specs.declared.status.Status.TheVariants.{Done, Memory, ReadFault, Refused, WriteFault}
use Rattle.code_answers.specs.Parts as parts
use Rattle.command_answers.specs.Serves as serve
use Rattle.command_answers.specs.Serving.{to_its_end, unread, too_long, unwritten, unwritten_at_end}
use Rattle.code_answers.specs.Schemes.{Scheme}
use Rattle.command_answers.specs.Serves.{IsSession}
use Rattle.command_answers.specs.Sessions.{ended_replies, session_replies}
use Rattle.command_answers.proofs.SessionLemmas.{ended_begins, whole_begins}
use Rattle.m_places.specs.declared.source.Source.{Source}
use Rattle.why_session.specs.Explains.{Explaining}
use Rattle.m_commands.specs.Answer.{CutOff, Replies}
use Rattle.m_commands.specs.Command.{command_of, reads_input, takes_input, writes_early, writes_in_parts}
use Rattle.m_commands.specs.declared.command.Command.{Command}
use Rattle.m_commands.specs.declared.command.Command.TheVariants as command
use Rattle.m_commands.specs.declared.command.Form.{Form}
use Rattle.m_commands.specs.declared.command.Form.TheVariants as form
use Rattle.m_commands.specs.declared.work.Work.{Work}
use Rattle.m_commands.specs.declared.work.Work.TheVariants.{Run, Serve, Batch, Large, Compile, Exec, Check, Lint, Cases}
use Rattle.m_commands.specs.inner.Courses.{IsWorkOf, WorkIsAnswered, command_form, work_form}

-- whether commands of a form write their answers in parts
abbrev form_in_parts : Option Form → Bool
form_in_parts None = false
form_in_parts (Some form.Run) = false
form_in_parts (Some form.Serve) = false
form_in_parts (Some form.Batch) = true
form_in_parts (Some form.Cases) = true

-- whether commands of a form read the input
abbrev form_takes : Option Form → Bool
form_takes None = false
form_takes (Some form.Run) = false
form_takes (Some form.Serve) = true
form_takes (Some form.Batch) = false
form_takes (Some form.Cases) = false

-- A prefix of an answer was appended, for this input.
pub record IsFront (work : Work) (typed : List ℕ) (old new : OutputView) : Type 0 where
  pub text : List ℕ
  pub own : Status
  pub replies : Replies work typed text own
  pub prefix : AppendsPrefix old.written new.written text

-- A text was printed, for any input; or memory ran out, before anything was written, or while an answer was written in
-- parts; or a session ran over its input.
pub data Way (work : Work) (heard reported : InputView) (old new : OutputView) (status : Status) : Type 0 where
  observe : (text : List ℕ) (own : Status) → ((typed : List ℕ) → Replies work typed text own) → IsOfEnd own → reported ≡ heard → Prints text own old new status
      → Way work heard reported old new status
  lacks_memory : reported ≡ heard → new ≡ old → status ≡ Memory → Way work heard reported old new status
  breaks_off : (text : List ℕ) (own : Status) → ((typed : List ℕ) → Replies work typed text own) → form_in_parts (work_form work) ≡ true → reported ≡ heard
      → AppendsPrefix old.written new.written text → new.faults ≡ old.faults → status ≡ Memory → Way work heard reported old new status
  serves_all : (taken text : List ℕ) → work_form work ≡ Some form.Serve → heard.left ≡ prepend_known taken reported.left → IsAtEnd reported.left
      → reported.faults ≡ heard.faults
      → Replies work taken text Done → Appends text old new → status ≡ Done → Way work heard reported old new status
  serves_part : (taken text : List ℕ) → work_form work ≡ Some form.Serve → heard.left ≡ prepend_known taken reported.left → Rose heard.faults reported.faults
      → CutOff work taken text → Prints text ReadFault old new status → Way work heard reported old new status
  serves_most : (taken text : List ℕ) → work_form work ≡ Some form.Serve → heard.left ≡ prepend_known taken reported.left → length taken ≡ INPUT_BYTES
      → reported.faults ≡ heard.faults
      → ((rest : List ℕ) → Replies work (taken ++ rest) text Refused) → Prints text Refused old new status → Way work heard reported old new status
  serves_front : work_form work ≡ Some form.Serve → reported.faults ≡ heard.faults → ((typed : List ℕ) → Some typed ≡ heard.left → IsFront work typed old new)
      → Rose old.faults new.faults
      → status ≡ WriteFault → Way work heard reported old new status

-- ---- the input and the part of it that was read

-- all of it
pub typed_all : (left : Option (List ℕ)) (typed taken : List ℕ) → Some typed ≡ prepend_known taken left → IsAtEnd left → typed ≡ taken
typed_all None typed taken e none = absurd (cc e)
typed_all (Some bytes) typed taken e none = let s : typed ≡ taken ++ bytes = cc e in s ∙ ap (λ rest. taken ++ rest) none ∙ append-nil taken

-- a prefix of it
pub typed_rest : (left : Option (List ℕ)) (typed taken : List ℕ) → Some typed ≡ prepend_known taken left → (rest : List ℕ) × (typed ≡ taken ++ rest)
typed_rest None typed taken e = absurd (cc e)
typed_rest (Some bytes) typed taken e = (bytes, cc e)

-- ---- a session

-- what is written of the replies to some lines of an input is a prefix of the answer to the whole input
session_front : (source : Source) (rows : List ℕ) (scheme : Scheme) (explains : Explaining) (pairs : List (ℕ × ℤ)) (taken rest : List ℕ) (old new : OutputView)
    → IsSession source rows scheme explains pairs
    → length taken ≤ INPUT_BYTES → AppendsPrefix old.written new.written (ended_replies scheme explains pairs taken)
    → IsFront (Serve source rows) (taken ++ rest) old new
session_front source rows scheme explains pairs taken rest old new s within prefix = elim (cases_lt (length (taken ++ rest)) INPUT_BYTES) [
  | inl few ↦
      let more = whole_begins scheme explains pairs taken rest in record {
        text = session_replies scheme explains pairs (taken ++ rest);
        own = Done;
        replies = serve.is_served scheme explains pairs s few;
        prefix = subst (λ (t : List ℕ). AppendsPrefix old.written new.written t) (sym more.1)
            (AppendsPrefix-before old.written new.written (ended_replies scheme explains pairs taken) more.0 prefix);
      }
  | inr many ↦
      let count = INPUT_BYTES - length taken in
      let part = take count rest in
      let more = ended_begins scheme explains pairs taken part in
      let full : length (taken ++ part) ≡ INPUT_BYTES = omega (
        arith,
        length-append taken part,
        length-append taken rest,
        length-take count rest,
        within,
        many,
      ) in
      let all : taken ++ rest ≡ (taken ++ part) ++ drop count rest = ap (λ l. taken ++ l) (sym (take-append-drop count rest))
      ∙ sym (append_assoc taken part (drop count rest)) in record {
        text = ended_replies scheme explains pairs (taken ++ part) ++ input_too_long_line;
        own = Refused;
        replies = serve.is_too_long scheme explains pairs (taken ++ part) (drop count rest) s all full;
        prefix = AppendsPrefix-before old.written new.written (ended_replies scheme explains pairs (taken ++ part)) input_too_long_line
            (subst (λ (t : List ℕ). AppendsPrefix old.written new.written t) (sym more.1)
            (AppendsPrefix-before old.written new.written (ended_replies scheme explains pairs taken) more.0 prefix));
      }
]

pub way_of : (work : Work) (heard reported : InputView) (old new : OutputView) (status : Status) → WorkIsAnswered work heard reported old new status
    → Way work heard reported old new status
way_of (Run source rows) heard reported old new status (same, printed text own r o p) = observe text own (λ typed. r) o same p
way_of (Run source rows) heard reported old new status (same, no_memory n m) = lacks_memory same n m
way_of (Serve source rows) heard reported old new status (serve.refused line r same p) = observe line Refused (λ typed. serve.is_refused r) tt same p
way_of (Serve source rows) heard reported old new status (serve.no_memory same n m) = lacks_memory same n m
way_of (Serve source rows) heard reported old new status (serve.served scheme explains pairs s (to_its_end taken moved few none calm appends is)) =
    serves_all taken (session_replies scheme explains pairs taken) refl moved none calm (serve.is_served scheme explains pairs s few) appends is
way_of (Serve source rows) heard reported old new status (serve.served scheme explains pairs s (unread taken moved few rose p)) =
    serves_part taken (ended_replies scheme explains pairs taken ++ unreadable_input_line) refl moved rose (serve.is_cut_off scheme explains pairs s few) p
way_of (Serve source rows) heard reported old new status (serve.served scheme explains pairs s (too_long taken moved full calm p)) =
    serves_most taken (ended_replies scheme explains pairs taken ++ input_too_long_line) refl moved full calm
    (λ rest. serve.is_too_long scheme explains pairs taken rest s refl full) p
way_of (Serve source rows) heard reported old new status (serve.served scheme explains pairs s (unwritten taken moved within calm breaks is)) =
    serves_front refl calm (λ typed e. let t = typed_rest reported.left typed taken (e ∙ moved) in subst (λ (b : List ℕ). IsFront (Serve source rows) b old new)
    (sym t.1)
    (session_front source rows scheme explains pairs taken t.0 old new s within breaks.0)) breaks.1 is
way_of (Serve source rows) heard reported old new status (serve.served scheme explains pairs s (unwritten_at_end taken moved few none calm breaks is)) =
    serves_front refl calm (λ typed e. subst (λ (b : List ℕ). IsFront (Serve source rows) b old new)
    (sym (typed_all reported.left typed taken (e ∙ moved) none))
    (record { text = session_replies scheme explains pairs taken; own = Done; replies = serve.is_served scheme explains pairs s few; prefix = breaks.0 }))
    breaks.1 is
way_of (Batch source table) heard reported old new status (same, parts.printed text own r o p) = observe text own (λ typed. r) o same p
way_of (Batch source table) heard reported old new status (same, parts.no_memory n m) = lacks_memory same n m
way_of (Batch source table) heard reported old new status (same, parts.broke_off text own r a f m) = breaks_off text own (λ typed. r) refl same a f m
way_of (Large n) heard reported old new status (same, printed text own r o p) = observe text own (λ typed. r) o same p
way_of (Large n) heard reported old new status (same, no_memory e m) = lacks_memory same e m
way_of (Compile source) heard reported old new status (same, printed text own r o p) = observe text own (λ typed. r) o same p
way_of (Compile source) heard reported old new status (same, no_memory e m) = lacks_memory same e m
way_of (Exec code rows) heard reported old new status (same, printed text own r o p) = observe text own (λ typed. r) o same p
way_of (Exec code rows) heard reported old new status (same, no_memory e m) = lacks_memory same e m
way_of (Check source rows report) heard reported old new status (same, printed text own r o p) = observe text own (λ typed. r) o same p
way_of (Check source rows report) heard reported old new status (same, no_memory e m) = lacks_memory same e m
way_of (Lint source) heard reported old new status (same, printed text own r o p) = observe text own (λ typed. r) o same p
way_of (Lint source) heard reported old new status (same, no_memory e m) = lacks_memory same e m
way_of (Cases source table) heard reported old new status (same, parts.printed text own r o p) = observe text own (λ typed. r) o same p
way_of (Cases source table) heard reported old new status (same, parts.no_memory n m) = lacks_memory same n m
way_of (Cases source table) heard reported old new status (same, parts.broke_off text own r a f m) = breaks_off text own (λ typed. r) refl same a f m

-- ---- the command of a work

-- the form determines the command
form_does : (wanted : Command) → (takes_input wanted ≡ form_takes (command_form wanted)) × (writes_in_parts wanted ≡ form_in_parts (command_form wanted))
form_does (command.Run names household) = (refl, refl)
form_does (command.Serve names household) = (refl, refl)
form_does (command.Batch names table) = (refl, refl)
form_does (command.Large n) = (refl, refl)
form_does (command.Compile names) = (refl, refl)
form_does (command.Exec code household) = (refl, refl)
form_does (command.Check list household report) = (refl, refl)
form_does (command.Lint names) = (refl, refl)
form_does (command.Cases names table) = (refl, refl)

-- only one form reads the input
one_takes : (own : Option Form) → form_takes own ≡ true → own ≡ Some form.Serve
one_takes None e = absurd (cc e)
one_takes (Some form.Run) e = absurd (cc e)
one_takes (Some form.Serve) e = refl
one_takes (Some form.Batch) e = absurd (cc e)
one_takes (Some form.Cases) e = absurd (cc e)

-- the command that reads the input is a session
pub session_requested : (wanted : Command) → takes_input wanted ≡ true → command_form wanted ≡ Some form.Serve
session_requested wanted e = one_takes (command_form wanted) (sym (form_does wanted).0 ∙ e)

-- the command is a session
pub serve_reads : (words : List (List ℕ)) (wanted : Command) (work : Work) → command_of words ≡ Some wanted → IsWorkOf wanted work
    → work_form work ≡ Some form.Serve → reads_input words ≡ true
serve_reads words wanted work c k e = ap (λ o. option_map_or takes_input o false) c ∙ (form_does wanted).0 ∙ ap form_takes (sym k ∙ e)

-- the command writes in parts
pub batch_writes : (words : List (List ℕ)) (wanted : Command) (work : Work) → command_of words ≡ Some wanted → IsWorkOf wanted work
    → form_in_parts (work_form work) ≡ true → writes_early words ≡ true
batch_writes words wanted work c k e = ap (λ o. option_map_or writes_in_parts o false) c ∙ (form_does wanted).1 ∙ ap form_in_parts (sym k) ∙ e
