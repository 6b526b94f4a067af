-- From the course of a call to its clauses. What was answered is given to each as a function.
use Rattle.std.proofs.Common.{◌≡◌, ℕ, true, false, List, [], ◌∷◌, ◌++◌, Option, Some, None, Ok, Err, Result, refl, sym, ap, ◌∙◌, subst, inl, inr}
use Rattle.std.proofs.lemmas.List.{append-nil}
use Rattle.std.specs.Prelude.{◌⊎◌}
use Rattle.std.specs.Io.KnownBytes.{append_known}
use Rattle.std.specs.Option.{option_map_or}
use Rattle.m_ports.specs.Sink.{AppendsPrefix}
use Rattle.m_ports.specs.declared.files.Attempt.{Attempt}
use Rattle.tax_print.specs.FaultLines.{unreadable_line}
use Rattle.command_plans.specs.Attempts.{BeginsWith, names_tried, NoneFailed, LastFailed}
use Rattle.command_plans.specs.Courses.{Course, is_no_command, has_no_memory, ended, answered, KnowsDisk, fetches_of, Output, usage, refuses, answers}
use Rattle.command_plans.specs.Courses.{IsUsageReport, ReadsInOrder}
use Rattle.command_plans.specs.Plan.{Plan, requests_file, names_fetched, end_of, gathered, refused}
use Rattle.command_plans.specs.Printing.{ReportsWrites}
use Rattle.command_plans.specs.Refusals.{refusal_line}
use Rattle.command_plans.specs.Status.{IsFaultless}
use Rattle.command_plans.specs.Trips.{GoesAlong}
use Rattle.command_plans.specs.Views.{Disk, FilesView, OutputView}
use Rattle.command_plans.specs.declared.ending.Ending.{Ending}
use Rattle.command_plans.specs.declared.ending.Ending.TheVariants as ending
use Rattle.command_plans.specs.declared.refusal.Refusal.{Refusal}
use Rattle.command_plans.specs.declared.status.Status.{Status}
use Rattle.command_plans.specs.declared.status.Status.TheVariants.{Memory, Refused, Usage, ReadFault, WriteFault}
use Rattle.command_plans.proofs.PrintedLemmas.{not_memory, not_read, other_status, read_failed, status_of, text_front, whole_output, whole_text}
use Rattle.command_plans.proofs.PrintedLemmas.{writes_nothing, writes_text}
use Rattle.command_plans.proofs.Walks.{walks_fit, walks_in_order, walks_to_end}

-- ---- the result of a plan

-- a command whose plan requests a file has files with known contents
asking : {Command Work : Type 0} (plan_of : Command → Plan Work) (command : Option Command) (wanted : Command) (disk : Disk) (before : FilesView)
    → KnowsDisk plan_of command before disk → command ≡ Some wanted → requests_file (plan_of wanted) ≡ true → before.known_files ≡ Some disk
asking plan_of command wanted disk before t c a = t (ap (λ o. option_map_or (λ x. requests_file (plan_of x)) o false) c ∙ a)

-- the result of a plan that rejects
pub refused_end : {Command Work : Type 0} (plan_of : Command → Plan Work) (command : Option Command) (wanted : Command) (disk : Disk) (before after : FilesView)
    (refusal : Refusal) → KnowsDisk plan_of command before disk → command ≡ Some wanted
    → GoesAlong (plan_of wanted) before after (Err (ending.Refused refusal)) → end_of disk (plan_of wanted) ≡ refused (refusal_line refusal)
refused_end plan_of command wanted disk before after refusal t c g =
    walks_to_end before.known_files disk (plan_of wanted) g.made g.spent (Err (ending.Refused refusal)) g.walk (asking plan_of command wanted disk before t c)

-- the result of a plan that has gathered its files
pub gathered_end : {Command Work : Type 0} (plan_of : Command → Plan Work) (command : Option Command) (wanted : Command) (work : Work) (disk : Disk)
    (before after : FilesView) → KnowsDisk plan_of command before disk → command ≡ Some wanted → GoesAlong (plan_of wanted) before after (Ok work)
    → end_of disk (plan_of wanted) ≡ gathered work
gathered_end plan_of command wanted work disk before after t c g =
    walks_to_end before.known_files disk (plan_of wanted) g.made g.spent (Ok work) g.walk (asking plan_of command wanted disk before t c)

-- ---- the text: nothing failed, a write failed, memory ran out

pub text_of : {Command Work : Type 0} (plan_of : Command → Plan Work) (Replies : Work → List ℕ → Status → Type 0) (usage_line : List ℕ) {Untouched : Type 0}
    {Answers : Command → Work → Type 0} (command : Option Command) (disk : Disk) (before after : FilesView) (old new : OutputView) (status : Status)
    → Course plan_of usage_line Untouched Answers command before after old new status → KnowsDisk plan_of command before disk → IsFaultless status
    → ((wanted : Command) (work : Work) → command ≡ Some wanted → end_of disk (plan_of wanted) ≡ gathered work → Answers wanted work
    → (text : List ℕ) × (new.written ≡ append_known old.written text) × Output plan_of Replies usage_line command disk text status)
    → (text : List ℕ) × (new.written ≡ append_known old.written text) × Output plan_of Replies usage_line command disk text status
text_of plan_of Replies usage_line command disk before after old new status (is_no_command n s h p) t f a =
    whole_output (Output plan_of Replies usage_line command disk) usage_line Usage old new status p f (usage n)
text_of plan_of Replies usage_line command disk before after old new status (has_no_memory s h o m) t f a = absurd (subst IsFaultless m f)
text_of plan_of Replies usage_line command disk before after old new status (ended wanted (ending.Refused refusal) c g h p) t f a =
    whole_output (Output plan_of Replies usage_line command disk) (refusal_line refusal) Refused old new status p f
    (refuses wanted c (refused_end plan_of command wanted disk before after refusal t c g))
text_of plan_of Replies usage_line command disk before after old new status (ended wanted (ending.Unreadable name) c g h p) t f a =
    absurd (read_failed (unreadable_line name) old new status p f)
text_of plan_of Replies usage_line command disk before after old new status (ended wanted ending.Memory c g h p) t f a = absurd (subst IsFaultless p.1 f)
text_of plan_of Replies usage_line command disk before after old new status (answered wanted work c g k) t f a =
    a wanted work c (gathered_end plan_of command wanted work disk before after t c g) k

pub writing_of : {Command Work : Type 0} (plan_of : Command → Plan Work) (Replies : Work → List ℕ → Status → Type 0) (usage_line : List ℕ)
    {Untouched : Type 0} {Answers : Command → Work → Type 0} (command : Option Command) (disk : Disk) (Is : List ℕ → Type 0) (before after : FilesView)
    (old new : OutputView) (status : Status)
    → Course plan_of usage_line Untouched Answers command before after old new status → KnowsDisk plan_of command before disk → status ≡ WriteFault
    → ((text : List ℕ) (own : Status) → Output plan_of Replies usage_line command disk text own → Is text)
    → ((made : List Attempt) (name : List ℕ) → after.attempts ≡ before.attempts ++ made → LastFailed made name → Is (unreadable_line name))
    → ((wanted : Command) (work : Work) → command ≡ Some wanted → end_of disk (plan_of wanted) ≡ gathered work → Answers wanted work
    → (text : List ℕ) × Is text × AppendsPrefix old.written new.written text)
    → (text : List ℕ) × Is text × AppendsPrefix old.written new.written text
writing_of plan_of Replies usage_line command disk Is before after old new status (is_no_command n s h p) t e out unread a =
    text_front Is usage_line Usage old new status p (λ x. cc) e (out usage_line Usage (usage n))
writing_of plan_of Replies usage_line command disk Is before after old new status (has_no_memory s h o m) t e out unread a = cc (m, e)
writing_of plan_of Replies usage_line command disk Is before after old new status (ended wanted (ending.Refused refusal) c g h p) t e out unread a =
    text_front Is (refusal_line refusal) Refused old new status p (λ x. cc) e
    (out (refusal_line refusal) Refused (refuses wanted c (refused_end plan_of command wanted disk before after refusal t c g)))
writing_of plan_of Replies usage_line command disk Is before after old new status (ended wanted (ending.Unreadable name) c g h p) t e out unread a =
    text_front Is (unreadable_line name) ReadFault old new status p (λ x. cc) e
    (unread g.made name g.attempts (walks_fit before.known_files (plan_of wanted) g.made g.spent (Err (ending.Unreadable name)) g.walk))
writing_of plan_of Replies usage_line command disk Is before after old new status (ended wanted ending.Memory c g h p) t e out unread a = cc (p.1, e)
writing_of plan_of Replies usage_line command disk Is before after old new status (answered wanted work c g k) t e out unread a =
    a wanted work c (gathered_end plan_of command wanted work disk before after t c g) k

-- nothing was written where memory ran out, unless in an answer
pub memory_of : {Command Work : Type 0} (plan_of : Command → Plan Work) (usage_line : List ℕ) {Untouched : Type 0} {Answers : Command → Work → Type 0}
    (command : Option Command) (Other : Type 0) (before after : FilesView) (old new : OutputView) (status : Status)
    → Course plan_of usage_line Untouched Answers command before after old new status → status ≡ Memory
    → ((wanted : Command) (work : Work) → command ≡ Some wanted → GoesAlong (plan_of wanted) before after (Ok work) → Answers wanted work
    → (new.written ≡ old.written) ⊎ Other)
    → (new.written ≡ old.written) ⊎ Other
memory_of plan_of usage_line command Other before after old new status (is_no_command n s h p) m a = absurd
    (not_memory usage_line Usage old new status p (λ x. cc) m)
memory_of plan_of usage_line command Other before after old new status (has_no_memory s h o e) m a = inl (ap (λ (v : OutputView). v.written) o)
memory_of plan_of usage_line command Other before after old new status (ended wanted (ending.Refused refusal) c g h p) m a = absurd
    (not_memory (refusal_line refusal) Refused old new status p (λ x. cc) m)
memory_of plan_of usage_line command Other before after old new status (ended wanted (ending.Unreadable name) c g h p) m a = absurd
    (not_memory (unreadable_line name) ReadFault old new status p (λ x. cc) m)
memory_of plan_of usage_line command Other before after old new status (ended wanted ending.Memory c g h p) m a = inl (ap (λ (v : OutputView). v.written) p.0)
memory_of plan_of usage_line command Other before after old new status (answered wanted work c g k) m a = a wanted work c g k

-- ---- failed writes, and the usage line

pub writes_of : {Command Work : Type 0} (plan_of : Command → Plan Work) (usage_line : List ℕ) {Untouched : Type 0} {Answers : Command → Work → Type 0}
    (command : Option Command) (before after : FilesView) (old new : OutputView) (status : Status)
    → Course plan_of usage_line Untouched Answers command before after old new status
    → ((wanted : Command) (work : Work) → Answers wanted work → ReportsWrites old new status) → ReportsWrites old new status
writes_of plan_of usage_line command before after old new status (is_no_command n s h p) a = writes_text usage_line Usage old new status p (λ x. cc)
writes_of plan_of usage_line command before after old new status (has_no_memory s h o m) a = writes_nothing old new status o m
writes_of plan_of usage_line command before after old new status (ended wanted (ending.Refused refusal) c g h p) a =
    writes_text (refusal_line refusal) Refused old new status p (λ x. cc)
writes_of plan_of usage_line command before after old new status (ended wanted (ending.Unreadable name) c g h p) a =
    writes_text (unreadable_line name) ReadFault old new status p (λ x. cc)
writes_of plan_of usage_line command before after old new status (ended wanted ending.Memory c g h p) a = writes_nothing old new status p.0 p.1
writes_of plan_of usage_line command before after old new status (answered wanted work c g k) a = a wanted work k

-- words with a command don't have none
no_usage : {Command : Type 0} (command : Option Command) (wanted : Command) (status : Status) → command ≡ Some wanted → (status ≡ Usage → ⊥)
    → IsUsageReport command status
no_usage command wanted status c u = record { only = λ e. absurd (u e); always = λ none. cc (c, none) }

pub usage_of : {Command Work : Type 0} (plan_of : Command → Plan Work) (usage_line : List ℕ) {Untouched : Type 0} {Answers : Command → Work → Type 0}
    (command : Option Command) (before after : FilesView) (old new : OutputView) (status : Status)
    → Course plan_of usage_line Untouched Answers command before after old new status
    → ((wanted : Command) (work : Work) → Answers wanted work → status ≡ Usage → ⊥) → IsUsageReport command status
usage_of plan_of usage_line command before after old new status (is_no_command n s h p) a =
    record { only = λ e. n; always = λ none. printed (status_of usage_line Usage old new status p) }
  where
    printed : (status ≡ Usage) ⊎ (status ≡ WriteFault) → (status ≡ Usage) ⊎ (status ≡ WriteFault) ⊎ (status ≡ Memory)
    printed (inl e) = inl e
    printed (inr e) = inr (inl e)
usage_of plan_of usage_line command before after old new status (has_no_memory s h o m) a = record { only = λ u. cc (m, u); always = λ none. inr (inr m) }
usage_of plan_of usage_line command before after old new status (ended wanted (ending.Refused refusal) c g h p) a =
    no_usage command wanted status c (λ u. other_status Usage (refusal_line refusal) Refused old new status p (λ x. cc) (λ x. cc) u)
usage_of plan_of usage_line command before after old new status (ended wanted (ending.Unreadable name) c g h p) a =
    no_usage command wanted status c (λ u. other_status Usage (unreadable_line name) ReadFault old new status p (λ x. cc) (λ x. cc) u)
usage_of plan_of usage_line command before after old new status (ended wanted ending.Memory c g h p) a = no_usage command wanted status c (λ u. cc (p.1, u))
usage_of plan_of usage_line command before after old new status (answered wanted work c g k) a = no_usage command wanted status c (a wanted work k)

-- ---- the attempts

abbrev first_or : Attempt → List Attempt → Attempt
first_or a [] = a
first_or a (b ∷ bs) = b

-- if none failed, the last didn't
none_last : (made before : List Attempt) (name : List ℕ) → NoneFailed made → made ≡ before ++ record { name = name; failed = true } ∷ [] → ⊥
none_last [] [] name h e = cc
none_last [] (b ∷ before) name h e = cc
none_last (m ∷ made) [] name h e =
    let s : m ≡ record { name = name; failed = true } = ap (first_or m) e in
    let q : true ≡ false = sym (ap (λ (a : Attempt). a.failed) s) ∙ h.0 in
    cc
none_last (m ∷ made) (b ∷ before) name h e = none_last made before name h.1 (cc)

-- the names that a command attempted, in order
in_order_of : {Command Work : Type 0} (plan_of : Command → Plan Work) (command : Option Command) (wanted : Command) (before after : FilesView)
    (result : Result Work Ending) (disk : Disk) → command ≡ Some wanted → (g : GoesAlong (plan_of wanted) before after result)
    → before.known_files ≡ Some disk → BeginsWith (fetches_of plan_of command disk) (names_tried g.made)
in_order_of plan_of command wanted before after result disk c g t =
    let r = walks_in_order before.known_files disk (plan_of wanted) g.made g.spent result g.walk t in
    (r.0, ap (λ o. option_map_or (λ x. names_fetched disk (plan_of x)) o []) c ∙ r.1)

-- no attempt failed
reading_none : {Command Work : Type 0} (plan_of : Command → Plan Work) (command : Option Command) (Other : Type 0) (before after : FilesView)
    (old new : OutputView) (status : Status) (made : List Attempt) → after.attempts ≡ before.attempts ++ made
    → ((disk : Disk) → before.known_files ≡ Some disk → BeginsWith (fetches_of plan_of command disk) (names_tried made)) → NoneFailed made
    → (status ≡ ReadFault → Other) → ReadsInOrder plan_of command Other before after old new status
reading_none plan_of command Other before after old new status made a i n r = record {
  made = made;
  appended = a;
  in_order = i;
  at_most_last = inl n;
  failed = λ name l. absurd (none_last made l.before name n l.last);
  cause = λ e. inr (r e);
}

-- nothing was fetched
still : {Command Work : Type 0} (plan_of : Command → Plan Work) (command : Option Command) (Other : Type 0) (before after : FilesView)
    (old new : OutputView) (status : Status) → after ≡ before → (status ≡ ReadFault → ⊥) → ReadsInOrder plan_of command Other before after old new status
still plan_of command Other before after old new status s r =
    reading_none plan_of command Other before after old new status [] (ap (λ (v : FilesView). v.attempts) s ∙ sym (append-nil before.attempts))
    (λ disk t. (fetches_of plan_of command disk, refl)) tt (λ e. absurd (r e))

pub reading_of : {Command Work : Type 0} (plan_of : Command → Plan Work) (usage_line : List ℕ) {Untouched : Type 0} {Answers : Command → Work → Type 0}
    (command : Option Command) (Other : Type 0) (before after : FilesView) (old new : OutputView) (status : Status)
    → Course plan_of usage_line Untouched Answers command before after old new status
    → ((wanted : Command) (work : Work) → command ≡ Some wanted → GoesAlong (plan_of wanted) before after (Ok work) → Answers wanted work → status ≡ ReadFault
    → Other) → ReadsInOrder plan_of command Other before after old new status
reading_of plan_of usage_line command Other before after old new status (is_no_command n s h p) a =
    still plan_of command Other before after old new status s (not_read usage_line Usage old new status p (λ x. cc))
reading_of plan_of usage_line command Other before after old new status (has_no_memory s h o m) a =
    still plan_of command Other before after old new status s (λ e. cc (m, e))
reading_of plan_of usage_line command Other before after old new status (ended wanted (ending.Refused refusal) c g h p) a =
    reading_none plan_of command Other before after old new status g.made g.attempts
    (λ disk t. in_order_of plan_of command wanted before after (Err (ending.Refused refusal)) disk c g t)
    (walks_fit before.known_files (plan_of wanted) g.made g.spent (Err (ending.Refused refusal)) g.walk)
    (λ e. absurd (not_read (refusal_line refusal) Refused old new status p (λ x. cc) e))
reading_of plan_of usage_line command Other before after old new status (ended wanted (ending.Unreadable name) c g h p) a =
    let last = walks_fit before.known_files (plan_of wanted) g.made g.spent (Err (ending.Unreadable name)) g.walk in record {
      made = g.made;
      appended = g.attempts;
      in_order = λ disk t. in_order_of plan_of command wanted before after (Err (ending.Unreadable name)) disk c g t;
      at_most_last = inr (name, last);
      failed = λ other l. status_of (unreadable_line name) ReadFault old new status p;
      cause = λ e. inl (name, last, whole_text (unreadable_line name) ReadFault old new status p (λ x. cc) e);
    }
reading_of plan_of usage_line command Other before after old new status (ended wanted ending.Memory c g h p) a =
    reading_none plan_of command Other before after old new status g.made g.attempts
    (λ disk t. in_order_of plan_of command wanted before after (Err ending.Memory) disk c g t)
    (walks_fit before.known_files (plan_of wanted) g.made g.spent (Err ending.Memory) g.walk) (λ e. cc (p.1, e))
reading_of plan_of usage_line command Other before after old new status (answered wanted work c g k) a =
    reading_none plan_of command Other before after old new status g.made g.attempts
    (λ disk t. in_order_of plan_of command wanted before after (Ok work) disk c g t)
    (walks_fit before.known_files (plan_of wanted) g.made g.spent (Ok work) g.walk) (a wanted work c g k)
