-- Valid words and files are answered, and all words and files have one output.
use Rattle.std.proofs.Common.{◌≡◌, ◌+◌, ℕ, Bool, true, List, [], ◌∷◌, ◌++◌, Option, Some, Err, refl, sym, ap, ◌∙◌, subst, zero-add, arith, inl, inr}
use Rattle.std.specs.Prelude.{if◌then◌else◌}
use Rattle.m_ports.specs.Counts.{Rose}
use Rattle.m_ports.specs.Files.{failed_count}
use Rattle.m_ports.specs.declared.files.Attempt.{Attempt}
use Rattle.m_ports.proofs.FileLemmas.{failed_count-append}
use Rattle.command_plans.specs.Attempts.{NoneFailed, LastFailed}
use Rattle.command_plans.specs.Courses.{Course, is_no_command, has_no_memory, ended, answered, KnowsDisk, IsValidCommand, Output, usage, refuses, answers}
use Rattle.command_plans.specs.Plan.{Plan, end_of, gathered, refused}
use Rattle.command_plans.specs.Refusals.{refusal_line}
use Rattle.command_plans.specs.Status.{IsComplete}
use Rattle.command_plans.specs.Views.{Disk, FilesView, OutputView}
use Rattle.command_plans.specs.declared.ending.Ending.TheVariants as ending
use Rattle.command_plans.specs.declared.status.Status.{Status}
use Rattle.command_plans.proofs.CourseLemmas.{gathered_end, refused_end}
use Rattle.command_plans.proofs.Walks.{walks_fit}

-- words have one command, so a plan has one result
one_end : {Command Work : Type 0} (plan_of : Command → Plan Work) (command : Option Command) (wanted other : Command) (disk : Disk) → command ≡ Some wanted
    → command ≡ Some other → end_of disk (plan_of wanted) ≡ end_of disk (plan_of other)
one_end plan_of command wanted other disk c d = let e : wanted ≡ other = cc (c, d) in ap (λ x. end_of disk (plan_of x)) e

none_counted : (made : List Attempt) → NoneFailed made → failed_count made ≡ 0
none_counted [] h = refl
none_counted (attempt ∷ made) h = ap (λ (failed : Bool). (if failed then 1 else 0) + failed_count made) h.0 ∙ zero-add (failed_count made)
    ∙ none_counted made h.1

-- the count of failed attempts rose by one if the last attempt failed
rose : (before after : FilesView) (made : List Attempt) (name : List ℕ) → after.attempts ≡ before.attempts ++ made → LastFailed made name
    → failed_count after.attempts ≡ failed_count before.attempts + 1
rose before after made name a l =
    omega (
      arith,
      ap failed_count a,
      failed_count-append before.attempts made,
      ap failed_count l.last,
      failed_count-append l.before
          (record { name = name; failed = true } ∷ []),
      none_counted l.before l.others,
    )

pub complete_of : {Command Work : Type 0} (plan_of : Command → Plan Work) (usage_line : List ℕ) {Untouched : Type 0} {Answers : Command → Work → Type 0}
    (HasAnswer : Work → Type 0) (command : Option Command) (disk : Disk) (before after : FilesView) (old new : OutputView) (status : Status)
    → Course plan_of usage_line Untouched Answers command before after old new status → KnowsDisk plan_of command before disk
    → IsValidCommand plan_of HasAnswer command disk → (Rose (failed_count before.attempts) (failed_count after.attempts) → ⊥)
    → ((wanted : Command) (work : Work) → command ≡ Some wanted → HasAnswer work → Answers wanted work → IsComplete status) → IsComplete status
complete_of plan_of usage_line HasAnswer command disk before after old new status (is_no_command n s h p) t valid quiet a =
    let i = valid.is_command in cc (n, i)
complete_of plan_of usage_line HasAnswer command disk before after old new status (has_no_memory s h o m) t valid quiet a = subst IsComplete (sym m) tt
complete_of plan_of usage_line HasAnswer command disk before after old new status (ended wanted (ending.Refused refusal) c g h p) t valid quiet a =
    let e = one_end plan_of command valid.wanted wanted disk valid.is_command c in
    let r = refused_end plan_of command wanted disk before after refusal t c g in
    let k = valid.gathers in
    cc (e, r, k)
complete_of plan_of usage_line HasAnswer command disk before after old new status (ended wanted (ending.Unreadable name) c g h p) t valid quiet a =
    absurd (quiet (inl (rose before after g.made name g.attempts
    (walks_fit before.known_files (plan_of wanted) g.made g.spent (Err (ending.Unreadable name)) g.walk))))
complete_of plan_of usage_line HasAnswer command disk before after old new status (ended wanted ending.Memory c g h p) t valid quiet a = subst IsComplete
    (sym p.1) tt
complete_of plan_of usage_line HasAnswer command disk before after old new status (answered wanted work c g k) t valid quiet a =
    let e = one_end plan_of command valid.wanted wanted disk valid.is_command c in
    let q : valid.work ≡ work = cc (e, gathered_end plan_of command wanted work disk before after t c g, valid.gathers) in
    a wanted work c (subst HasAnswer q valid.answer) k

-- The same words and files have one output, if each work has one answer. Outputs count as one by `AreOne`.
pub one_output : {Command Work : Type 0} (plan_of : Command → Plan Work) (Replies : Work → List ℕ → Status → Type 0) (usage_line : List ℕ)
    (AreOne : List ℕ → Status → List ℕ → Status → Type 0) (command : Option Command) (disk : Disk) (t u : List ℕ) (s r : Status)
    → ((text other : List ℕ) (status outcome : Status) → text ≡ other → status ≡ outcome → AreOne text status other outcome)
    → ((work : Work) (text other : List ℕ) (status outcome : Status) → Replies work text status → Replies work other outcome
    → AreOne text status other outcome)
    → Output plan_of Replies usage_line command disk t s → Output plan_of Replies usage_line command disk u r → AreOne t s u r
one_output plan_of Replies usage_line AreOne command disk t u s r same one (usage e) (usage f) = same _ _ _ _ refl refl
one_output plan_of Replies usage_line AreOne command disk t u s r same one (usage e) (refuses b f h) = cc (e, f)
one_output plan_of Replies usage_line AreOne command disk t u s r same one (usage e) (answers b w f h y) = cc (e, f)
one_output plan_of Replies usage_line AreOne command disk t u s r same one (refuses a e g) (usage f) = cc (e, f)
one_output plan_of Replies usage_line AreOne command disk t u s r same one (refuses a e g) (refuses b f h) =
    let i = one_end plan_of command a b disk e f in
    let j : t ≡ u = cc (i, g, h) in
    same _ _ _ _ j refl
one_output plan_of Replies usage_line AreOne command disk t u s r same one (refuses a e g) (answers b w f h y) =
    let i = one_end plan_of command a b disk e f in
    cc (i, g, h)
one_output plan_of Replies usage_line AreOne command disk t u s r same one (answers a v e g x) (usage f) = cc (e, f)
one_output plan_of Replies usage_line AreOne command disk t u s r same one (answers a v e g x) (refuses b f h) =
    let i = one_end plan_of command a b disk e f in
    cc (i, g, h)
one_output plan_of Replies usage_line AreOne command disk t u s r same one (answers a v e g x) (answers b w f h y) =
    let i = one_end plan_of command a b disk e f in
    let k : v ≡ w = cc (i, g, h) in
    one w t u s r (subst (λ z. Replies z t s) k x) y
