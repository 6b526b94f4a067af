-- How many bytes a call has read.
use Rattle.std.proofs.Common.{◌≡◌, ◌≤◌, ◌+◌, ◌*◌, ℕ, List, ◌++◌, length, Option, Some, Ok, Err, sym, ap, ◌∙◌, subst, arith, length-append}
use Rattle.std.specs.Option.{option_map_or}
use Rattle.m_ports.specs.declared.files.Attempt.{Attempt}
use Rattle.command_plans.specs.Attempts.{allowance, TakesWithin}
use Rattle.command_plans.specs.Courses.{Course, is_no_command, has_no_memory, ended, answered}
use Rattle.command_plans.specs.Plan.{Plan}
use Rattle.command_plans.specs.Views.{FilesView, OutputView}
use Rattle.command_plans.specs.declared.ending.Ending.TheVariants as ending
use Rattle.command_plans.specs.declared.status.Status.{Status}
use Rattle.command_plans.specs.declared.status.Status.TheVariants.{Done, Refused, Usage, ReadFault, WriteFault, Memory, Stopped}
use Rattle.command_plans.proofs.Walks.{walks_within}
use Rattle.command_plans.proofs.Within.{KeepsWithin}

-- the bound for a call that didn't run out of memory
no_slack : (most : ℕ) (before after : FilesView) (status : Status) → after.taken + allowance most before.attempts ≤ before.taken + allowance most after.attempts
    → TakesWithin most before after status
no_slack most before after Done h = h
no_slack most before after Refused h = h
no_slack most before after Usage h = h
no_slack most before after ReadFault h = h
no_slack most before after WriteFault h = h
no_slack most before after Memory h = omega (arith, h)
no_slack most before after Stopped h = h

-- the allowance of all attempts is that of the earlier ones and of those of the call
allowed : (most : ℕ) (before after : FilesView) (made : List Attempt) → after.attempts ≡ before.attempts ++ made
    → allowance most after.attempts ≡ allowance most before.attempts + allowance most made
allowed most before after made e =
    let a = ap (λ (l : List Attempt). length l * (most + 1)) e in
    let b = ap (λ n. n * (most + 1)) (length-append before.attempts made) in
    let d : (length before.attempts + length made) * (most + 1) ≡ length before.attempts * (most + 1) + length made * (most + 1) = omega arith in
    a ∙ b ∙ d

within : (most : ℕ) (before after : FilesView) (made : List Attempt) (spent slack : ℕ) → after.attempts ≡ before.attempts ++ made
    → after.taken ≤ before.taken + spent → spent ≤ allowance most made + slack
    → after.taken + allowance most before.attempts ≤ before.taken + allowance most after.attempts + slack
within most before after made spent slack e t s = rw (allowed most before after made e)
    (sums after.taken before.taken (allowance most before.attempts) (allowance most made) spent slack t s)
  where
    sums : (a b x y s k : ℕ) → a ≤ b + s → s ≤ y + k → a + x ≤ b + (x + y) + k
    sums a b x y s k h i = omega (arith, h, i)

-- no file was fetched
still : (most : ℕ) (before after : FilesView) (status : Status) → after ≡ before → TakesWithin most before after status
still most before after status s = subst (λ (v : FilesView). TakesWithin most before v status) (sym s) (no_slack most before before status (omega arith))

without : (most : ℕ) (before after : FilesView) (made : List Attempt) (spent : ℕ) (status : Status) → after.attempts ≡ before.attempts ++ made
    → after.taken ≤ before.taken + spent → spent ≤ allowance most made
    → TakesWithin most before after status
without most before after made spent status e t s =
    no_slack most before after status (let h = within most before after made spent 0 e t (omega (arith, s)) in omega (arith, h))

-- the limit is that of the words' command
of_command : {Command : Type 0} (file_limit : Command → ℕ) (command : Option Command) (wanted : Command) (before after : FilesView) (status : Status)
    → command ≡ Some wanted → TakesWithin (file_limit wanted) before after status → TakesWithin (option_map_or file_limit command 0) before after status
of_command file_limit command wanted before after status c h =
    subst (λ (most : ℕ). TakesWithin most before after status) (sym (ap (λ o. option_map_or file_limit o 0) c)) h

-- a call reads no more bytes than its attempts allow, if the files of each command are within the command's limit
pub taken_of : {Command Work : Type 0} (plan_of : Command → Plan Work) (usage_line : List ℕ) {Untouched : Type 0} {Answers : Command → Work → Type 0}
    (command : Option Command) (before after : FilesView) (old new : OutputView) (status : Status) (file_limit : Command → ℕ)
    → ((wanted : Command) → KeepsWithin (file_limit wanted) (plan_of wanted))
    → Course plan_of usage_line Untouched Answers command before after old new status → TakesWithin (option_map_or file_limit command 0) before after status
taken_of plan_of usage_line command before after old new status file_limit keeps (is_no_command n s h p) = still _ before after status s
taken_of plan_of usage_line command before after old new status file_limit keeps (has_no_memory s h o m) = still _ before after status s
taken_of plan_of usage_line command before after old new status file_limit keeps (ended wanted (ending.Refused refusal) c g h p) =
    of_command file_limit command wanted before after status c (without (file_limit wanted) before after g.made g.spent status g.attempts g.taken
    (walks_within before.known_files (file_limit wanted) (plan_of wanted) g.made g.spent (Err (ending.Refused refusal)) (keeps wanted) g.walk))
taken_of plan_of usage_line command before after old new status file_limit keeps (ended wanted (ending.Unreadable name) c g h p) =
    of_command file_limit command wanted before after status c (without (file_limit wanted) before after g.made g.spent status g.attempts g.taken
    (walks_within before.known_files (file_limit wanted) (plan_of wanted) g.made g.spent (Err (ending.Unreadable name)) (keeps wanted) g.walk))
taken_of plan_of usage_line command before after old new status file_limit keeps (ended wanted ending.Memory c g h p) =
    of_command file_limit command wanted before after status c (subst (λ (s : Status). TakesWithin (file_limit wanted) before after s) (sym p.1)
    (within (file_limit wanted) before after g.made g.spent (file_limit wanted + 1) g.attempts g.taken
    (walks_within before.known_files (file_limit wanted) (plan_of wanted) g.made g.spent (Err ending.Memory) (keeps wanted) g.walk)))
taken_of plan_of usage_line command before after old new status file_limit keeps (answered wanted work c g a) =
    of_command file_limit command wanted before after status c (without (file_limit wanted) before after g.made g.spent status g.attempts g.taken
    (walks_within before.known_files (file_limit wanted) (plan_of wanted) g.made g.spent (Ok work) (keeps wanted) g.walk))
