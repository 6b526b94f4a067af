-- How a call followed a plan: its attempts, how many bytes it read at most, and its result.
use Rattle.std.specs.Prelude.{◌≡◌, ℕ, ◌+◌, ◌≤◌, true, false, List, [], ◌∷◌, ◌++◌, length, Option, Result, Ok, Err}
use Rattle.m_ports.specs.Files.{Holds, HoldsMoreThan}
use Rattle.m_ports.specs.declared.files.Attempt.{Attempt}
use Rattle.command_plans.specs.Plan.{Plan, done, refuses, fetches}
use Rattle.command_plans.specs.Refusals.{refusal_line}
use Rattle.command_plans.specs.Views.{Disk, FilesView}
use Rattle.command_plans.specs.declared.ending.Ending.{Ending}
use Rattle.command_plans.specs.declared.ending.Ending.TheVariants.{Refused, Unreadable, Memory}
use Rattle.command_plans.specs.declared.refusal.Refusal.{Refusal}
use Rattle.command_plans.specs.declared.refusal.Refusal.TheVariants.{FileTooLong}

-- A walk along a plan, over files whose contents are known or unknown: its attempts, how many bytes they may read (of
-- each file one past its limit, which shows that it is too long), and its result. Any walk may end for lack of memory:
-- a fetch that does is no attempt, and may read as many bytes as one.
pub data Walks {Gathered : Type 0} (known_files : Option Disk) : Plan Gathered → List Attempt → ℕ → Result Gathered Ending → Type 0 where
  ends : {all : Gathered} → Walks known_files (done all) [] 0 (Ok all)
  ends_refused : {refusal : Refusal} → Walks known_files (refuses (refusal_line refusal)) [] 0 (Err (Refused refusal))
  ends_without_memory : {plan : Plan Gathered} → Walks known_files plan [] 0 (Err Memory)
  fetches_without_memory : {name : List ℕ} {limit : ℕ} {behind : List ℕ → Plan Gathered}
      → Walks known_files (fetches name limit behind) [] (limit + 1) (Err Memory)
  fails : {name : List ℕ} {limit : ℕ} {behind : List ℕ → Plan Gathered}
      → Walks known_files (fetches name limit behind) (record { name = name; failed = true } ∷ []) (limit + 1) (Err (Unreadable name))
  finds_too_long : {name : List ℕ} {limit : ℕ} {behind : List ℕ → Plan Gathered} → HoldsMoreThan limit known_files name
      → Walks known_files (fetches name limit behind) (record { name = name; failed = false } ∷ []) (limit + 1) (Err (Refused (FileTooLong name)))
  goes_on : {name : List ℕ} {limit : ℕ} {behind : List ℕ → Plan Gathered} {made : List Attempt} {spent : ℕ} {result : Result Gathered Ending}
      (bytes : List ℕ) → Holds known_files name bytes → length bytes ≤ limit → Walks known_files (behind bytes) made spent result
      → Walks known_files (fetches name limit behind) (record { name = name; failed = false } ∷ made) (limit + 1 + spent) result

-- A call followed a plan: its attempts and its result are those of a walk, and it read no more bytes than the walk
-- allows.
pub record GoesAlong {Gathered : Type 0} (plan : Plan Gathered) (before after : FilesView) (result : Result Gathered Ending) : Type 0 where
  pub known_files : after.known_files ≡ before.known_files
  pub made : List Attempt
  pub spent : ℕ
  pub walk : Walks before.known_files plan made spent result
  pub attempts : after.attempts ≡ before.attempts ++ made
  pub taken : after.taken ≤ before.taken + spent
