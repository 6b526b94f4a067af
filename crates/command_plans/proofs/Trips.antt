-- How calls along plans are composed.
use Rattle.std.proofs.Common.{◌≡◌, ◌≤◌, ◌+◌, ℕ, false, List, [], ◌∷◌, ◌++◌, length, Option, Result, Ok, Err, refl, sym, ap, ◌∙◌, subst, append_assoc, arith}
use Rattle.std.proofs.lemmas.List.{append-nil}
use Rattle.std.specs.Prelude.{IsErrAnd}
use Rattle.m_ports.specs.Files.{Holds}
use Rattle.m_ports.specs.declared.files.Attempt.{Attempt}
use Rattle.command_plans.specs.Plan.{Plan, done, refuses, and_then, file_plan}
use Rattle.command_plans.specs.Refusals.{refusal_line}
use Rattle.command_plans.specs.Trips.{Walks, ends, ends_refused, ends_without_memory, goes_on, GoesAlong}
use Rattle.command_plans.specs.Views.{Disk, FilesView}
use Rattle.command_plans.specs.declared.ending.Ending.{Ending}
use Rattle.command_plans.specs.declared.ending.Ending.TheVariants.{Refused, Memory}
use Rattle.command_plans.specs.declared.refusal.Refusal.{Refusal}
use Rattle.command_plans.proofs.Walks.{walks_then, walks_ended}

-- a plan that was gathered, and then the next plan
pub along_then : {A B : Type 0} (plan : Plan A) (next : A → Plan B) (before mid after : FilesView) (all : A) (result : Result B Ending)
    → GoesAlong plan before mid (Ok all) → GoesAlong (next all) mid after result → GoesAlong (and_then plan next) before after result
along_then plan next before mid after all result a b = record {
  known_files = b.known_files ∙ a.known_files;
  made = a.made ++ b.made;
  spent = a.spent + b.spent;
  walk = walks_then before.known_files next plan a.made b.made a.spent b.spent all (Ok all) result a.walk refl
      (subst (λ (t : Option Disk). Walks t (next all) b.made b.spent result) a.known_files b.walk);
  attempts = b.attempts ∙ ap (λ l. l ++ b.made) a.attempts ∙ append_assoc before.attempts a.made b.made;
  taken = omega (arith, a.taken, b.taken);
}

-- a plan that failed
pub along_ended : {A B : Type 0} (plan : Plan A) (next : A → Plan B) (before after : FilesView) (ending : Ending)
    → GoesAlong plan before after (Err ending) → GoesAlong (and_then plan next) before after (Err ending)
along_ended plan next before after ending a = record {
  known_files = a.known_files;
  made = a.made;
  spent = a.spent;
  walk = walks_ended before.known_files next plan a.made a.spent ending (Err ending) a.walk refl;
  attempts = a.attempts;
  taken = a.taken;
}

-- nothing was fetched
still : {A : Type 0} (plan : Plan A) (view : FilesView) (result : Result A Ending) → Walks view.known_files plan [] 0 result → GoesAlong plan view view result
still plan view result walk = record {
  known_files = refl;
  made = [];
  spent = 0;
  walk = walk;
  attempts = sym (append-nil view.attempts);
  taken = omega arith;
}

pub along_done : {A : Type 0} (view : FilesView) (all : A) → GoesAlong (done all) view view (Ok all)
along_done view all = still (done all) view (Ok all) ends

pub along_refused : {A : Type 0} (view : FilesView) (refusal : Refusal)
    → GoesAlong {Gathered = A} (refuses (refusal_line refusal)) view view (Err (Refused refusal))
along_refused view refusal = still (refuses (refusal_line refusal)) view (Err (Refused refusal)) ends_refused

pub along_without_memory : {A : Type 0} (plan : Plan A) (view : FilesView) → GoesAlong plan view view (Err Memory)
along_without_memory plan view = still plan view (Err Memory) ends_without_memory

-- out of memory in a step is the result of the whole
pub exits_without_memory : {A : Type 0} (plan : Plan A) (view : FilesView) (result : Result A Ending) → IsErrAnd result (λ e. e ≡ Memory)
    → GoesAlong plan view view result
exits_without_memory plan view (Ok all) h = absurd h
exits_without_memory plan view (Err e) h = subst (λ x. GoesAlong plan view view (Err x)) (sym h) (along_without_memory plan view)

-- the ending of a step is the result of the whole
pub exits_ended : {A B : Type 0} (plan : Plan A) (next : A → Plan B) (before after : FilesView) (ending : Ending) (result : Result B Ending)
    → GoesAlong plan before after (Err ending) → IsErrAnd result (λ e. e ≡ ending) → GoesAlong (and_then plan next) before after result
exits_ended plan next before after ending (Ok all) a h = absurd h
exits_ended plan next before after ending (Err e) a h = subst (λ x. GoesAlong (and_then plan next) before after (Err x)) (sym h)
    (along_ended plan next before after ending a)

-- one fetch, with a copy of the name
pub along_fetch : (copy name : List ℕ) (limit : ℕ) (before after : FilesView) (made : List Attempt) (result : Result (List ℕ) Ending)
    → copy ≡ name → Walks before.known_files (file_plan copy limit) made (limit + 1) result
    → after.known_files ≡ before.known_files → after.attempts ≡ before.attempts ++ made → after.taken ≤ before.taken + (limit + 1)
    → GoesAlong (file_plan name limit) before after result
along_fetch copy name limit before after made result same walk known_files attempts taken = subst
    (λ (n : List ℕ). GoesAlong (file_plan n limit) before after result) same (record {
      known_files = known_files;
      made = made;
      spent = limit + 1;
      walk = walk;
      attempts = attempts;
      taken = taken;
    })

-- a walk that fetched the one file of its plan
pub walks_one : (known_files : Option Disk) (name bytes all : List ℕ) (limit : ℕ) → Holds known_files name bytes → length bytes ≤ limit → all ≡ bytes
    → Walks known_files (file_plan name limit) (record { name = name; failed = false } ∷ []) (limit + 1) (Ok all)
walks_one known_files name bytes all limit h l e =
    let zero : limit + 1 + 0 ≡ limit + 1 = omega arith in
    subst (λ x. Walks known_files (file_plan name limit) (record { name = name; failed = false } ∷ []) (limit + 1) (Ok x)) (sym e)
    (subst (λ n. Walks known_files (file_plan name limit) (record { name = name; failed = false } ∷ []) n (Ok bytes)) zero (goes_on bytes h l ends))
