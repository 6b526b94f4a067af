-- Properties of every walk along a plan.
use Rattle.std.proofs.Common.{◌≡◌, ◌<◌, ◌≤◌, ◌+◌, ℕ, true, false, List, [], ◌∷◌, ◌++◌, length, Option, Some, None, Result, Ok, Err, refl, sym, ap, ◌∙◌, subst}
use Rattle.std.proofs.Common.{cond, arith, add_assoc, zero-add, nat_le}
use Rattle.std.proofs.lemmas.Bool.Decides.{nat_tests}
use Rattle.std.specs.Prelude.{IsSomeAnd}
use Rattle.m_ports.specs.Files.{Holds, HoldsMoreThan}
use Rattle.m_ports.specs.declared.files.Attempt.{Attempt}
use Rattle.command_plans.specs.Attempts.{BeginsWith, names_tried, NoneFailed, LastFailed, allowance}
use Rattle.command_plans.specs.Plan.{Plan, refuses, fetches, requests_file, and_then, End, gathered, refused, fetched_end, end_of, names_behind, names_fetched}
use Rattle.tax_print.specs.FaultLines.{too_long_line}
use Rattle.command_plans.specs.Refusals.{refusal_line}
use Rattle.command_plans.specs.Views.{Disk}
use Rattle.command_plans.specs.Trips.{Walks, ends, ends_refused, ends_without_memory, fetches_without_memory, fails, finds_too_long, goes_on}
use Rattle.command_plans.specs.declared.ending.Ending.{Ending}
use Rattle.command_plans.specs.declared.ending.Ending.TheVariants.{Refused, Unreadable, Memory}
use Rattle.command_plans.specs.declared.refusal.Refusal.TheVariants.{FileTooLong}
use Rattle.command_plans.proofs.Within.{KeepsWithin}

at_most : (a b : ℕ) → a ≤ b → nat_le a b ≡ true
at_most a b h = grind (arith, nat_tests)

above : (a b : ℕ) → b < a → nat_le a b ≡ false
above a b h = grind (arith, nat_tests)

held : (known_files : Option Disk) (name bytes : List ℕ) → Holds known_files name bytes → (disk : Disk) → known_files ≡ Some disk → disk name ≡ Some bytes
held known_files name bytes h disk e = let P : Option Disk → Type 0 = λ t. Holds t name bytes in subst P e h

some_of : {X : Type 0} (o : Option X) (P : X → Type 0) → IsSomeAnd o P → (x : X) × (o ≡ Some x) × P x
some_of None P h = absurd h
some_of (Some x) P h = (x, refl, h)

-- a walk that gathered something, and one that continues with it
pub walks_then : {A B : Type 0} (known_files : Option Disk) (next : A → Plan B) (plan : Plan A) (made more : List Attempt) (spent further : ℕ) (all : A)
    (first : Result A Ending) (result : Result B Ending)
    → Walks known_files plan made spent first → first ≡ Ok all → Walks known_files (next all) more further result
    → Walks known_files (and_then plan next) (made ++ more) (spent + further) result
walks_then known_files next plan made more spent further all first result (ends {all = one}) e w =
    let s : one ≡ all = cc in
    subst (λ n. Walks known_files (next one) more n result) (sym (zero-add further)) (subst (λ x. Walks known_files (next x) more further result) (sym s) w)
walks_then known_files next plan made more spent further all first result ends_refused e w = cc
walks_then known_files next plan made more spent further all first result ends_without_memory e w = cc
walks_then known_files next plan made more spent further all first result fetches_without_memory e w = cc
walks_then known_files next plan made more spent further all first result fails e w = cc
walks_then known_files next plan made more spent further all first result (finds_too_long h) e w = cc
walks_then known_files next plan made more spent further all first result (goes_on {name = name} {limit = limit} {behind = behind} {made = rest} {spent = cost}
    bytes h l walk) e w =
    subst (λ n. Walks known_files (fetches name limit (λ b. and_then (behind b) next)) (record { name = name; failed = false } ∷ (rest ++ more)) n result)
    (sym (add_assoc (limit + 1) cost further))
    (goes_on bytes h l (walks_then known_files next (behind bytes) rest more cost further all first result walk e w))

-- the ending of a plan is also the ending of that plan and then another
pub walks_ended : {A B : Type 0} (known_files : Option Disk) (next : A → Plan B) (plan : Plan A) (made : List Attempt) (spent : ℕ) (ending : Ending)
    (first : Result A Ending)
    → Walks known_files plan made spent first → first ≡ Err ending → Walks known_files (and_then plan next) made spent (Err ending)
walks_ended known_files next plan made spent ending first ends e = cc
walks_ended {B = B} known_files next plan made spent ending first (ends_refused {refusal = refusal}) e =
    let s : Refused refusal ≡ ending = cc in subst (λ x. Walks {Gathered = B} known_files (refuses (refusal_line refusal)) [] 0 (Err x)) s ends_refused
walks_ended known_files next plan made spent ending first ends_without_memory e =
    let s : Memory ≡ ending = cc in subst (λ x. Walks known_files (and_then plan next) [] 0 (Err x)) s ends_without_memory
walks_ended known_files next plan made spent ending first (fetches_without_memory {limit = limit}) e =
    let s : Memory ≡ ending = cc in subst (λ x. Walks known_files (and_then plan next) [] (limit + 1) (Err x)) s fetches_without_memory
walks_ended known_files next plan made spent ending first (fails {name = name} {limit = limit}) e =
    let s : Unreadable name ≡ ending = cc in subst (λ x. Walks known_files (and_then plan next) (record { name = name; failed = true } ∷ []) (limit + 1)
    (Err x)) s fails
walks_ended known_files next plan made spent ending first (finds_too_long {name = name} {limit = limit} h) e =
    let s : Refused (FileTooLong name) ≡ ending = cc in subst (λ x. Walks known_files (and_then plan next) (record { name = name; failed = false } ∷ [])
    (limit + 1) (Err x)) s (finds_too_long h)
walks_ended known_files next plan made spent ending first (goes_on {behind = behind} {made = rest} {spent = cost} bytes h l walk) e =
    goes_on bytes h l (walks_ended known_files next (behind bytes) rest cost ending first walk e)

-- the attempts of a walk are on the fetched names, in order
pub walks_in_order : {A : Type 0} (known_files : Option Disk) (disk : Disk) (plan : Plan A) (made : List Attempt) (spent : ℕ) (result : Result A Ending)
    → Walks known_files plan made spent result → known_files ≡ Some disk → BeginsWith (names_fetched disk plan) (names_tried made)
walks_in_order known_files disk plan made spent result ends t = (_, refl)
walks_in_order known_files disk plan made spent result ends_refused t = (_, refl)
walks_in_order known_files disk plan made spent result ends_without_memory t = (_, refl)
walks_in_order known_files disk plan made spent result fetches_without_memory t = (_, refl)
walks_in_order known_files disk plan made spent result fails t = (_, refl)
walks_in_order known_files disk plan made spent result (finds_too_long h) t = (_, refl)
walks_in_order known_files disk plan made spent result (goes_on {name = name} {limit = limit} {behind = behind} {made = rest} {spent = cost} bytes h l walk) t =
    let r = walks_in_order known_files disk (behind bytes) rest cost result walk t in (
      r.0,
      ap (λ o. name ∷ names_behind limit (λ b. names_fetched disk (behind b)) o) (held known_files name bytes h disk t)
          ∙ ap (λ b. name ∷ cond b (names_fetched disk (behind bytes)) []) (at_most (length bytes) limit l)
          ∙ ap (λ names. name ∷ names) r.1,
    )

-- the end of a plan agrees with the result of a walk
abbrev pub EndsAt : {A : Type 0} → End A → Result A Ending → Type 0
EndsAt end (Ok all) = end ≡ gathered all
EndsAt end (Err (Refused refusal)) = end ≡ refused (refusal_line refusal)
EndsAt end (Err (Unreadable name)) = Unit {0}
EndsAt end (Err Memory) = Unit {0}

pub walks_to_end : {A : Type 0} (known_files : Option Disk) (disk : Disk) (plan : Plan A) (made : List Attempt) (spent : ℕ) (result : Result A Ending)
    → Walks known_files plan made spent result → (requests_file plan ≡ true → known_files ≡ Some disk) → EndsAt (end_of disk plan) result
walks_to_end known_files disk plan made spent result ends t = refl
walks_to_end known_files disk plan made spent result ends_refused t = refl
walks_to_end known_files disk plan made spent result ends_without_memory t = tt
walks_to_end known_files disk plan made spent result fetches_without_memory t = tt
walks_to_end known_files disk plan made spent result fails t = tt
walks_to_end known_files disk plan made spent result (finds_too_long {name = name} {limit = limit} {behind = behind} h) t =
    let P : Option Disk → Type 0 = λ u. HoldsMoreThan limit u name in
    let s = some_of (disk name) (λ bytes. limit < length bytes) (subst P (t refl) h) in
    ap (fetched_end name limit (λ b. end_of disk (behind b))) s.1 ∙ ap (λ b. cond b (end_of disk (behind s.0)) (refused (too_long_line name)))
    (above (length s.0) limit s.2)
walks_to_end known_files disk plan made spent result (goes_on {name = name} {limit = limit} {behind = behind} {made = rest} {spent = cost} bytes h l walk) t =
    subst (λ end. EndsAt end result)
    (sym (ap (fetched_end name limit (λ b. end_of disk (behind b))) (held known_files name bytes h disk (t refl))
    ∙ ap (λ b. cond b (end_of disk (behind bytes)) (refused (too_long_line name))) (at_most (length bytes) limit l)))
    (walks_to_end known_files disk (behind bytes) rest cost result walk (λ _. t refl))

-- at most the last attempt of a walk failed, and then the walk ended there
abbrev pub FitsAttempts : {A : Type 0} → List Attempt → Result A Ending → Type 0
FitsAttempts made (Ok all) = NoneFailed made
FitsAttempts made (Err (Refused refusal)) = NoneFailed made
FitsAttempts made (Err (Unreadable name)) = LastFailed made name
FitsAttempts made (Err Memory) = NoneFailed made

fits_more : {A : Type 0} (name : List ℕ) (made : List Attempt) (result : Result A Ending) → FitsAttempts made result
    → FitsAttempts (record { name = name; failed = false } ∷ made) result
fits_more name made (Ok all) h = (refl, h)
fits_more name made (Err (Refused refusal)) h = (refl, h)
fits_more name made (Err (Unreadable other)) h = record {
  before = record { name = name; failed = false } ∷ h.before;
  last = ap
      (λ l. record { name = name; failed = false } ∷ l) h.last;
  others = (refl, h.others);
}
fits_more name made (Err Memory) h = (refl, h)

pub walks_fit : {A : Type 0} (known_files : Option Disk) (plan : Plan A) (made : List Attempt) (spent : ℕ) (result : Result A Ending)
    → Walks known_files plan made spent result → FitsAttempts made result
walks_fit known_files plan made spent result ends = tt
walks_fit known_files plan made spent result ends_refused = tt
walks_fit known_files plan made spent result ends_without_memory = tt
walks_fit known_files plan made spent result fetches_without_memory = tt
walks_fit known_files plan made spent result fails = record { before = []; last = refl; others = tt }
walks_fit known_files plan made spent result (finds_too_long h) = (refl, tt)
walks_fit known_files plan made spent result (goes_on {name = name} {behind = behind} {made = rest} {spent = cost} bytes h l walk) =
    fits_more name rest result (walks_fit known_files (behind bytes) rest cost result walk)

-- the bytes of a walk are within the allowance of its attempts, and of one more where it ended without memory
abbrev pub SpendsWithin : {A : Type 0} → ℕ → List Attempt → ℕ → Result A Ending → Type 0
SpendsWithin most made spent (Ok all) = spent ≤ allowance most made
SpendsWithin most made spent (Err (Refused refusal)) = spent ≤ allowance most made
SpendsWithin most made spent (Err (Unreadable name)) = spent ≤ allowance most made
SpendsWithin most made spent (Err Memory) = spent ≤ allowance most made + (most + 1)

spends_more : {A : Type 0} (most limit : ℕ) (attempt : Attempt) (made : List Attempt) (spent : ℕ) (result : Result A Ending) → limit ≤ most
    → SpendsWithin most made spent result → SpendsWithin most (attempt ∷ made) (limit + 1 + spent) result
spends_more most limit attempt made spent (Ok all) l h = omega (arith, l, h)
spends_more most limit attempt made spent (Err (Refused refusal)) l h = omega (arith, l, h)
spends_more most limit attempt made spent (Err (Unreadable name)) l h = omega (arith, l, h)
spends_more most limit attempt made spent (Err Memory) l h = omega (arith, l, h)

pub walks_within : {A : Type 0} (known_files : Option Disk) (most : ℕ) (plan : Plan A) (made : List Attempt) (spent : ℕ) (result : Result A Ending)
    → KeepsWithin most plan → Walks known_files plan made spent result → SpendsWithin most made spent result
walks_within known_files most plan made spent result k ends = omega arith
walks_within known_files most plan made spent result k ends_refused = omega arith
walks_within known_files most plan made spent result k ends_without_memory = omega arith
walks_within known_files most plan made spent result k fetches_without_memory = omega (arith, k.0)
walks_within known_files most plan made spent result k fails = omega (arith, k.0)
walks_within known_files most plan made spent result k (finds_too_long h) = omega (arith, k.0)
walks_within known_files most plan made spent result k (goes_on {name = name} {limit = limit} {behind = behind} {made = rest} {spent = cost} bytes h l walk) =
    spends_more most limit (record { name = name; failed = false }) rest cost result k.0
    (walks_within known_files most (behind bytes) rest cost result (k.1 bytes) walk)
