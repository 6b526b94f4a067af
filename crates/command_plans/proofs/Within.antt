-- Plans whose files are within a limit.
use Rattle.std.proofs.Common.{ℕ, ◌≤◌, List, arith}
use Rattle.command_plans.specs.Plan.{Plan, done, refuses, fetches, and_then}

-- no file of a plan may have more bytes than this
abbrev pub KeepsWithin : {Gathered : Type 0} → ℕ → Plan Gathered → Type 0
KeepsWithin most (done all) = Unit {0}
KeepsWithin most (refuses line) = Unit {0}
KeepsWithin most (fetches name limit behind) = (limit ≤ most) × ((bytes : List ℕ) → KeepsWithin most (behind bytes))

-- a plan and then another
pub within_then : {A B : Type 0} (most : ℕ) (plan : Plan A) (next : A → Plan B) → KeepsWithin most plan → ((all : A) → KeepsWithin most (next all))
    → KeepsWithin most (and_then plan next)
within_then most (done all) next k n = n all
within_then most (refuses line) next k n = tt
within_then most (fetches name limit behind) next k n = (k.0, λ bytes. within_then most (behind bytes) next (k.1 bytes) n)

-- a greater limit
pub within_more : {Gathered : Type 0} (few most : ℕ) (plan : Plan Gathered) → few ≤ most → KeepsWithin few plan → KeepsWithin most plan
within_more few most (done all) h k = tt
within_more few most (refuses line) h k = tt
within_more few most (fetches name limit behind) h k = (omega (arith, h, k.0), λ bytes. within_more few most (behind bytes) h (k.1 bytes))
