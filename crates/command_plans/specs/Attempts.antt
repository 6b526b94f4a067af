-- The attempts of a call to read files.
use Rattle.std.specs.Prelude.{◌≡◌, ℕ, ◌+◌, ◌*◌, ◌≤◌, true, false, List, [], ◌∷◌, ◌++◌, length, map}
use Rattle.m_ports.specs.declared.files.Attempt.{Attempt}
use Rattle.command_plans.specs.Views.{FilesView}
use Rattle.command_plans.specs.declared.status.Status.{Status}
use Rattle.command_plans.specs.declared.status.Status.TheVariants.{Memory}

-- a list has this prefix
abbrev pub BeginsWith : {A : Type 0} → List A → List A → Type 0
BeginsWith {A} whole part = (rest : List A) × (whole ≡ part ++ rest)

-- the names of the attempted files
abbrev pub names_tried : List Attempt → List (List ℕ)
names_tried attempts = map (λ attempt. attempt.name) attempts

-- none of the attempts failed
abbrev pub NoneFailed : List Attempt → Type 0
NoneFailed [] = Unit {0}
NoneFailed (attempt ∷ attempts) = (attempt.failed ≡ false) × NoneFailed attempts

-- the last attempt, on this name, failed, and none before it did
pub record LastFailed (attempts : List Attempt) (name : List ℕ) : Type 0 where
  pub before : List Attempt
  pub last : attempts ≡ before ++ record { name = name; failed = true } ∷ []
  pub others : NoneFailed before

-- how many bytes these attempts may read, where each file may have `most` bytes: for each file one byte more, which
-- shows that the file is too long
abbrev pub allowance : ℕ → List Attempt → ℕ
allowance most attempts = length attempts * (most + 1)

-- A call reads no more bytes than the allowance of its attempts. A fetch for which there is no memory is no attempt,
-- and may read as many bytes as one.
abbrev pub TakesWithin : ℕ → FilesView → FilesView → Status → Type 0
TakesWithin most before after Memory = after.taken + allowance most before.attempts ≤ before.taken + allowance most after.attempts + (most + 1)
TakesWithin most before after _ = after.taken + allowance most before.attempts ≤ before.taken + allowance most after.attempts
