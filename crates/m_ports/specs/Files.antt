-- The attempts that a fetch adds, and the files' contents, where they are known.
use Rattle.std.specs.Prelude.{◌≡◌, ◌⊎◌, ℕ, ◌+◌, ◌<◌, true, false, if◌then◌else◌, List, [], ◌∷◌, length, Option, None, Some, IfSome, IsSomeAnd, Result, Ok, Err}
use Rattle.m_ports.specs.declared.files.Attempt.{Attempt}
use Rattle.m_ports.specs.declared.files.FetchFault.{FetchFault}
use Rattle.m_ports.specs.declared.files.FetchFault.TheVariants.{Failed, TooLong, Memory}

-- The attempt of a fetch of this name with this result: a failed one at `Failed`, a successful one
-- at `Ok` and at `TooLong`, and none if memory ran out.
abbrev pub attempt_of : {T : Type 0} → List ℕ → Result T FetchFault → List Attempt
attempt_of name (Ok bytes) = record { name = name; failed = false } ∷ []
attempt_of name (Err Failed) = record { name = name; failed = true } ∷ []
attempt_of name (Err TooLong) = record { name = name; failed = false } ∷ []
attempt_of name (Err Memory) = []

-- the number of failed attempts, which is the count of faults of files
abbrev pub failed_count : List Attempt → ℕ
failed_count [] = 0
failed_count (attempt ∷ attempts) = (if attempt.failed then 1 else 0) + failed_count attempts

-- if the files' contents are known, this name has these bytes
abbrev pub Holds : Option (List ℕ → Option (List ℕ)) → List ℕ → List ℕ → Type 0
Holds known_files name bytes = IfSome known_files (λ files. files name ≡ Some bytes)

-- if the files' contents are known, this name has more bytes than the limit
abbrev pub HoldsMoreThan : ℕ → Option (List ℕ → Option (List ℕ)) → List ℕ → Type 0
HoldsMoreThan limit known_files name = IfSome known_files (λ files. IsSomeAnd (files name) (λ bytes. limit < length bytes))

-- the files' contents are known, and no file has this name
abbrev pub IsMissing : Option (List ℕ → Option (List ℕ)) → List ℕ → Type 0
IsMissing known_files name = IsSomeAnd known_files (λ files. files name ≡ None)

-- the fetch failed, or memory ran out
abbrev pub IsRefused : {T : Type 0} → Result T FetchFault → Type 0
IsRefused result = (result ≡ Err Failed) ⊎ (result ≡ Err Memory)
