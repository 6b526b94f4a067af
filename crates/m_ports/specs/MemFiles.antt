-- Fetches from files in memory.
use Rattle.std.specs.Prelude.{◌≡◌, ◌⊎◌, ℕ, ◌+◌, Bool, true, false, if◌then◌else◌, nat_le, bytes_eq, List, length, find, Option, None, Some, Result, Ok, Err}
use Rattle.std.specs.Prelude.{MatchResult, Vec, option_map}
use Rattle.std.specs.declared.alloc.Global.{Global}
use Rattle.m_ports.specs.declared.files.FetchFault.{FetchFault}
use Rattle.m_ports.specs.declared.files.FetchFault.TheVariants.{Failed, TooLong, Memory}

-- the bytes of the first file of this name
abbrev pub content_of : List (List ℕ × Vec ℕ Global) → List ℕ → Option (List ℕ)
content_of files name = option_map (λ file. file.1.items) (find (λ file. bytes_eq file.0 name) files)

-- The result of a fetch of a name with these bytes, if any; the first argument makes it fail.
abbrev pub fetched : Bool → Option (List ℕ) → ℕ → Result (List ℕ) FetchFault
fetched true content limit = Err Failed
fetched false None limit = Err Failed
fetched false (Some bytes) limit = if nat_le (length bytes) limit then Ok bytes else Err TooLong

-- the call returned this result, or memory ran out
abbrev pub Answers : Result (Vec ℕ Global) FetchFault → Result (List ℕ) FetchFault → Type 0
Answers result answer = MatchResult result (λ bytes. answer ≡ Ok bytes.items) (λ fault. (fault ≡ Memory) ⊎ (answer ≡ Err fault))

-- the number of bytes that a fetch with this result took: of a file that is too long, one more than
-- the limit
abbrev pub bytes_taken : Result (Vec ℕ Global) FetchFault → ℕ → ℕ
bytes_taken (Ok bytes) limit = length bytes.items
bytes_taken (Err Failed) limit = 0
bytes_taken (Err TooLong) limit = limit + 1
bytes_taken (Err Memory) limit = 0
