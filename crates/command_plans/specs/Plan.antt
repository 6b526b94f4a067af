-- A command as a plan: which files it requests, one after another, and where it rejects them.
use Rattle.std.specs.Prelude.{ℕ, Bool, true, false, List, [], ◌∷◌, length, Option, Some, None, if◌then◌else◌, nat_le}
use Rattle.command_plans.specs.Views.{Disk}
use Rattle.tax_print.specs.FaultLines.{too_long_line}

-- A plan is done with what it gathered, or rejects with an error line, or requests a file by its name, of at most
-- `limit` bytes, and continues with the file's bytes.
pub data Plan (Gathered : Type 0) : Type 0 where
  done : Gathered → Plan Gathered
  refuses : (line : List ℕ) → Plan Gathered
  fetches : (name : List ℕ) (limit : ℕ) (behind : List ℕ → Plan Gathered) → Plan Gathered

-- whether a plan requests a file
abbrev pub requests_file : {Gathered : Type 0} → Plan Gathered → Bool
requests_file (done all) = false
requests_file (refuses line) = false
requests_file (fetches name limit behind) = true

-- the plan that requests one file and gives its bytes
abbrev pub file_plan : List ℕ → ℕ → Plan (List ℕ)
file_plan name limit = fetches name limit done

-- a plan and then another, which depends on what the first gathered
abbrev pub and_then : {A B : Type 0} → Plan A → (A → Plan B) → Plan B
and_then (done gathered) next = next gathered
and_then (refuses line) next = refuses line
and_then (fetches name limit behind) next = fetches name limit (λ bytes. and_then (behind bytes) next)

-- the result of a plan over the files of a disk: all was gathered, or an error line, or a file is missing
pub data End (Gathered : Type 0) : Type 0 where
  gathered : Gathered → End Gathered
  refused : (line : List ℕ) → End Gathered
  missing : (name : List ℕ) → End Gathered

-- the result of a request, where the file has these bytes or is missing
abbrev pub fetched_end : {Gathered : Type 0} → List ℕ → ℕ → (List ℕ → End Gathered) → Option (List ℕ) → End Gathered
fetched_end name limit behind None = missing name
fetched_end name limit behind (Some bytes) = if nat_le (length bytes) limit then behind bytes else refused (too_long_line name)

-- The result of a plan. The plan that requests `a.m` of at most 3 bytes and gives them has the result `gathered "abc"`
-- where the file has these bytes, `refused "refused file too long a.m"` where it has four, and `missing "a.m"` where
-- there is none.
abbrev pub end_of : {Gathered : Type 0} → Disk → Plan Gathered → End Gathered
end_of disk (done all) = gathered all
end_of disk (refuses line) = refused line
end_of disk (fetches name limit behind) = fetched_end name limit (λ bytes. end_of disk (behind bytes)) (disk name)

-- the names fetched after a file that has these bytes or is missing: none where it is missing or too long
abbrev pub names_behind : ℕ → (List ℕ → List (List ℕ)) → Option (List ℕ) → List (List ℕ)
names_behind limit behind None = []
names_behind limit behind (Some bytes) = if nat_le (length bytes) limit then behind bytes else []

-- the fetched names, in order, up to the first that is missing or too long
abbrev pub names_fetched : {Gathered : Type 0} → Disk → Plan Gathered → List (List ℕ)
names_fetched disk (done all) = []
names_fetched disk (refuses line) = []
names_fetched disk (fetches name limit behind) = name ∷ names_behind limit (λ bytes. names_fetched disk (behind bytes)) (disk name)
