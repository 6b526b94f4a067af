-- The files of an opener, where their contents are known.
use Rattle.std.specs.Prelude.{◌≡◌, ℕ, List, Option, Some, IfSome, IsSomeAnd, Result, Ok, Err}
use Rattle.m_ports.specs.Counts.{after_failure}
use Rattle.m_ports.specs.declared.files.FetchFault.{FetchFault}
use Rattle.m_ports.specs.declared.files.FetchFault.TheVariants.{Failed, TooLong, Memory}

-- if the files' contents are known, there is a file of this name, and all of its bytes are left to
-- read
abbrev pub Opens : Option (List ℕ → Option (List ℕ)) → List ℕ → Option (List ℕ) → Type 0
Opens known_files name left = IfSome known_files (λ files. IsSomeAnd (files name) (λ content. left ≡ Some content))

-- The count of faults after a fetch with this result: one more if a call of the opener failed,
-- which the error `Failed` reports.
abbrev pub after_fetch : {T : Type 0} → Result T FetchFault → Option ℕ → Option ℕ
after_fetch (Ok bytes) faults = faults
after_fetch (Err Failed) faults = after_failure faults
after_fetch (Err TooLong) faults = faults
after_fetch (Err Memory) faults = faults
