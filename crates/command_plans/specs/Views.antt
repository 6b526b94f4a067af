-- What contracts observe of files, input and output at one time.
use Rattle.std.specs.Prelude.{ℕ, List, Option}
use Rattle.m_ports.specs.declared.files.Attempt.{Attempt}

-- the bytes of each file, by its name; a missing file has none
abbrev pub Disk : Type 0
Disk = List ℕ → Option (List ℕ)

-- the files: their contents where known, the attempts to read them, and how many bytes were read
pub record FilesView : Type 0 where
  pub known_files : Option Disk
  pub attempts : List Attempt
  pub taken : ℕ

-- the input: the bytes not yet read, where known, and how many reads failed
pub record InputView : Type 0 where
  pub left : Option (List ℕ)
  pub faults : ℕ

-- the output: the bytes written, where known, and how many writes failed
pub record OutputView : Type 0 where
  pub written : Option (List ℕ)
  pub faults : ℕ

-- the view of files, by the ghost members of `Files`
abbrev pub files_view : {F : Type 0} → (F → Option Disk) → (F → List Attempt) → (F → ℕ) → F → FilesView
files_view known_files attempts taken files = record { known_files = known_files files; attempts = attempts files; taken = taken files }

-- the view of an input, by the ghost members of `Source`
abbrev pub input_view : {S : Type 0} → (S → Option (List ℕ)) → (S → ℕ) → S → InputView
input_view left faults input = record { left = left input; faults = faults input }

-- the view of an output, by the ghost members of `Sink`
abbrev pub output_view : {K : Type 0} → (K → Option (List ℕ)) → (K → ℕ) → K → OutputView
output_view written faults out = record { written = written out; faults = faults out }
