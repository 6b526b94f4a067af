-- The contents of a list file, and its errors.
use Rattle.std.specs.Prelude.{◌≡◌, ◌+◌, ◌<◌, ◌≤◌, ℕ, List, [], ◌∷◌, ◌++◌, length, Result, MatchResult}
use Rattle.std.specs.List.{AllByRecursion}
use Rattle.std.specs.Str.{IsUtf8}
use Rattle.m_places.specs.declared.limits.TheConstants.{FILE_NAME_BYTES, LIST_FILES}
use Rattle.m_text.specs.Lines.{lines_of}
use Rattle.m_text.specs.Words.{IsWord}
use Rattle.command_plans.specs.declared.listing.Listing.{Listing}
use Rattle.command_plans.specs.declared.list_fault.ListFault.{ListFault}
use Rattle.command_plans.specs.declared.list_fault.ListFault.TheVariants.{BadLine, TooManyFiles, Memory}
use Rattle.command_plans.specs.Files.{files_of}

-- a line after the first: a file name, or empty
abbrev pub IsFileLine : List ℕ → Type 0
IsFileLine line = (length line ≤ FILE_NAME_BYTES) × IsUtf8 line

-- The lines are an application, which is a word of M and may be reserved, and file lines.
pub record AreGood (application : List ℕ) (others lines : List (List ℕ)) : Type 0 where
  pub parts : lines ≡ application ∷ others
  pub word : IsWord application
  pub names : AllByRecursion IsFileLine others

-- The number of the first malformed line, from 1: line 1, where it is missing or no word, or a later one that isn't a
-- file line, after well-formed ones. `iliad\r` is malformed at line 1.
pub data IsFirstBad : List (List ℕ) → ℕ → Type 0 where
  missing : IsFirstBad [] 1
  no_word : {line : List ℕ} {lines : List (List ℕ)} → (IsWord line → ⊥) → IsFirstBad (line ∷ lines) 1
  no_name : {lines : List (List ℕ)} {number : ℕ} (application bad : List ℕ) (good others : List (List ℕ)) → AreGood application good (application ∷ good)
      → (IsFileLine bad → ⊥)
      → lines ≡ application ∷ (good ++ bad ∷ others) → number ≡ 2 + length good → IsFirstBad lines number

-- The listing of a list file: the first line is the application, and the others that aren't empty are the files, at
-- most `LIST_FILES`. `iliad\n\na.m` has the application `iliad` and the file `a.m`.
pub record IsListing (bytes : List ℕ) (listing : Listing) : Type 0 where
  pub others : List (List ℕ)
  pub good : AreGood listing.application others (lines_of bytes)
  pub files : listing.files ≡ files_of others
  pub few : length listing.files ≤ LIST_FILES

-- the lines are well formed, and have more files than the limit
pub record AreTooMany (lines : List (List ℕ)) : Type 0 where
  pub application : List ℕ
  pub others : List (List ℕ)
  pub good : AreGood application others lines
  pub many : LIST_FILES < length (files_of others)

-- the error of a list file: its first malformed line, or where there is none, too many files
abbrev pub IsListFault : List ℕ → ListFault → Type 0
IsListFault bytes (BadLine number) = IsFirstBad (lines_of bytes) number
IsListFault bytes TooManyFiles = AreTooMany (lines_of bytes)
IsListFault bytes Memory = ⊥

-- the reading of a list file: its listing or its error
abbrev pub ReadsAs : List ℕ → Result Listing ListFault → Type 0
ReadsAs bytes read = MatchResult read (IsListing bytes) (IsListFault bytes)
