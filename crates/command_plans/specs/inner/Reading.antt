-- The reader of a list file, as functions on its lines.
use Rattle.std.specs.Prelude.{ℕ, ◌+◌, ◌==◌, ◌||◌, ◌&&◌, Bool, not, nat_le, List, [], ◌∷◌, length, Option, Some, None, Result, Ok, Err, if◌then◌else◌}
use Rattle.std.specs.List.{list_all}
use Rattle.std.specs.Str.{is_utf8}
use Rattle.m_places.specs.declared.limits.TheConstants.{FILE_NAME_BYTES, LIST_FILES}
use Rattle.m_text.specs.Bytes.{is_digit}
use Rattle.m_text.specs.Lines.{lines_of}
use Rattle.command_plans.specs.declared.listing.Listing.{Listing}
use Rattle.command_plans.specs.declared.list_fault.ListFault.{ListFault}
use Rattle.command_plans.specs.declared.list_fault.ListFault.TheVariants.{BadLine, TooManyFiles}
use Rattle.command_plans.specs.Files.{files_of}

-- whether a byte is a letter, a digit or `_`
abbrev pub is_word_byte : ℕ → Bool
is_word_byte byte = (nat_le 65 byte && nat_le byte 90) || ((nat_le 97 byte && nat_le byte 122) || (is_digit byte || byte == 95))

-- whether a text is a word of M
abbrev pub is_word : List ℕ → Bool
is_word text = list_all is_word_byte text && not (list_all is_digit text)

-- whether a line after the first is a file name, or empty
abbrev pub is_file_line : List ℕ → Bool
is_file_line line = nat_le (length line) FILE_NAME_BYTES && is_utf8 line

-- the number of the first malformed line, where the first of these lines has this number
abbrev pub first_bad_from : ℕ → List (List ℕ) → Option ℕ
first_bad_from number [] = None
first_bad_from number (line ∷ lines) = if is_file_line line then first_bad_from (number + 1) lines else Some number

-- a listing, or the error of too many files
abbrev pub listed : List ℕ → List (List ℕ) → Result Listing ListFault
listed application files = if nat_le (length files) LIST_FILES then Ok (record { application = application; files = files }) else Err TooManyFiles

-- the reading of the lines after the first, given their first malformed line
abbrev pub files_read : List ℕ → List (List ℕ) → Option ℕ → Result Listing ListFault
files_read application lines (Some number) = Err (BadLine number)
files_read application lines None = listed application (files_of lines)

-- the reading of the lines: the first is the application, the others are files
abbrev pub lines_read : List (List ℕ) → Result Listing ListFault
lines_read [] = Err (BadLine 1)
lines_read (application ∷ lines) = if is_word application then files_read application lines (first_bad_from 2 lines) else Err (BadLine 1)

-- the listing of a list file, or its error
abbrev pub list_of : List ℕ → Result Listing ListFault
list_of bytes = lines_read (lines_of bytes)
