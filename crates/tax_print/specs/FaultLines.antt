-- The lines that report an error, with their line feed: their forms, and those that several crates cite. The words of the
-- others are in the crate that finds the error.
use Rattle.std.specs.Prelude.{ℕ, List, [], ◌∷◌, ◌++◌, codes, decimal}
use Rattle.m_text.specs.Pieces.{new_line, joined}
use Rattle.m_places.specs.declared.place.Place.{Place}
use Rattle.tax_print.specs.declared.fault.Fault.{Fault}
use Rattle.tax_print.specs.declared.fault.Fault.TheVariants.{Words, OfName, OfNames, OfNumber, InInput, AtLine, AtLineName, AtPlace, AtPlaceName}

-- each name after a space: `f` and `g` are the text ` f g`
abbrev pub names_text : List (List ℕ) → List ℕ
names_text [] = []
names_text (name ∷ names) = 32 ∷ name ++ names_text names

-- words alone: `refused too many files`
abbrev pub words_line : List ℕ → List ℕ
words_line words = words ++ new_line

-- an error of a whole input: `refused household: bad header`
abbrev pub input_line : (input words : List ℕ) → List ℕ
input_line input words = joined (codes "refused " ∷ input ∷ codes ": " ∷ words ∷ new_line ∷ [])

-- an error in a line of an input: `refused driver line 3: syntax`
abbrev pub at_line : (input : List ℕ) → ℕ → (words : List ℕ) → List ℕ
at_line input line words = joined (codes "refused " ∷ input ∷ codes " line " ∷ decimal line ∷ codes ": " ∷ words ∷ new_line ∷ [])

-- an error at a place in a rule file: `refused a.m line 1 byte 43: open string`
abbrev pub at_place : (file : List ℕ) → Place → (words : List ℕ) → List ℕ
at_place file place words =
    joined (codes "refused " ∷ file ∷ codes " line " ∷ decimal place.line ∷ codes " byte " ∷ decimal place.byte ∷ codes ": " ∷ words ∷ new_line ∷ [])

-- The line of an error.
abbrev pub fault_line : Fault → List ℕ
fault_line (Words words) = words_line words.now
fault_line (OfName words name) = words_line (words.now ++ name.now)
fault_line (OfNames words names) = words_line (words.now ++ names_text names.now)
fault_line (OfNumber words number) = words_line (words.now ++ decimal number)
fault_line (InInput input words) = input_line input.now words.now
fault_line (AtLine input line words) = at_line input.now line words.now
fault_line (AtLineName input line words name) = at_line input.now line (words.now ++ name.now)
fault_line (AtPlace file place words) = at_place file.now place words.now
fault_line (AtPlaceName file place words name) = at_place file.now place (words.now ++ name.now)

-- ---- lines that several crates cite

abbrev pub usage_line : List ℕ
usage_line = words_line (codes "usage: m_tax run|serve LIST DRIVER REQUESTS HOUSEHOLD, batch LIST DRIVER REQUESTS TABLE, compile LIST DRIVER REQUESTS, exec CODEFILE HOUSEHOLD, large N, check LIST HOUSEHOLD REPORT, lint LIST DRIVER REQUESTS, cases LIST DRIVER REQUESTS TABLE")

abbrev pub list_line : ℕ → List ℕ
list_line line = words_line (codes "refused list line " ++ decimal line)

abbrev pub too_many_files_line : List ℕ
too_many_files_line = words_line (codes "refused too many files")

abbrev pub too_long_line : List ℕ → List ℕ
too_long_line name = words_line (codes "refused file too long " ++ name)

abbrev pub cycle_line : List (List ℕ) → List ℕ
cycle_line names = words_line (codes "refused cycle" ++ names_text names)

abbrev pub recursion_line : List (List ℕ) → List ℕ
recursion_line names = words_line (codes "refused driver recursion" ++ names_text names)

abbrev pub input_too_long_line : List ℕ
input_too_long_line = words_line (codes "refused input too long")

abbrev pub unreadable_line : List ℕ → List ℕ
unreadable_line name = words_line (codes "unreadable " ++ name)

abbrev pub unreadable_input_line : List ℕ
unreadable_input_line = words_line (codes "unreadable input")
