-- The file names among the lines of a list.
use Rattle.std.specs.Prelude.{◌==◌, ℕ, List, [], ◌∷◌, length, if◌then◌else◌}

-- the names among the lines after the first: the lines that aren't empty
abbrev pub files_of : List (List ℕ) → List (List ℕ)
files_of [] = []
files_of (line ∷ lines) = if length line == 0 then files_of lines else line ∷ files_of lines
