-- The lines of a text.
use Rattle.std.specs.Prelude.{ℕ, ◌==◌, Bool, false, ◌&&◌, List, [], ◌∷◌, if◌then◌else◌}
use Rattle.m_text.specs.Bytes.{line_feed, carriage_return}

-- whether a text begins with a line feed
abbrev pub begins_with_feed : List ℕ → Bool
begins_with_feed [] = false
begins_with_feed (byte ∷ bytes) = byte == line_feed

-- the lines with a byte put before the first, or the line of that byte alone
abbrev pub onto_first : ℕ → List (List ℕ) → List (List ℕ)
onto_first byte [] = (byte ∷ []) ∷ []
onto_first byte (line ∷ lines) = (byte ∷ line) ∷ lines

-- The effect of a byte on the lines after it: a line feed terminates an empty line, a carriage
-- return right before a line feed is dropped, and every other byte is put before the first line.
abbrev pub lines_from : ℕ → Bool → List (List ℕ) → List (List ℕ)
lines_from byte before_feed lines =
    if byte == line_feed then [] ∷ lines else if byte == carriage_return && before_feed then lines else onto_first byte lines

-- The lines of a text. An empty text has none, and the last line may lack its line feed: `a\nb` has
-- the lines `a` and `b`, `\n` has one empty line, `a\r\n` has the line `a`, and `a\r` the line
-- `a\r`.
abbrev pub lines_of : List ℕ → List (List ℕ)
lines_of [] = []
lines_of (byte ∷ bytes) = lines_from byte (begins_with_feed bytes) (lines_of bytes)

-- The lines of a text without their line feeds, and otherwise unchanged: `a\r\n` has the line
-- `a\r`.
abbrev pub exact_lines_of : List ℕ → List (List ℕ)
exact_lines_of [] = []
exact_lines_of (byte ∷ bytes) = if byte == line_feed then [] ∷ exact_lines_of bytes else onto_first byte (exact_lines_of bytes)

-- a line without a carriage return at its end
abbrev pub without_return : List ℕ → List ℕ
without_return [] = []
without_return (byte ∷ []) = if byte == carriage_return then [] else byte ∷ []
without_return (byte ∷ next ∷ bytes) = byte ∷ without_return (next ∷ bytes)
