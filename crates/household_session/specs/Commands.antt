-- Commands of a session.
use Rattle.std.specs.Prelude.{ℕ, ◌==◌, Bool, false, not, nat_le, List, [], ◌∷◌, length, codes, if◌then◌else◌}
use Rattle.std.specs.Str.{bytes_eq}
use Rattle.m_places.specs.declared.limits.TheConstants.{SESSION_LINE_BYTES}
use Rattle.m_text.specs.Bytes.{space}
use Rattle.m_text.specs.Lines.{onto_first, without_return}

-- whether bytes begin with a word
abbrev pub starts_word : List ℕ → Bool
starts_word [] = false
starts_word (byte ∷ bytes) = not (byte == space)

-- The words of a line, separated by one or more spaces: ` set  1AJ 5 ` has the words `set`, `1AJ`
-- and `5`, and a line of spaces has none.
abbrev pub line_words : List ℕ → List (List ℕ)
line_words [] = []
line_words (byte ∷ bytes) =
    if byte == space then line_words bytes
    else if starts_word bytes then onto_first byte (line_words bytes)
    else (byte ∷ []) ∷ line_words bytes

-- A command.
pub data SessionCommand : Type 0 where
  -- nothing to do: the line has no words
  no_words : SessionCommand
  -- set the input with this code to this amount
  sets : (code amount : List ℕ) → SessionCommand
  -- clear the input with this code
  clears : (code : List ℕ) → SessionCommand
  -- show the answer
  shows : SessionCommand
  -- an error: the line is too long
  too_long : SessionCommand
  -- an error: the words aren't a command
  bad : SessionCommand

-- the command of these words; only `set 1AJ 2500.5`, `clear 1AJ` and `show` are valid
abbrev pub words_command : List (List ℕ) → SessionCommand
words_command [] = no_words
words_command (word ∷ []) = if bytes_eq word (codes "show") then shows else bad
words_command (word ∷ code ∷ []) = if bytes_eq word (codes "clear") then clears code else bad
words_command (word ∷ code ∷ amount ∷ []) = if bytes_eq word (codes "set") then sets code amount else bad
words_command (word ∷ code ∷ amount ∷ another ∷ words) = bad

-- The command of a line without its line feed. A carriage return at the end counts in the length,
-- and is then dropped.
abbrev pub session_command : List ℕ → SessionCommand
session_command bytes = if nat_le (length bytes) SESSION_LINE_BYTES then words_command (line_words (without_return bytes)) else too_long
