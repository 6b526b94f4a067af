-- The replies of a session to lines, and their effects.
use Rattle.std.specs.Prelude.{◌≢◌, ℕ, ◌==◌, List, [], ◌∷◌, ◌++◌, codes, Option, None, Result, Ok, Err, if◌then◌else◌}
use Rattle.std.specs.List.{AllByRecursion}
use Rattle.m_text.specs.Bytes.{line_feed}
use Rattle.m_text.specs.Lines.{onto_first}
use Rattle.m_fixed.specs.declared.amount.Value.{Value}
use Rattle.m_names.specs.Names.{index_of}
use Rattle.observables.specs.declared.inputs.Coded.{Coded}
use Rattle.observables.specs.Inputs.{codes_of}
use Rattle.household_session.specs.declared.fault.EditFault.{EditFault}
use Rattle.household_session.specs.declared.fault.EditFault.TheVariants.{UnknownCode, BadAmount, NotOfType}
use Rattle.household_session.specs.Sessions.{Showing, Sitting, answered, clear_of, line, set_of, showing_of, shown, values_edited}
use Rattle.household_session.specs.Commands.{SessionCommand, no_words, sets, clears, shows, too_long, bad, session_command}

-- ---- one line

-- the reply to the result of an edit
abbrev pub answer_reply : Result (Unit {0}) EditFault → List ℕ
answer_reply (Ok none) = line (codes "ok")
answer_reply (Err UnknownCode) = line (codes "refused unknown code")
answer_reply (Err BadAmount) = line (codes "refused bad amount")
answer_reply (Err NotOfType) = line (codes "refused not of its type")

-- the reply to a command, for these values of the inputs
abbrev pub command_reply : Showing → List Value → SessionCommand → List ℕ
command_reply showing values no_words = []
command_reply showing values (sets code amount) = answer_reply (answered (set_of showing.inputs code amount))
command_reply showing values (clears code) = answer_reply (answered (clear_of showing.inputs code))
command_reply showing values shows = shown showing values
command_reply showing values too_long = line (codes "refused line too long")
command_reply showing values bad = line (codes "refused bad command")

-- the values after a command
abbrev pub command_values : Showing → List Value → SessionCommand → List Value
command_values showing values (sets code amount) = values_edited values (set_of showing.inputs code amount)
command_values showing values (clears code) = values_edited values (clear_of showing.inputs code)
command_values showing values _ = values

-- The number of the input that a command sets or clears, if there is one, even if the edit is
-- rejected. No other input's value changes.
abbrev pub input_named : List Coded → SessionCommand → Option ℕ
input_named inputs no_words = None
input_named inputs (sets code amount) = index_of code (codes_of inputs)
input_named inputs (clears code) = index_of code (codes_of inputs)
input_named inputs shows = None
input_named inputs too_long = None
input_named inputs bad = None

-- The reply to a line without its line feed: to `set 1AJ 5` the line `ok`, if `1AJ` is a code whose
-- type accepts 5.
abbrev pub reply_of : Sitting → List ℕ → List ℕ
reply_of sitting bytes = command_reply (showing_of sitting) sitting.values (session_command bytes)

-- The session after a line.
abbrev pub after_line : Sitting → List ℕ → Sitting
after_line sitting bytes = record sitting { values = command_values (showing_of sitting) sitting.values (session_command bytes) }

-- ---- many lines

-- The lines of an input, without their line feeds. The last line needs none: `show\n\nclear` has
-- the lines `show`, an empty one and `clear`, and an empty input has no line.
abbrev pub input_lines : List ℕ → List (List ℕ)
input_lines [] = []
input_lines (byte ∷ bytes) = if byte == line_feed then [] ∷ input_lines bytes else onto_first byte (input_lines bytes)

-- the lines with a byte put before the first of them, if there is one
abbrev pub onto_ended : ℕ → List (List ℕ) → List (List ℕ)
onto_ended byte [] = []
onto_ended byte (first ∷ lines) = (byte ∷ first) ∷ lines

-- The lines that have their line feed: `show\n\nclear` has `show` and an empty one.
abbrev pub ended_lines : List ℕ → List (List ℕ)
ended_lines [] = []
ended_lines (byte ∷ bytes) = if byte == line_feed then [] ∷ ended_lines bytes else onto_ended byte (ended_lines bytes)

-- bytes without a line feed
abbrev pub IsUnended : List ℕ → Type 0
IsUnended bytes = AllByRecursion (λ byte. byte ≢ line_feed) bytes

-- The replies to lines, in order, each for the values after the lines before it.
abbrev pub lines_replies : Showing → List Value → List (List ℕ) → List ℕ
lines_replies showing values [] = []
lines_replies showing values (first ∷ lines) =
    command_reply showing values (session_command first) ++ lines_replies showing (command_values showing values (session_command first)) lines

-- the replies of a session to lines
abbrev pub replies_to : Sitting → List (List ℕ) → List ℕ
replies_to sitting lines = lines_replies (showing_of sitting) sitting.values lines

-- The replies of a session to a whole input.
abbrev pub replies_of : Sitting → List ℕ → List ℕ
replies_of sitting bytes = replies_to sitting (input_lines bytes)
