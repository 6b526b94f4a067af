-- The replies of a session that also explains why a variable has its value.
use Rattle.std.specs.Prelude.{ℕ, nat_le, List, [], ◌∷◌, ◌++◌, length, codes, Option, None, Some, if◌then◌else◌}
use Rattle.std.specs.Option.{option_map_or}
use Rattle.std.specs.Str.{bytes_eq}
use Rattle.m_places.specs.declared.limits.TheConstants.{SESSION_LINE_BYTES}
use Rattle.m_fixed.specs.declared.amount.Value.{Value}
use Rattle.m_text.specs.Lines.{without_return}
use Rattle.household_session.specs.Commands.{line_words, session_command}
use Rattle.household_session.specs.Replies.{command_reply, command_values}
use Rattle.household_session.specs.Sessions.{Showing, line}
use Rattle.m_symbols.specs.Declarations.{Declared}
use Rattle.m_symbols.specs.Cells.{request_cell}
use Rattle.why_report.specs.Reports.{report_text}
use Rattle.why_report.specs.declared.line.ReportLine.{ReportLine}

-- ---- lines with why

-- the name after the word `why`, where the line has these two words only
abbrev pub why_words : List (List ℕ) → Option (List ℕ)
why_words (word ∷ name ∷ []) = if bytes_eq word (codes "why") then Some name else None
why_words _ = None

-- The name in a `why` line without its line feed: `why IRN` has the name `IRN`. A line over the length limit has none.
abbrev pub why_name : List ℕ → Option (List ℕ)
why_name bytes = if nat_le (length bytes) SESSION_LINE_BYTES then why_words (line_words (without_return bytes)) else None

-- ---- replies

-- the explanation of a name, as a function of the inputs' values
abbrev pub Explaining : Type 0
Explaining = List Value → List ℕ → List ℕ

-- the reply to a line: the explanation of its name if it is a `why` line, else the session's reply
abbrev pub explained_reply : Showing → Explaining → List Value → List ℕ → List ℕ
explained_reply showing explains values bytes = option_map_or (explains values) (why_name bytes) (command_reply showing values (session_command bytes))

-- the values after a line; `why` changes none
abbrev pub explained_values : Showing → List Value → List ℕ → List Value
explained_values showing values bytes = option_map_or (λ name. values) (why_name bytes) (command_values showing values (session_command bytes))

-- The replies to lines, in order, each for the values that the lines before it leave.
abbrev pub explained_replies : Showing → Explaining → List Value → List (List ℕ) → List ℕ
explained_replies showing explains values [] = []
explained_replies showing explains values (first ∷ lines) =
    explained_reply showing explains values first ++ explained_replies showing explains (explained_values showing values first) lines

-- ---- the explanation of a name

-- the lines of a derivation, and then a line with a point
abbrev pub report_lines_of : Declared → List ReportLine → List ℕ
report_lines_of declared lines = report_text declared lines ++ line (codes ".")

-- The explanation of a name: the lines of its cell and a line with a point, or an error where no variable that can be
-- requested has this name.
abbrev pub explanation : Declared → (ℕ → List ReportLine) → List ℕ → List ℕ
explanation declared lines name = option_map_or (λ c. report_lines_of declared (lines c)) (request_cell declared name) (line (codes "refused unknown variable"))
