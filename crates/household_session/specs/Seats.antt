-- A session with its state at the last show, which determines the cost of the next show and no
-- reply.
use Rattle.std.specs.Prelude.{ℕ, ℤ, ◌+◌, Bool, true, false, List, [], ◌∷◌, length, replicate, slice_set, Result, Ok, Err}
use Rattle.m_fixed.specs.declared.amount.Value.{Value}
use Rattle.m_fixed.specs.declared.amount.Value.TheVariants.{Undef}
use Rattle.observables.specs.declared.face.Face.{Face}
use Rattle.flat_code.specs.declared.program.Flat.{Flat}
use Rattle.flat_code.specs.Touched.{touched}
use Rattle.value_sheet.specs.Held.{Held}
use Rattle.household_session.specs.declared.fault.EditFault.{EditFault}
use Rattle.household_session.specs.Sessions.{Sitting, set_of, clear_of}
use Rattle.household_session.specs.Commands.{SessionCommand, no_words, sets, clears, shows, too_long, bad, session_command}
use Rattle.household_session.specs.Replies.{after_line, replies_to, reply_of}
use Rattle.household_session.specs.Repliers.{Replied, Replying}

-- The values of the inputs at the last show (undefined before the first one), and whether each
-- input was set since then.
pub record Since : Type 0 where
  pub shown : List Value
  pub put : List Bool

-- A session as contracts see it. Replies depend only on the sitting.
pub record Seated : Type 0 where
  pub sitting : Sitting
  pub since : Since

-- the view of a sheet and a face
abbrev pub seated_by : Held → Face → Seated
seated_by held face = record {
  sitting = record { flat = held.flat; face = face; values = held.now };
  since = record { shown = held.settled; put = held.put };
}

-- ---- inputs set since the last show

-- marks the inputs of pairs
abbrev pub noted_pairs : List (ℕ × ℤ) → List Bool → List Bool
noted_pairs [] put = put
noted_pairs (pair ∷ pairs) put = slice_set (noted_pairs pairs put) pair.0 true

-- the state of a session that begins with these pairs of an input and an amount
abbrev pub since_begun : Flat → List (ℕ × ℤ) → Since
since_begun flat pairs = record { shown = replicate flat.inputs Undef; put = noted_pairs pairs (replicate flat.inputs false) }

-- after an edit; a rejected one marks nothing
abbrev pub noted : Since → Result (ℕ × Value) EditFault → Since
noted since (Ok edit) = record since { put = slice_set since.put edit.0 true }
noted since (Err fault) = since

-- after a show
abbrev pub since_shown : Seated → Since
since_shown seated = record { shown = seated.sitting.values; put = replicate (length seated.since.put) false }

-- after a command
abbrev pub since_command : Seated → SessionCommand → Since
since_command seated no_words = seated.since
since_command seated (sets code amount) = noted seated.since (set_of seated.sitting.face.inputs code amount)
since_command seated (clears code) = noted seated.since (clear_of seated.sitting.face.inputs code)
since_command seated shows = since_shown seated
since_command seated too_long = seated.since
since_command seated bad = seated.since

-- after a line
abbrev pub since_line : Seated → List ℕ → Since
since_line seated bytes = since_command seated (session_command bytes)

-- ---- costs

-- The number of nodes that a show evaluates: those affected by the differences between the inputs
-- at the last show and the current ones.
abbrev pub show_cost : Seated → ℕ
show_cost seated = touched seated.sitting.flat.nodes seated.since.put seated.since.shown seated.sitting.values

-- the number of nodes that a command evaluates
abbrev pub command_cost : Seated → SessionCommand → ℕ
command_cost seated no_words = 0
command_cost seated (sets code amount) = 0
command_cost seated (clears code) = 0
command_cost seated shows = show_cost seated
command_cost seated too_long = 0
command_cost seated bad = 0

-- the number of nodes that a line evaluates
abbrev pub line_cost : Seated → List ℕ → ℕ
line_cost seated bytes = command_cost seated (session_command bytes)

-- ---- lines

-- the reply to a line, and its cost
abbrev pub seated_reply : Seated → List ℕ → Replied
seated_reply seated bytes = record { text = reply_of seated.sitting bytes; cost = line_cost seated bytes }

-- the session after a line
abbrev pub seated_after : Seated → List ℕ → Seated
seated_after seated bytes = record { sitting = after_line seated.sitting bytes; since = since_line seated bytes }

-- The number of nodes that lines evaluate, in order, each from the session after the lines before
-- it.
abbrev pub lines_cost : Seated → List (List ℕ) → ℕ
lines_cost seated [] = 0
lines_cost seated (first ∷ lines) = line_cost seated first + lines_cost (seated_after seated first) lines

-- the replies of a session to lines, and their cost
abbrev pub seated_replies : Seated → Replying
seated_replies seated lines = record { text = replies_to seated.sitting lines; cost = lines_cost seated lines }
