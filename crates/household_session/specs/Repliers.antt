-- Repliers, whatever their commands.
use Rattle.std.specs.Prelude.{◌≡◌, ℕ, ◌+◌, ◌<◌, List, [], ◌∷◌, ◌++◌, length, Option, Result}
use Rattle.m_places.specs.declared.limits.TheConstants.{SESSION_LINE_BYTES}
use Rattle.m_ports.specs.Giving.{Gives}
use Rattle.household_session.specs.Replies.{ended_lines, input_lines}

-- The replies to lines, concatenated, and the number of steps that the lines cost.
pub record Replied : Type 0 where
  pub text : List ℕ
  pub cost : ℕ

-- of no lines
abbrev pub none_replied : Replied
none_replied = record { text = []; cost = 0 }

-- of some lines, and then of further ones
abbrev pub replied_then : Replied → Replied → Replied
replied_then first more = record { text = first.text ++ more.text; cost = first.cost + more.cost }

-- the replies to lines and their cost, in a state of a replier
abbrev pub Replying : Type 0
Replying = List (List ℕ) → Replied

-- of all lines of an input
abbrev pub over_whole : Replying → List ℕ → Replied
over_whole current bytes = current (input_lines bytes)

-- of the lines of an input that have their line feed
abbrev pub over_ended : Replying → List ℕ → Replied
over_ended current bytes = current (ended_lines bytes)

-- the replies to all lines of an input
abbrev pub whole_of : Replying → List ℕ → List ℕ
whole_of current bytes = (over_whole current bytes).text

-- the replies to the lines of an input that have their line feed
abbrev pub ended_of : Replying → List ℕ → List ℕ
ended_of current bytes = (over_ended current bytes).text

-- The reply to a line over the limit, and its cost, don't depend on its bytes.
abbrev pub AreLongAlike : Replying → Type 0
AreLongAlike current = (one other : List ℕ) (lines : List (List ℕ)) → SESSION_LINE_BYTES < length one → SESSION_LINE_BYTES < length other
    → current (one ∷ lines) ≡ current (other ∷ lines)

-- A line was replied to: its reply was written, or a prefix of it if a write failed, and in both
-- cases the steps were taken that the line costs. The replies to this and further lines are this
-- reply, followed by those from the state after it; their costs add up.
pub record RepliesTo {S T E : Type 0} (written : S → Option (List ℕ)) (faults : S → ℕ) (old new : S) (steps_old steps_new : ℕ) (result : Result T E)
    (before after : Replying) (line : List ℕ) : Type 0 where
  pub reply : Replied
  pub gives : Gives written faults old new result reply.text
  pub counted : steps_new ≡ steps_old + reply.cost
  pub goes_on : (lines : List (List ℕ)) → before (line ∷ lines) ≡ replied_then reply (after lines)
