-- The effect of a session's loop, by how it ended.
use Rattle.std.specs.Prelude.{◌≡◌, ◌⊎◌, ℕ, ◌+◌, ◌<◌, ◌≤◌, List, length, Option}
use Rattle.std.specs.Io.KnownBytes.{prepend_known, append_known, IsAtEnd}
use Rattle.m_places.specs.declared.limits.TheConstants.{INPUT_BYTES}
use Rattle.m_ports.specs.Counts.{Rose}
use Rattle.m_ports.specs.Sink.{AppendsPrefix}
use Rattle.household_session.specs.Repliers.{Replied, Replying, over_ended, over_whole}
use Rattle.household_session.specs.declared.turns.ServeEnd.{ServeEnd}
use Rattle.household_session.specs.declared.turns.ServeEnd.TheVariants.{Done, ReadFault, WriteFault, TooLong}

-- These bytes were read from an input, these replies were written, and the steps were taken that
-- they cost. An input or output with unknown contents keeps them unknown.
pub record Takes (left_old left_new written_old written_new : Option (List ℕ)) (steps_old steps_new : ℕ) (taken : List ℕ) (replies : Replied) : Type 0 where
  pub moved : left_old ≡ prepend_known taken left_new
  pub appended : written_new ≡ append_known written_old replies.text
  pub counted : steps_new ≡ steps_old + replies.cost

-- A prefix of these replies was written, and at most the steps were taken that they cost.
abbrev pub BreaksWithin : (written_old written_new : Option (List ℕ)) (steps_old steps_new : ℕ) → Replied → Type 0
BreaksWithin written_old written_new steps_old steps_new replies = AppendsPrefix written_old written_new replies.text × (steps_new ≤ steps_old + replies.cost)

-- A write failed after these bytes were read. A prefix was written of the replies to the lines
-- among them that have their line feed; or, if the input ended below the limit, of the replies to
-- all of its lines.
abbrev pub BreaksIn : (left_new written_old written_new : Option (List ℕ)) (steps_old steps_new : ℕ) → Replying → (taken : List ℕ) → Type 0
BreaksIn left_new written_old written_new steps_old steps_new current taken =
    BreaksWithin written_old written_new steps_old steps_new (over_ended current taken)
    ⊎ ((length taken < INPUT_BYTES) × IsAtEnd left_new × BreaksWithin written_old written_new steps_old steps_new (over_whole current taken))

-- The bytes read, the text written and the steps taken, by the initial session and by how the loop
-- ended. `Done`: the replies to all lines of a whole input below the limit, and exactly the steps
-- that these lines cost. `ReadFault`: those to the lines whose line feed was read, below the limit.
-- `TooLong`: the same, at the limit. `WriteFault`: a prefix of such replies, at or below the limit,
-- and at most the steps that their lines cost.
abbrev pub Ends : (left_old left_new written_old written_new : Option (List ℕ)) (steps_old steps_new : ℕ) → Replying → ServeEnd → Type 0
Ends left_old left_new written_old written_new steps_old steps_new current Done =
    ((taken : List ℕ) × (length taken < INPUT_BYTES)
    × Takes left_old left_new written_old written_new steps_old steps_new taken (over_whole current taken)) × IsAtEnd left_new
Ends left_old left_new written_old written_new steps_old steps_new current ReadFault =
    (taken : List ℕ) × (length taken < INPUT_BYTES)
    × Takes left_old left_new written_old written_new steps_old steps_new taken (over_ended current taken)
Ends left_old left_new written_old written_new steps_old steps_new current WriteFault =
    (taken : List ℕ) × (length taken ≤ INPUT_BYTES) × (left_old ≡ prepend_known taken left_new)
    × BreaksIn left_new written_old written_new steps_old steps_new current taken
Ends left_old left_new written_old written_new steps_old steps_new current TooLong =
    (taken : List ℕ) × (length taken ≡ INPUT_BYTES)
    × Takes left_old left_new written_old written_new steps_old steps_new taken (over_ended current taken)

-- The fault counts: that of the input rose if a read failed, that of the output if a write failed,
-- and nothing else changed.
abbrev pub Counts : (read_old read_new write_old write_new : ℕ) → ServeEnd → Type 0
Counts read_old read_new write_old write_new Done = (read_new ≡ read_old) × (write_new ≡ write_old)
Counts read_old read_new write_old write_new ReadFault = Rose read_old read_new × (write_new ≡ write_old)
Counts read_old read_new write_old write_new WriteFault = (read_new ≡ read_old) × Rose write_old write_new
Counts read_old read_new write_old write_new TooLong = (read_new ≡ read_old) × (write_new ≡ write_old)
