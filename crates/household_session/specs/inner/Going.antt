-- Invariants of the loop.
use Rattle.std.specs.Prelude.{◌≡◌, ◌⊎◌, ℕ, ◌+◌, ◌<◌, ◌≤◌, List, ◌++◌, length, take, Option, Result, Ok, Err}
use Rattle.std.specs.Io.KnownBytes.{prepend_known, append_known, IsAtEnd}
use Rattle.m_ports.specs.Counts.{Rose}
use Rattle.household_session.specs.Replies.{IsUnended}
use Rattle.household_session.specs.Repliers.{Replied, Replying, over_ended, over_whole, replied_then}
use Rattle.household_session.specs.Serving.{BreaksWithin}
use Rattle.household_session.specs.declared.pieces.TheConstants.{MOST_HELD}
use Rattle.household_session.specs.declared.turns.ServeEnd.{ServeEnd}
use Rattle.household_session.specs.declared.turns.ServeEnd.TheVariants.{Done, ReadFault, WriteFault, TooLong}

-- These replies were written without a fault, and exactly the steps were taken that they cost.
pub record Gave {K : Type 0} (written : K → Option (List ℕ)) (faults : K → ℕ) (old now : K) (steps_old steps_now : ℕ) (replies : Replied) : Type 0 where
  pub appended : written now ≡ append_known (written old) replies.text
  pub faultless : faults now ≡ faults old
  pub counted : steps_now ≡ steps_old + replies.cost

-- Some replies were given. Whatever the input's further bytes, the initial session's replies to all
-- bytes are these, followed by the current session's replies to the bytes left; the same holds for
-- the lines that have their line feed.
pub record Goes {K : Type 0} (written : K → Option (List ℕ)) (faults : K → ℕ) (old now : K) (steps_old steps_now : ℕ) (start current : Replying)
    (before left : List ℕ) : Type 0 where
  pub replies : Replied
  pub whole : (rest : List ℕ) → over_whole start (before ++ rest) ≡ replied_then replies (over_whole current (left ++ rest))
  pub ended : (rest : List ℕ) → over_ended start (before ++ rest) ≡ replied_then replies (over_ended current (left ++ rest))
  pub gave : Gave written faults old now steps_old steps_now replies

-- A write failed among these replies.
pub record BreaksOff {K : Type 0} (written : K → Option (List ℕ)) (faults : K → ℕ) (old now : K) (steps_old steps_now : ℕ) (replies : Replied) : Type 0 where
  pub rose : Rose (faults old) (faults now)
  pub within : BreaksWithin (written old) (written now) steps_old steps_now replies

-- the last line, without its line feed, was replied to, or its write failed
abbrev pub Finished : {K : Type 0} (written : K → Option (List ℕ)) (faults : K → ℕ) (old now : K) (steps_old steps_now : ℕ) (start : Replying)
    (held : List ℕ) → ServeEnd → Type 0
Finished written faults old now steps_old steps_now start held Done = Gave written faults old now steps_old steps_now (over_whole start held)
Finished written faults old now steps_old steps_now start held WriteFault = BreaksOff written faults old now steps_old steps_now (over_whole start held)
Finished written faults old now steps_old steps_now start held ReadFault = ⊥
Finished written faults old now steps_old steps_now start held TooLong = ⊥

-- A piece was read, and the lines that it completes were replied to.
pub record Took {S K : Type 0} (left : S → Option (List ℕ)) (source_faults : S → ℕ) (written : K → Option (List ℕ)) (faults : K → ℕ)
    (source_old source_now : S) (old now : K) (steps_old steps_now : ℕ) (start current : Replying) (held kept : List ℕ) (most count : ℕ) : Type 0 where
  pub piece : List ℕ
  pub counted : length piece ≡ count
  pub some : 0 < count
  pub few : count ≤ most
  pub moved : left source_old ≡ prepend_known piece (left source_now)
  pub calm : source_faults source_now ≡ source_faults source_old
  pub goes : Goes written faults old now steps_old steps_now start current (held ++ piece) kept
  pub unended : IsUnended kept

-- The turn ended the loop: the input ended or a read failed, and nothing was read; or a write
-- failed, after at most `most` bytes were read or at the end of the input.
abbrev pub Stopped : {S K : Type 0} (left : S → Option (List ℕ)) (source_faults : S → ℕ) (written : K → Option (List ℕ)) (faults : K → ℕ)
    (source_old source_now : S) (old now : K) (steps_old steps_now : ℕ) (start : Replying) (held : List ℕ) (most : ℕ) → ServeEnd → Type 0
Stopped left source_faults written faults source_old source_now old now steps_old steps_now start held most Done =
    (left source_now ≡ left source_old) × IsAtEnd (left source_now) × (source_faults source_now ≡ source_faults source_old)
    × Finished written faults old now steps_old steps_now start held Done
Stopped left source_faults written faults source_old source_now old now steps_old steps_now start held most ReadFault =
    (left source_now ≡ left source_old) × Rose (source_faults source_old) (source_faults source_now) × (written now ≡ written old) × (faults now ≡ faults old)
    × (steps_now ≡ steps_old)
Stopped left source_faults written faults source_old source_now old now steps_old steps_now start held most WriteFault =
    (source_faults source_now ≡ source_faults source_old)
    × (((piece : List ℕ) × (length piece ≤ most) × (left source_old ≡ prepend_known piece (left source_now))
    × BreaksOff written faults old now steps_old steps_now (over_ended start (held ++ piece)))
    ⊎ ((left source_now ≡ left source_old) × IsAtEnd (left source_now) × BreaksOff written faults old now steps_old steps_now (over_whole start held)))
Stopped left source_faults written faults source_old source_now old now steps_old steps_now start held most TooLong = ⊥

-- the effect of a turn, with this buffer after it
abbrev pub Turned : {S K : Type 0} (left : S → Option (List ℕ)) (source_faults : S → ℕ) (written : K → Option (List ℕ)) (faults : K → ℕ)
    (source_old source_now : S) (old now : K) (steps_old steps_now : ℕ) (start current : Replying) (held room : List ℕ) (most : ℕ)
    → Result (ℕ × ℕ) ServeEnd → Type 0
Turned left source_faults written faults source_old source_now old now steps_old steps_now start current held room most (Ok r) =
    (r.0 ≤ MOST_HELD) × Took left source_faults written faults source_old source_now old now steps_old steps_now start current held (take r.0 room) most r.1
Turned left source_faults written faults source_old source_now old now steps_old steps_now start current held room most (Err end) =
    Stopped left source_faults written faults source_old source_now old now steps_old steps_now start held most end
