-- The gathered bytes of a buffer, and its written bytes.
use Rattle.std.specs.Prelude.{◌≡◌, ℕ, ◌-◌, ◌==◌, List, [], length, take, drop, Option, Some, None, if◌then◌else◌}
use Rattle.std.specs.Io.KnownBytes.{append_known}

-- the bytes of the buffer that aren't given yet, of `filled` bytes of which `given` were given
abbrev pub gathered : ℕ → ℕ → List ℕ → List ℕ
gathered given filled room = drop given (take filled room)

-- the bytes given, followed by those gathered
abbrev pub with_gathered : Option (List ℕ) → ℕ → ℕ → List ℕ → Option (List ℕ)
with_gathered written given filled room = append_known written (gathered given filled room)

-- the number of bytes that a buffer accepts next; a full one is emptied first
abbrev pub free_place : ℕ → ℕ → ℕ
free_place filled size = if filled == size then size else (size - filled)

-- the bytes written since
abbrev pub part_since : Option (List ℕ) → Option (List ℕ) → List ℕ
part_since (Some before) (Some now) = drop (length before) now
part_since (Some before) None = []
part_since None now = []

-- What was written before is a prefix of what is written now; unknown stays unknown.
abbrev pub Extends : Option (List ℕ) → Option (List ℕ) → Type 0
Extends before now = now ≡ append_known before (part_since before now)
