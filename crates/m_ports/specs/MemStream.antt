-- An input or an output in memory, as contracts see it.
use Rattle.std.specs.Prelude.{ℕ, List, ◌++◌, take, drop}
use Rattle.m_ports.specs.Counts.{counted_up}

-- A stream in memory: its bytes (those left of an input, or those written to an output), the most
-- bytes that a call moves, the numbers of the calls that fail, and the counts of calls and of
-- failed calls.
pub record MemStream : Type 0 where
  pub bytes : List ℕ
  pub piece : ℕ
  pub failing : List ℕ
  pub calls : ℕ
  pub faults : ℕ

-- the stream before its first call
abbrev pub new_stream : List ℕ → ℕ → List ℕ → MemStream
new_stream bytes piece failing = record { bytes = bytes; piece = piece; failing = failing; calls = 0; faults = 0 }

-- the stream after a failed call
abbrev pub after_fault : MemStream → MemStream
after_fault stream = record stream { calls = counted_up stream.calls; faults = counted_up stream.faults }

-- the input after a call that moved its first n bytes
abbrev pub after_take : MemStream → ℕ → MemStream
after_take stream n = record stream { bytes = drop n stream.bytes; calls = counted_up stream.calls }

-- the output after a call that appended the first n bytes of a piece
abbrev pub after_give : MemStream → List ℕ → ℕ → MemStream
after_give stream piece n = record stream { bytes = stream.bytes ++ take n piece; calls = counted_up stream.calls }
