-- Sums that saturate at the greatest number of 64 bits.
use Rattle.std.specs.Prelude.{ℕ, min}

abbrev pub capped : ℕ → ℕ
capped n = min n 18_446_744_073_709_551_615
