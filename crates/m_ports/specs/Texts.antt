-- Texts of a fixed capacity in memory.
use Rattle.std.specs.Prelude.{ℕ, List, []}

-- a text, its capacity, and the count of failed calls
pub record TextIn : Type 0 where
  pub bytes : List ℕ
  pub room : ℕ
  pub faults : ℕ

-- the empty text of this capacity, before any call
abbrev pub no_text_in : ℕ → TextIn
no_text_in n = record { bytes = []; room = n; faults = 0 }
