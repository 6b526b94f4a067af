-- Amounts: whole numbers of millionths, up to a greatest absolute value.
use Rattle.std.specs.Prelude.{ℕ, ℤ, pos, neg_ℤ, ◌≤ℤ◌}

-- one unit, in millionths
abbrev pub unit : ℕ
unit = 1_000_000

-- the greatest absolute value of an amount, in millionths: 10^13 units
abbrev pub most : ℕ
most = 10_000_000_000_000_000_000

-- z millionths are an amount
pub record IsAmount (z : ℤ) : Type 0 where
  pub low : neg_ℤ (pos most) ≤ℤ z
  pub high : z ≤ℤ pos most
