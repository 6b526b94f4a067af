-- Membership in a list of cells, as one Bool per cell.
use Rattle.std.specs.Prelude.{◌≡◌, ℕ, ◌<◌, List, Bool, false, length, get_or}
use Rattle.micro_m.specs.Bases.{is_among}

-- For each cell below their count, whether it is in the list: `false true true` marks the lists 2,
-- 1 and 1, 1, 2.
pub record Marks (marked : List Bool) (cells : List ℕ) : Type 0 where
  pub each : (cell : ℕ) → cell < length marked → get_or marked cell false ≡ is_among cell cells
