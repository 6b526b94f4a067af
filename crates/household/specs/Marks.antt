-- Sets of numbers, as lists of Bools.
use Rattle.std.specs.Prelude.{◌≡◌, ℕ, ◌<◌, List, Bool, false, length, get_or}
use Rattle.household.specs.Household.{is_input_among}

-- The Bools mark the numbers below their count that are in a list: `false true true` marks 1 and 2,
-- as for the list 1, 1, 2.
pub record Marks (marked : List Bool) (numbers : List ℕ) : Type 0 where
  pub each : (number : ℕ) → number < length marked → get_or marked number false ≡ is_input_among number numbers
