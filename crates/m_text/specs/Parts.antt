-- A text split at the first occurrence of a byte.
use Rattle.std.specs.Prelude.{ℕ, ◌==◌, List, [], ◌∷◌, Option, Some, None, if◌then◌else◌}

-- two parts with a byte put before the first
abbrev pub with_first : ℕ → List ℕ × Option (List ℕ) → List ℕ × Option (List ℕ)
with_first b parts = (b ∷ parts.0, parts.1)

-- The text before the first occurrence of a byte, and the text after it, if it occurs: `T[2]` at
-- `[` is `T` and `2]`, and `IRN` is `IRN` alone.
abbrev pub split_at : ℕ → List ℕ → List ℕ × Option (List ℕ)
split_at byte [] = ([], None)
split_at byte (b ∷ bs) = if b == byte then ([], Some bs) else with_first b (split_at byte bs)
