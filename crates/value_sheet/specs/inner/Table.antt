-- Rows stored in one list, with the offset of each.
use Rattle.std.specs.Prelude.{◌≡◌, ℕ, zero, suc, ◌+◌, ◌-◌, ◌<◌, ◌≤◌, List, length, map, slice_index, slice_range}
use Rattle.std.specs.List.{range_with_len}
use Rattle.value_sheet.specs.Edges.{sourced}

abbrev pub row_in : List ℕ → List ℕ → ℕ → List ℕ
row_in offsets targets p = slice_range targets (slice_index offsets p) (slice_index offsets (p + 1))

abbrev pub rows_in : List ℕ → List ℕ → List (List ℕ)
rows_in offsets targets = map (row_in offsets targets) (range_with_len 0 (length offsets - 1))

-- each row is within the list
pub record IsTable (offsets targets : List ℕ) : Type 0 where
  pub ends : (p : ℕ) → p + 1 < length offsets → (slice_index offsets p ≤ slice_index offsets (p + 1)) × (slice_index offsets (p + 1) ≤ length targets)

-- ---- while rows are made

-- the total length of the rows of the sources below a number
abbrev pub so_far : ℕ → ℕ → List ℕ → ℕ → ℕ
so_far per e sources zero = 0
so_far per e sources (suc p) = so_far per e sources p + length (sourced per p e sources)

-- the rows of the sources below p are stored
pub record IsFilled (per : ℕ) (sources : List ℕ) (p : ℕ) (offsets targets : List ℕ) : Type 0 where
  pub so_many : length offsets ≡ p + 1
  pub last : slice_index offsets p ≡ length targets
  pub total : length targets ≡ so_far per 0 sources p
  pub ends : (q : ℕ) → q < p → (slice_index offsets q ≤ slice_index offsets (q + 1)) × (slice_index offsets (q + 1) ≤ length targets)
  pub row : (q : ℕ) → q < p → row_in offsets targets q ≡ sourced per q 0 sources
