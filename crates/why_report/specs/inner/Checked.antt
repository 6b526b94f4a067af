-- The state of a check.
use Rattle.std.specs.Prelude.{◌≡◌, ℕ, zero, suc, ◌<◌, Bool, List, length, Option, None, Some, if◌then◌else◌, slice_index_or}
use Rattle.std.specs.Option.{option_map_or}
use Rattle.m_fixed.specs.declared.amount.Value.{Value}
use Rattle.micro_m.specs.Trees.{Tree}
use Rattle.micro_m.specs.declared.base.Base.{Base}
use Rattle.micro_m.specs.Bases.{is_among, term_at, definition_of}
use Rattle.micro_m.specs.Values.{Environment, environment, term_value}
use Rattle.why_report.specs.declared.line.ReportLine.{ReportLine}
use Rattle.why_report.specs.declared.check.Checked.{Checked}
use Rattle.why_report.specs.Derivations.{reported_cells, reported_values}
use Rattle.why_report.specs.inner.Standing.{is_set, KnowsStanding, term_is_marked}

-- ---- places of definitions

-- the place of a cell: one more than the position of its definition, or 0 if it has none
abbrev pub IsPlaceOf : Base → ℕ → ℕ → Type 0
IsPlaceOf base c zero = definition_of base c ≡ None
IsPlaceOf base c (suc p) = (p < length base.definitions) × (definition_of base c ≡ Some (term_at base p))

-- each cell's place is at its number
pub record ArePlaces (base : Base) (places : List ℕ) : Type 0 where
  pub size : length places ≡ base.cells
  pub each : (c : ℕ) → c < base.cells → IsPlaceOf base c (slice_index_or places c 0)

-- ---- a line

-- the value of a definition's term, if all cells that it reads are marked
abbrev pub standing_value : List Bool → List Value → Tree → Option Value
standing_value marks values term = if term_is_marked marks term then Some (term_value (environment values) term) else None

-- the value that follows for a cell from the checked lines
abbrev pub derived_value : Base → Environment → List Bool → List Value → ℕ → Option Value
derived_value base given marks values c = option_map_or (standing_value marks values) (definition_of base c) (Some (given c))

-- The state after these lines: their values, the marks of their cells, and from each cell on how
-- many cells are known to be marked.
pub record Keeps (cells : ℕ) (lines : List ReportLine) (checked : Checked) : Type 0 where
  pub values_size : length checked.values.items ≡ cells
  pub marks_size : length checked.marks.items ≡ cells
  pub known_size : length checked.known.items ≡ cells
  pub values : (c : ℕ) → environment checked.values.items c ≡ reported_values lines c
  pub marks : (c : ℕ) → is_set checked.marks.items c ≡ is_among c (reported_cells lines)
  pub known : KnowsStanding checked.marks.items checked.known.items
