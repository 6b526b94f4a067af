-- The terms of a base one after the other in a list, with where each begins.
use Rattle.std.specs.Prelude.{◌≡◌, ℕ, ◌+◌, ◌<◌, ◌≤◌, List, length, slice_index, slice_range}
use Rattle.micro_m.specs.declared.base.Base.{Base}
use Rattle.why_report.specs.declared.part.Part.{Part}
use Rattle.why_report.specs.declared.terms.Terms.{Terms}
use Rattle.why_report.specs.inner.Parts.{cell_parts, height}

-- where the parts of a cell begin, and where those of the cell before end
abbrev pub begin_at : Terms → ℕ → ℕ
begin_at terms c = slice_index terms.begins.items c

-- the parts of a cell
abbrev pub row_at : Terms → ℕ → List Part
row_at terms c = slice_range terms.parts.items (begin_at terms c) (begin_at terms (c + 1))

abbrev pub IsSpan : Terms → ℕ → Type 0
IsSpan terms c = (begin_at terms c ≤ begin_at terms (c + 1)) × (begin_at terms (c + 1) ≤ length terms.parts.items)

-- the terms of the cells below a number are stored
pub record AreTerms (base : Base) (count : ℕ) (terms : Terms) : Type 0 where
  pub size : length terms.begins.items ≡ count + 1
  pub last : begin_at terms count ≡ length terms.parts.items
  pub spans : (c : ℕ) → c < count → IsSpan terms c
  pub rows : (c : ℕ) → c < count → row_at terms c ≡ cell_parts base c
  pub heights : (c : ℕ) → c < count → height 0 (cell_parts base c) ≤ terms.height
