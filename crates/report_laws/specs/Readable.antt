-- Lines of a derivation whose printed text can be read.
use Rattle.std.specs.Prelude.{◌≡◌, ◌≢◌, ℕ, Some}
use Rattle.std.specs.List.{AllByRecursion}
use Rattle.m_fixed.specs.Laws.{IsValue}
use Rattle.m_text.specs.Bytes.{space, line_feed}
use Rattle.m_symbols.specs.Declarations.{Declared}
use Rattle.m_symbols.specs.Cells.{request_cell, cell_name}
use Rattle.why_report.specs.declared.line.ReportLine.{ReportLine}

-- a byte that ends neither a word nor a line
abbrev pub IsInside : ℕ → Type 0
IsInside b = (b ≢ space) × (b ≢ line_feed)

-- The printed text of a line can be read: the printed name of its cell resolves to this cell and has neither spaces
-- nor line feeds, and its value is undefined, over, or within the bounds of amounts. A line of an undeclared cell
-- can't be read, since no name resolves to it.
pub record CanBeRead (declared : Declared) (line : ReportLine) : Type 0 where
  pub named : request_cell declared (cell_name declared line.cell) ≡ Some line.cell
  pub inside : AllByRecursion IsInside (cell_name declared line.cell)
  pub value : IsValue line.value
