-- What the rows of a table of households print.
use Rattle.std.specs.Prelude.{ℕ, List, [], ◌∷◌, ◌++◌, codes}
use Rattle.m_text.specs.Pieces.{joined}
use Rattle.household.specs.declared.table.Row.{Row}
use Rattle.m_text.specs.Pieces.{new_line}
use Rattle.tax_print.specs.Lines.{observation_lines}
use Rattle.code_answers.specs.Schemes.{Scheme, observation_for}

-- the lines of a row: `household dupont`, and then those of what is observed for its amounts
abbrev pub row_lines : Scheme → Row → List ℕ
row_lines scheme row = joined (codes "household " ∷ row.label ∷ new_line ∷ []) ++ observation_lines scheme.names (observation_for scheme row.household.pairs)

-- The lines of a table's rows, in order.
abbrev pub rows_lines : Scheme → List Row → List ℕ
rows_lines scheme [] = []
rows_lines scheme (row ∷ rows) = row_lines scheme row ++ rows_lines scheme rows
