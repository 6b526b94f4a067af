-- The fixed lines of this program.
use Rattle.std.specs.Prelude.{ℕ, List, [], ◌∷◌, codes}
use Rattle.m_text.specs.Pieces.{joined, new_line}

abbrev pub usage_line : List ℕ
usage_line = joined (codes "usage: m_survey table LIST DRIVER REQUESTS TABLE, table CODEFILE TABLE, facts LIST DRIVER REQUESTS RANGES, version" ∷ new_line ∷ [])

-- the line of `version`
abbrev pub version_line : List ℕ
version_line = joined (codes "vodmejka 1.0.0" ∷ new_line ∷ [])
