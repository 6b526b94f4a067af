-- Derivations: lists of lines that explain why a cell has its value, each of which follows from the
-- lines before it.
use Rattle.std.specs.Prelude.{◌≡◌, ℕ, ◌<◌, ◌==◌, true, false, List, [], ◌∷◌, map, take, length, Option, None, Some, if◌then◌else◌, slice_index_or}
use Rattle.std.specs.Option.{option_map_or}
use Rattle.m_fixed.specs.declared.amount.Value.TheVariants.{Undef}
use Rattle.micro_m.specs.declared.base.Base.{Base}
use Rattle.micro_m.specs.Bases.{is_among, definition_of}
use Rattle.micro_m.specs.Reads.{Reads}
use Rattle.micro_m.specs.Values.{Environment, term_value}
use Rattle.why_report.specs.declared.line.ReportLine.{ReportLine}

-- the cells of lines, in order
abbrev pub reported_cells : List ReportLine → List ℕ
reported_cells lines = map (λ line. line.cell) lines

-- the values that lines give; a cell without a line is undefined
abbrev pub reported_values : List ReportLine → Environment
reported_values [] c = Undef
reported_values (line ∷ lines) c = if c == line.cell then line.value else reported_values lines c

-- A line follows from earlier ones over an environment: none of them has its cell; they have all
-- cells that its definition reads; and its value is the term's under their values, or without a
-- definition the environment's. If `IRN = REV` is defined, the line `IRN = 2500.5` follows from
-- `REV = 2500.5`, and doesn't follow from no lines.
pub record IsDerived (base : Base) (given : Environment) (earlier : List ReportLine) (line : ReportLine) : Type 0 where
  pub reported_once : is_among line.cell (reported_cells earlier) ≡ false
  pub reads_earlier : (c : ℕ) → Reads base line.cell c → is_among c (reported_cells earlier) ≡ true
  pub has_value : line.value ≡ option_map_or (term_value (reported_values earlier)) (definition_of base line.cell) (given line.cell)

-- the line at a position of a list
abbrev pub line_at : List ReportLine → ℕ → ReportLine
line_at lines position = slice_index_or lines position (record { cell = 0; value = Undef })

-- the line at a position follows from those before it
abbrev pub IsDerivedAt : Base → Environment → List ReportLine → ℕ → Type 0
IsDerivedAt base given lines position = IsDerived base given (take position lines) (line_at lines position)

-- A derivation is sound over an environment: each line follows from those before it.
abbrev pub IsSound : Base → Environment → List ReportLine → Type 0
IsSound base given lines = (position : ℕ) → position < length lines → IsDerivedAt base given lines position

-- The first unsound line is at this position: all lines before it follow, and it doesn't.
pub record IsFirstUnsound (base : Base) (given : Environment) (lines : List ReportLine) (position : ℕ) : Type 0 where
  pub within : position < length lines
  pub sound_before : IsSound base given (take position lines)
  pub unsound : IsDerivedAt base given lines position → ⊥

-- the result of a check: the position of the first unsound line, and `None` exactly if the
-- derivation is sound
abbrev pub IsFindingOf : Base → Environment → List ReportLine → Option ℕ → Type 0
IsFindingOf base given lines None = IsSound base given lines
IsFindingOf base given lines (Some position) = IsFirstUnsound base given lines position
