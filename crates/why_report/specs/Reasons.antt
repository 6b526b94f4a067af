-- The reason for a cell's value: the cells that it needs, and the derivation over them.
use Rattle.std.specs.Prelude.{◌≡◌, ℕ, zero, suc, ◌==◌, ◌||◌, Bool, true, false, List, [], ◌∷◌, ◌++◌, is_some, if◌then◌else◌}
use Rattle.std.specs.List.{list_any}
use Rattle.std.specs.Option.{option_map_or}
use Rattle.micro_m.specs.declared.base.Base.{Base}
use Rattle.micro_m.specs.Bases.{is_among, target_at, definition_of}
use Rattle.micro_m.specs.Reads.{Reads}
use Rattle.micro_m.specs.ReadTests.{term_reads}
use Rattle.micro_m.specs.Values.{Environment, term_value}
use Rattle.rule_order.specs.declared.ordered.Ordered.{Ordered}
use Rattle.why_report.specs.declared.line.ReportLine.{ReportLine}
use Rattle.why_report.specs.Derivations.{reported_cells, reported_values, IsSound}

-- ---- what a reason is

-- one of these cells reads the cell
abbrev pub IsReadAmong : Base → List ℕ → ℕ → Type 0
IsReadAmong base cells d = (x : ℕ) × (is_among x cells ≡ true) × Reads base x d

-- the last of these cells is this one, and each other is read by a later one
abbrev pub AreNeededBy : Base → ℕ → List ℕ → Type 0
AreNeededBy base c [] = ⊥
AreNeededBy base c (d ∷ []) = d ≡ c
AreNeededBy base c (d ∷ x ∷ later) = IsReadAmong base (x ∷ later) d × AreNeededBy base c (x ∷ later)

-- The reason for a cell's value over an environment: a sound derivation, of which the last line is
-- the cell's and each other line's cell is read by a later line.
pub record IsReasonOf (base : Base) (given : Environment) (c : ℕ) (lines : List ReportLine) : Type 0 where
  pub sound : IsSound base given lines
  pub needed : AreNeededBy base c (reported_cells lines)

-- ---- what is read

-- whether the definition of a cell, if it has one, reads another
abbrev pub cell_reads : Base → ℕ → ℕ → Bool
cell_reads base x c = option_map_or (λ term. term_reads term c) (definition_of base x) false

-- ---- the cells that are needed

-- the cells below a number that have no definition, from the greatest on
abbrev pub bare_below : Base → ℕ → List ℕ
bare_below base zero = []
bare_below base (suc c) = if is_some (definition_of base c) then bare_below base c else c ∷ bare_below base c

-- the cells of the definitions at these positions, from the last to the first, followed by further
-- cells
abbrev pub targets_down : Base → List ℕ → List ℕ → List ℕ
targets_down base [] further = further
targets_down base (p ∷ later) further = targets_down base later (target_at base p ∷ further)

-- The cells of an ordered base, each before all that it reads: those with definitions from the last
-- of the order to the first, then those without, from the greatest to the least. If `B = A` and
-- `C = B` are in this order, they are `C`, `B` and `A`.
abbrev pub cells_down : Ordered → List ℕ
cells_down ordered = targets_down ordered.base ordered.sequence (bare_below ordered.base ordered.base.cells)

-- whether a cell is this one, or one of these reads it
abbrev pub is_needed : Base → ℕ → List ℕ → ℕ → Bool
is_needed base c later d = d == c || list_any (λ x. cell_reads base x d) later

-- Visits cells, each before those that it reads, and puts each that is needed before the ones found
-- so far, `later`. The result has each cell after those that it reads.
abbrev pub needed_along : Base → ℕ → List ℕ → List ℕ → List ℕ
needed_along base c later [] = later
needed_along base c later (d ∷ ds) = needed_along base c (if is_needed base c later d then d ∷ later else later) ds

-- The cells that a cell needs, each after those that it reads; the last is the cell itself.
abbrev pub needed_cells : Ordered → ℕ → List ℕ
needed_cells ordered c = needed_along ordered.base c [] (cells_down ordered)

-- ---- the lines

-- the line of a cell after earlier lines
abbrev pub line_over : Base → Environment → List ReportLine → ℕ → ReportLine
line_over base given earlier c = record { cell = c; value = option_map_or (term_value (reported_values earlier)) (definition_of base c) (given c) }

-- the lines of cells in order, after earlier lines
abbrev pub lines_over : Base → Environment → List ReportLine → List ℕ → List ReportLine
lines_over base given earlier [] = earlier
lines_over base given earlier (c ∷ cells) = lines_over base given (earlier ++ line_over base given earlier c ∷ []) cells

-- The lines that explain a cell's value over an environment: one for each cell that it needs. If
-- `IRN = REV` is defined and `REV` is 2500.5, the lines for `IRN` are `REV = 2500.5` and
-- `IRN = 2500.5`.
abbrev pub why_lines : Ordered → Environment → ℕ → List ReportLine
why_lines ordered given c = lines_over ordered.base given [] (needed_cells ordered c)
