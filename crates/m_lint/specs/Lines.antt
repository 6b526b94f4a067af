-- Findings as lines, each with its line feed.
use Rattle.std.specs.Prelude.{ℕ, List, [], ◌∷◌, ◌++◌, codes, Option, slice_get, slice_index_or}
use Rattle.std.specs.Option.{option_map_or}
use Rattle.m_text.specs.Pieces.{joined, new_line}
use Rattle.m_places.specs.declared.verification.Label.{Label}
use Rattle.m_symbols.specs.declared.variable.Variable.{Variable}
use Rattle.m_symbols.specs.Declarations.{Declared, code_of, inputs_from}
use Rattle.m_symbols.specs.Cells.{cell_name}
use Rattle.micro_m.specs.declared.base.Base.{Base}
use Rattle.m_lint.specs.declared.finding.Finding.{Finding}
use Rattle.m_lint.specs.declared.finding.Finding.TheVariants.{NeverDefined, NeverStops, Unused}
use Rattle.m_lint.specs.Findings.{label_of_check}

-- `never defined IRN`
abbrev pub cell_line : List ℕ → List ℕ
cell_line name = joined (codes "never defined " ∷ name ∷ new_line ∷ [])

-- `never stops 2000 A20`
abbrev pub check_line : Label → List ℕ
check_line label = joined (codes "never stops " ∷ label.verif ∷ codes " " ∷ label.error ∷ new_line ∷ [])

-- `unused input 1AJ`
abbrev pub input_line : List ℕ → List ℕ
input_line code = joined (codes "unused input " ∷ code ∷ new_line ∷ [])

-- the line of a check of a base
abbrev pub stops_line : Base → ℕ → List ℕ
stops_line base k = option_map_or check_line (label_of_check base k) []

-- the variable of an input, and its code
abbrev pub input_of : Declared → ℕ → Option Variable
input_of declared n = slice_get declared.variables (slice_index_or (inputs_from 0 declared.variables) n 0)

abbrev pub own_code : Variable → List ℕ
own_code v = option_map_or (λ code. code) (code_of v) []

abbrev pub input_code : Declared → ℕ → List ℕ
input_code declared n = option_map_or own_code (input_of declared n) []

-- the line of a finding: a cell by its printed name, a check by its verification's number and its
-- error's name, an input by its code
abbrev pub finding_line : Declared → Base → Finding → List ℕ
finding_line declared base (NeverDefined c) = cell_line (cell_name declared c)
finding_line declared base (NeverStops k) = stops_line base k
finding_line declared base (Unused n) = input_line (input_code declared n)

-- The lines of findings, in order.
abbrev pub findings_text : Declared → Base → List Finding → List ℕ
findings_text declared base [] = []
findings_text declared base (finding ∷ findings) = finding_line declared base finding ++ findings_text declared base findings
