-- The lines of the findings. Each ends with a line feed.
use Rattle.std.specs.Prelude.{ℕ, ℤ, Bool, List, [], ◌∷◌, ◌++◌, codes, Option, Some, None, slice_get, if◌then◌else◌}
use Rattle.std.specs.Option.{option_map_or}
use Rattle.std.specs.Ordering.{int_eq}
use Rattle.m_fixed.specs.Text.{printed}
use Rattle.m_text.specs.Pieces.{joined, new_line}
use Rattle.definedness.specs.Facts.{Possible}
use Rattle.observables.specs.declared.face.Face.{Face}
use Rattle.observables.specs.declared.face.FaceOutput.{FaceOutput}
use Rattle.observables.specs.declared.face.FaceOutput.TheVariants.{Named, Noted}
use Rattle.observables.specs.declared.inputs.Coded.{Coded}
use Rattle.observables.specs.Outputs.{names_of}
use Rattle.flat_code.specs.declared.program.Flat.{Flat}
use Rattle.micro_m.specs.declared.base.Base.{Base}
use Rattle.m_lint.specs.Lines.{stops_line}
use Rattle.m_facts.specs.declared.found.FactsFound.{FactsFound}
use Rattle.m_facts.specs.Found.{found_of, name_at}

-- ---- what is possible of a cell

-- an interval, as `0 to 9000`, or `9000` if its ends are equal
abbrev pub range_text : ℤ × ℤ → List ℕ
range_text r = if int_eq r.0 r.1 then printed r.0 else joined (printed r.0 ∷ codes " to " ∷ printed r.1 ∷ [])

-- the possible numbers, as text
abbrev pub numbers_text : Option (ℤ × ℤ) → List (List ℕ)
numbers_text None = []
numbers_text (Some r) = range_text r ∷ []

abbrev pub words_text : Bool → Bool → List (List ℕ)
words_text undef over = (if undef then codes "undefined" ∷ [] else []) ++ (if over then codes "over" ∷ [] else [])

-- texts separated by ` or `
abbrev pub joined_by_or : List (List ℕ) → List ℕ
joined_by_or [] = []
joined_by_or (text ∷ []) = text
joined_by_or (text ∷ next ∷ rest) = joined (text ∷ codes " or " ∷ joined_by_or (next ∷ rest) ∷ [])

-- the line of a fact, as `IRN 0 to 9000 or undefined`
abbrev pub fact_line : List ℕ → Possible → List ℕ
fact_line name fact = joined (name ∷ codes " " ∷ joined_by_or (numbers_text fact.range ++ words_text fact.undef fact.over) ∷ new_line ∷ [])

-- the lines of the facts of cells with these names
abbrev pub facts_lines : List (List ℕ) → List Possible → List ℕ
facts_lines (name ∷ names) (fact ∷ facts) = fact_line name fact ++ facts_lines names facts
facts_lines _ _ = []

-- the facts of the outputs that have a name, in order
abbrev pub named_facts : List FaceOutput → List Possible → List Possible
named_facts (Named name ∷ outputs) (fact ∷ facts) = fact ∷ named_facts outputs facts
named_facts (Noted number ∷ outputs) (fact ∷ facts) = named_facts outputs facts
named_facts _ _ = []

-- ---- what never stops

-- the lines of checks that never stop, as `never stops 2000 A20`
abbrev pub silent_lines : Base → List ℕ → List ℕ
silent_lines base [] = []
silent_lines base (k ∷ ks) = stops_line base k ++ silent_lines base ks

-- ---- what a cell depends on

-- the code of the input with this number
abbrev pub code_at : List Coded → ℕ → List ℕ
code_at inputs n = option_map_or (λ input. input.code) (slice_get inputs n) []

-- for each of these inputs a space and its code
abbrev pub codes_text : List Coded → List ℕ → List ℕ
codes_text inputs [] = []
codes_text inputs (n ∷ ns) = joined (codes " " ∷ code_at inputs n ∷ []) ++ codes_text inputs ns

-- the line of a cell and the inputs on which it may depend, as `depends IRN 1AJ 1BJ`
abbrev pub reads_line : List Coded → List ℕ → List ℕ → List ℕ
reads_line inputs name ns = joined (codes "depends " ∷ name ∷ codes_text inputs ns ∷ new_line ∷ [])

-- the name of an output, empty if it has none
abbrev pub printed_name : List FaceOutput → ℕ → List ℕ
printed_name outputs k = option_map_or (λ name. name) (name_at outputs k) []

-- the lines of these outputs and the inputs on which each may depend
abbrev pub reads_lines : Face → List ℕ → List (List ℕ) → List ℕ
reads_lines face (k ∷ ks) (ns ∷ rest) = reads_line face.inputs (printed_name face.outputs k) ns ++ reads_lines face ks rest
reads_lines face _ _ = []

-- ---- all lines

-- The lines of the findings: the fact of each requested cell, the checks that never stop, and, once
-- for each name, the inputs on which the cell may depend.
abbrev pub found_text : Base → Face → FactsFound → List ℕ
found_text base face found =
    facts_lines (names_of face.outputs) (named_facts face.outputs found.possible)
    ++ (silent_lines base found.silent ++ reads_lines face found.firsts found.reads)

-- The lines of the findings, given the facts of the program's inputs.
abbrev pub facts_text : Base → Flat → Face → List Possible → List ℕ
facts_text base flat face given = found_text base face (found_of base flat face given)
