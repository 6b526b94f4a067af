-- Parts of lines, and the set of names seen so far.
use Rattle.std.specs.Prelude.{ℕ, Bool, true, false, not, List, [], ◌∷◌, ◌++◌, codes, if◌then◌else◌}
use Rattle.definedness.specs.Facts.{Possible}
use Rattle.m_names.specs.Names.{has}
use Rattle.observables.specs.declared.face.FaceOutput.{FaceOutput}
use Rattle.observables.specs.declared.face.FaceOutput.TheVariants.{Named, Noted}
use Rattle.m_facts.specs.Lines.{fact_line}

-- the text of a fact by which no number is possible
abbrev pub words_alone : Bool → Bool → List ℕ
words_alone true true = codes "undefined or over"
words_alone true false = codes "undefined"
words_alone false true = codes "over"
words_alone false false = []

-- the text after the possible numbers
abbrev pub words_after : Bool → Bool → List ℕ
words_after true true = codes " or undefined or over"
words_after true false = codes " or undefined"
words_after false true = codes " or over"
words_after false false = []

-- the line of an output with this fact, empty if it has no name
abbrev pub output_line : FaceOutput → Possible → List ℕ
output_line (Named name) fact = fact_line name fact
output_line (Noted number) fact = []

-- the lines of outputs with these facts
abbrev pub outputs_lines : List FaceOutput → List Possible → List ℕ
outputs_lines (output ∷ outputs) (fact ∷ facts) = output_line output fact ++ outputs_lines outputs facts
outputs_lines _ _ = []

-- the names, with that of an output added unless it has none or it is there
abbrev pub with_output : FaceOutput → List (List ℕ) → List (List ℕ)
with_output (Named name) names = if not (has name names) then names ++ name ∷ [] else names
with_output (Noted number) names = names
