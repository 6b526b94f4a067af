-- Collecting the labels that may be reported: by number, and then by their text.
use Rattle.std.specs.Prelude.{ℕ, Bool, true, false, not, ◌&&◌, List, [], ◌∷◌, ◌++◌, length, replicate, slice_get, slice_index_or, slice_set, if◌then◌else◌}
use Rattle.std.specs.Option.{option_map_or}
use Rattle.m_places.specs.declared.verification.Label.{Label}
use Rattle.m_places.specs.declared.verification.ErrorKind.{ErrorKind}
use Rattle.m_places.specs.declared.verification.ErrorKind.TheVariants.{Anomalie, Discordance, Informative}
use Rattle.definedness.specs.Facts.{Possible}
use Rattle.m_names.specs.Names.{has}
use Rattle.observables.specs.declared.face.Face.{Face}
use Rattle.observables.specs.declared.face.FaceLabel.{FaceLabel}
use Rattle.observables.specs.declared.face.FaceLabel.TheVariants.{Verif, DriverLine}
use Rattle.observables.specs.declared.face.FaceOutput.{FaceOutput}
use Rattle.observables.specs.declared.face.FaceOutput.TheVariants.{Named, Noted}
use Rattle.flat_code.specs.declared.program.Check.{Check}
use Rattle.flat_code.specs.declared.program.Flat.{Flat}
use Rattle.micro_m.specs.declared.base.Base.{Base}
use Rattle.flat_code.specs.Facts.{fact_at}
use Rattle.m_lint.specs.Findings.{is_quiet, is_silent}

-- ---- by number

-- marks the labels of the checks that aren't silent
abbrev pub with_checks : List Possible → List Check → List Bool → List Bool
with_checks known [] marks = marks
with_checks known (check ∷ checks) marks = with_checks known checks (if is_silent known check then marks else slice_set marks check.label true)

-- marks the label of an output whose node has this fact, if it is a note that may be reported
abbrev pub with_output : Possible → FaceOutput → List Bool → List Bool
with_output fact (Named name) marks = marks
with_output fact (Noted number) marks = if is_quiet fact then marks else slice_set marks number true

abbrev pub with_notes : List Possible → List FaceOutput → List ℕ → List Bool → List Bool
with_notes known (output ∷ outputs) (p ∷ ps) marks = with_notes known outputs ps (with_output (fact_at known p) output marks)
with_notes known _ _ marks = marks

-- the marks of all labels of a face, where the nodes have these facts
abbrev pub loud_of : List Possible → Flat → Face → List Bool
loud_of known flat face = with_notes known face.outputs flat.outputs (with_checks known flat.checks (replicate (length face.labels) false))

-- ---- by text

-- a word with an unambiguous end: 1 before each byte, and then 0
abbrev pub coded_word : List ℕ → List ℕ
coded_word [] = 0 ∷ []
coded_word (b ∷ bs) = 1 ∷ b ∷ coded_word bs

abbrev pub kind_number : ErrorKind → ℕ
kind_number Anomalie = 0
kind_number Discordance = 1
kind_number Informative = 2

-- a label as one text, distinct from that of any other label
abbrev pub coded_label : Label → List ℕ
coded_label label = coded_word label.verif ++ (coded_word label.error ++ (kind_number label.kind ∷ label.text))

-- adds a name, if it isn't among the names
abbrev pub with_name : List ℕ → List (List ℕ) → List (List ℕ)
with_name name names = if has name names then names else names ++ name ∷ []

-- adds the text of a label, if it is marked and a verification's
abbrev pub with_label : FaceLabel → Bool → List (List ℕ) → List (List ℕ)
with_label (Verif label) mark names = if mark then with_name (coded_label label) names else names
with_label (DriverLine line) mark names = names

-- the texts of the marked labels
abbrev pub with_labels : List FaceLabel → List Bool → List (List ℕ) → List (List ℕ)
with_labels (label ∷ labels) (mark ∷ marks) names = with_labels labels marks (with_label label mark names)
with_labels _ _ names = names

-- whether a label, by its number and its text, is neither marked nor equal to a marked one
abbrev pub is_label_unmarked : List Bool → List (List ℕ) → ℕ → Label → Bool
is_label_unmarked marks names number label = not (slice_index_or marks number false) && not (has (coded_label label) names)

-- whether the label of a check is neither marked nor equal to a marked one
abbrev pub is_unmarked : Base → List Bool → List (List ℕ) → ℕ → Bool
is_unmarked base marks names k =
    option_map_or (λ check. option_map_or (is_label_unmarked marks names check.1) (slice_get base.labels check.1) false) (slice_get base.checks k) false
