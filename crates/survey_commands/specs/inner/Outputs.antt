-- What is printed of the outputs of a face, one after another.
use Rattle.std.specs.Prelude.{ℕ, Bool, ◌||◌, List, [], ◌∷◌, ◌++◌, Option, None, Some, is_some, codes, slice_get, if◌then◌else◌}
use Rattle.std.specs.List.{flat_map}
use Rattle.std.specs.Option.{option_map_or}
use Rattle.m_text.specs.Pieces.{joined}
use Rattle.m_fixed.specs.declared.amount.Value.{Value}
use Rattle.m_places.specs.declared.verification.Label.{Label}
use Rattle.observables.specs.Answers.{cause_of, label_number, reported_note, observation}
use Rattle.observables.specs.Outputs.{names_of, notes_of}
use Rattle.observables.specs.declared.answer.Answer.{Answer}
use Rattle.observables.specs.declared.answer.Stop.{Stop}
use Rattle.observables.specs.declared.face.Face.{Face}
use Rattle.observables.specs.declared.face.FaceLabel.{FaceLabel}
use Rattle.observables.specs.declared.face.FaceOutput.{FaceOutput}
use Rattle.observables.specs.declared.face.FaceOutput.TheVariants.{Named, Noted}
use Rattle.survey_commands.specs.Records.{between, cause_field, observation_fields, value_field}

-- the field of an output with a name, after a comma: its name, or nothing
abbrev pub output_field : (filled : Bool) → FaceOutput → List ℕ
output_field filled (Named name) = joined (codes "," ∷ (if filled then name else []) ∷ [])
output_field filled (Noted number) = []

abbrev pub output_fields : (filled : Bool) → List FaceOutput → List ℕ
output_fields filled outputs = flat_map (output_field filled) outputs

-- the value of an output, after a comma
abbrev pub output_value : FaceOutput → Value → List ℕ
output_value (Named name) v = joined (codes "," ∷ value_field v ∷ [])
output_value (Noted number) v = []

abbrev pub output_values : List FaceOutput → List Value → List ℕ
output_values [] vs = []
output_values (output ∷ outputs) [] = []
output_values (output ∷ outputs) (v ∷ vs) = output_value output v ++ output_values outputs vs

-- the verification that an output with this value notes, if any
abbrev pub output_note : List FaceLabel → FaceOutput → Value → Option Label
output_note labels (Named name) v = None
output_note labels (Noted number) v = reported_note labels number v

-- a note, where the flag means that there are others before it
abbrev pub note_text : Bool → Option Label → List ℕ
note_text some None = []
note_text some (Some label) = joined (between some ∷ label.verif ∷ codes " " ∷ label.error ∷ [])

-- the notes of outputs, where the flag means that there are others before them
abbrev pub output_notes : Bool → List FaceLabel → List FaceOutput → List Value → List ℕ
output_notes some labels [] vs = []
output_notes some labels (output ∷ outputs) [] = []
output_notes some labels (output ∷ outputs) (v ∷ vs) =
    note_text some (output_note labels output v) ++ output_notes (some || is_some (output_note labels output v)) labels outputs vs

-- the field of a stop at one of these labels
abbrev pub stop_field : List FaceLabel → Stop → List ℕ
stop_field labels stop = option_map_or (λ label. cause_field (cause_of stop label)) (slice_get labels (label_number stop)) []

-- an answer, read through the face, as the fields of a record
abbrev pub answer_fields : Face → Answer → List ℕ
answer_fields face answer = option_map_or (observation_fields (names_of face.outputs)) (observation face.labels (notes_of face.outputs) answer) []
