-- The lines of an answer, each with its line feed.
use Rattle.std.specs.Prelude.{ℕ, ◌<◌, ◌≤◌, List, [], ◌∷◌, ◌++◌, length, codes, decimal, slice_get}
use Rattle.std.specs.Option.{option_map_or}
use Rattle.m_text.specs.Pieces.{new_line, joined}
use Rattle.m_fixed.specs.declared.amount.Value.{Value}
use Rattle.m_fixed.specs.declared.amount.Value.TheVariants.{Undef, Num, Over as OverValue}
use Rattle.m_fixed.specs.Text.{printed}
use Rattle.m_places.specs.declared.verification.ErrorKind.{ErrorKind}
use Rattle.m_places.specs.declared.verification.ErrorKind.TheVariants.{Anomalie, Discordance, Informative}
use Rattle.m_places.specs.declared.verification.Label.{Label}
use Rattle.observables.specs.declared.answer.Answer.{Answer}
use Rattle.observables.specs.declared.answer.Answer.TheVariants.{Values, Stopped}
use Rattle.observables.specs.declared.answer.Stop.{Stop}
use Rattle.observables.specs.declared.face.Face.{Face}
use Rattle.observables.specs.declared.face.FaceLabel.{FaceLabel}
use Rattle.observables.specs.declared.face.FaceOutput.{FaceOutput}
use Rattle.observables.specs.declared.face.FaceOutput.TheVariants.{Named, Noted}
use Rattle.observables.specs.Answers.{Cause, failed, over, over_driver, Observation, values, stopped, label_number, cause_of, reported_note, observation}
use Rattle.observables.specs.Outputs.{names_of, notes_of}

-- the line of a named value: `IRN = 1500.5`, `IRN undefined`, `IRN over`
abbrev pub value_line : List ℕ → Value → List ℕ
value_line name Undef = joined (name ∷ codes " undefined" ∷ new_line ∷ [])
value_line name (Num amount) = joined (name ∷ codes " = " ∷ printed amount ∷ new_line ∷ [])
value_line name OverValue = joined (name ∷ codes " over" ∷ new_line ∷ [])

-- the lines of named values, in order
abbrev pub values_lines : List (List ℕ) → List Value → List ℕ
values_lines (name ∷ names) (v ∷ vs) = value_line name v ++ values_lines names vs
values_lines _ _ = []

-- the printed form of an error's kind
abbrev pub kind_text : ErrorKind → List ℕ
kind_text Anomalie = codes "anomalie"
kind_text Discordance = codes "discordance"
kind_text Informative = codes "informative"

-- the two lines of a verification after a word: its number, its error and the error's kind, as
-- `failed 2000 A20 anomalie`, and then the error's text
abbrev pub label_lines : List ℕ → Label → List ℕ
label_lines word label = joined (word ∷ codes " " ∷ label.verif ∷ codes " " ∷ label.error ∷ codes " " ∷ kind_text label.kind ∷ new_line ∷ label.text ∷ new_line
    ∷ [])

-- the lines of what stopped a run
abbrev pub cause_lines : Cause → List ℕ
cause_lines (failed label) = label_lines (codes "failed") label
cause_lines (over label) = joined (codes "over verification " ∷ label.verif ∷ codes " " ∷ label.error ∷ new_line ∷ [])
cause_lines (over_driver line) = joined (codes "over driver line " ∷ decimal line ∷ new_line ∷ [])

-- the lines of notes, in order: for each verification `noted 2000 A20 discordance`, and then the
-- error's text
abbrev pub notes_lines : List Label → List ℕ
notes_lines [] = []
notes_lines (label ∷ labels) = label_lines (codes "noted") label ++ notes_lines labels

-- The lines of an observation, where the requested values have these names: first the notes, then
-- the values.
abbrev pub observation_lines : List (List ℕ) → Observation → List ℕ
observation_lines names (values notes vs) = notes_lines notes ++ values_lines names vs
observation_lines names (stopped cause) = cause_lines cause

-- the lines of a stop at one of these labels
abbrev pub stop_lines : List FaceLabel → Stop → List ℕ
stop_lines labels stop = option_map_or (λ label. cause_lines (cause_of stop label)) (slice_get labels (label_number stop)) []

-- The lines of an answer: those of its observation, by the program's interface.
abbrev pub answer_lines : Face → Answer → List ℕ
answer_lines face answer = option_map_or (observation_lines (names_of face.outputs)) (observation face.labels (notes_of face.outputs) answer) []

-- the lines of an output with this value: of a named one its line, and of a note those of the
-- verification, if it is reported
abbrev pub output_lines : List FaceLabel → Value → FaceOutput → List ℕ
output_lines labels v (Named name) = value_line name v
output_lines labels v (Noted number) = option_map_or (label_lines (codes "noted")) (reported_note labels number v) []

-- the lines of outputs with these values, in order
abbrev pub outputs_lines : List FaceLabel → List FaceOutput → List Value → List ℕ
outputs_lines labels [] vs = []
outputs_lines labels (output ∷ outputs) [] = []
outputs_lines labels (output ∷ outputs) (v ∷ vs) = output_lines labels v output ++ outputs_lines labels outputs vs

-- the lines of the output with this number
abbrev pub output_line : Face → ℕ → Value → List ℕ
output_line face k v = option_map_or (output_lines face.labels v) (slice_get face.outputs k) []

-- the lines of a household of a table: its label, and then its answer
abbrev pub household_lines : List ℕ → Face → Answer → List ℕ
household_lines label face answer = joined (codes "household " ∷ label ∷ new_line ∷ []) ++ answer_lines face answer

-- the numbers in an answer are within those of the interface
abbrev pub AnswerIsWithin : Face → Answer → Type 0
AnswerIsWithin face (Values vs) = length vs ≤ length face.outputs
AnswerIsWithin face (Stopped stop) = label_number stop < length face.labels
