-- The outputs of a program: notes, and named values.
use Rattle.std.specs.Prelude.{ℕ, Bool, true, false, ◌&&◌, List, [], ◌∷◌, Option, Some, None, is_some, option_and_then, slice_get}
use Rattle.m_places.specs.declared.verification.Label.{Label}
use Rattle.observables.specs.declared.face.FaceLabel.{FaceLabel}
use Rattle.observables.specs.declared.face.FaceLabel.TheVariants.{Verif, DriverLine}
use Rattle.observables.specs.declared.face.FaceOutput.{FaceOutput}
use Rattle.observables.specs.declared.face.FaceOutput.TheVariants.{Named, Noted}

-- the names of the values, in order
abbrev pub names_of : List FaceOutput → List (List ℕ)
names_of [] = []
names_of (Named name ∷ outputs) = name ∷ names_of outputs
names_of (Noted number ∷ outputs) = names_of outputs

-- the numbers of the labels of the notes, in order
abbrev pub notes_of : List FaceOutput → List ℕ
notes_of [] = []
notes_of (Named name ∷ outputs) = notes_of outputs
notes_of (Noted number ∷ outputs) = number ∷ notes_of outputs

-- the verification of a label, if it is one's
abbrev pub verif_of : FaceLabel → Option Label
verif_of (Verif label) = Some label
verif_of (DriverLine line) = None

-- the verification of the label with this number, if there is one
abbrev pub verif_at : List FaceLabel → ℕ → Option Label
verif_at labels number = option_and_then verif_of (slice_get labels number)

-- no output is a note
abbrev pub are_named : List FaceOutput → Bool
are_named [] = true
are_named (Named name ∷ outputs) = are_named outputs
are_named (Noted number ∷ outputs) = false

-- The notes come before the names, and each has the number of a verification's label.
abbrev pub notes_stand_first : List FaceLabel → List FaceOutput → Bool
notes_stand_first labels [] = true
notes_stand_first labels (Named name ∷ outputs) = are_named outputs
notes_stand_first labels (Noted number ∷ outputs) = is_some (verif_at labels number) && notes_stand_first labels outputs
