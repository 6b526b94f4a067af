-- Code with its face.
use Rattle.std.specs.Prelude.{ℕ, ◌==◌, ◌&&◌, Bool, List, length}
use Rattle.observables.specs.declared.inputs.Coded.{Coded}
use Rattle.observables.specs.declared.face.FaceLabel.{FaceLabel}
use Rattle.observables.specs.declared.face.FaceOutput.{FaceOutput}
use Rattle.observables.specs.declared.face.Face.{Face}
use Rattle.reg_machine.specs.Flow.{Listing}
use Rattle.code_file.specs.Text.{code_text}

-- whether code has as many inputs, labels and outputs as its face
abbrev pub counts_agree : Listing → List Coded → List FaceLabel → List FaceOutput → Bool
counts_agree code inputs labels outputs =
    (length inputs == code.counts.inputs) && ((length labels == code.counts.labels) && (length outputs == code.counts.outputs))

-- the text of code with this face
abbrev pub text_with : Listing → Face → List ℕ
text_with code face = code_text code face.inputs face.labels face.outputs
