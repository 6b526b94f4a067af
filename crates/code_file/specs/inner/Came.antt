-- Invariants of the reader.
use Rattle.std.specs.Prelude.{◌≡◌, ℕ, List, [], ◌++◌, length, codes, Some, true, IsTrue}
use Rattle.std.specs.List.{AllByRecursion, flat_map}
use Rattle.observables.specs.declared.inputs.Coded.{Coded}
use Rattle.observables.specs.declared.face.FaceLabel.{FaceLabel}
use Rattle.observables.specs.declared.face.FaceOutput.{FaceOutput}
use Rattle.observables.specs.declared.face.Face.{Face}
use Rattle.reg_machine.specs.declared.instr.Instr.{Instr}
use Rattle.reg_machine.specs.declared.wrong.Wrong.{Wrong}
use Rattle.reg_machine.specs.declared.wrong.Wrong.TheVariants.{Number, Order}
use Rattle.code_file.specs.declared.fault.CodeFault.{CodeFault}
use Rattle.code_file.specs.declared.fault.CodeFault.TheVariants.{BadLine, BadOrder}
use Rattle.reg_machine.specs.Flow.{Listing, State, reading, code_of}
use Rattle.m_names.specs.Names.{AreDistinct}
use Rattle.observables.specs.Inputs.{codes_of}
use Rattle.observables.specs.Outputs.{notes_stand_first}
use Rattle.code_file.specs.Text.{slots_line, input_line, label_line, output_line, instr_line}
use Rattle.code_file.specs.inner.Faces.{IsRightInput, IsRightLabel, IsRightOutput}
use Rattle.code_file.specs.Reading.{Entry, code_start, Draft, blank, AreDue, draft_of, IsEntry, IsShort, entry_line, due}

-- the bytes are n valid lines, after which the state is d, and `rest`
pub record Came (bytes : List ℕ) (d : Draft) (n : ℕ) (rest : List ℕ) : Type 0 where
  pub entries : List Entry
  pub text : bytes ≡ flat_map entry_line entries ++ rest
  pub due : AreDue blank entries
  pub is : draft_of entries ≡ d
  pub count : length entries ≡ n

-- the state within a face, and after `code`
abbrev pub face_so_far : ℕ → List Coded → List FaceLabel → List FaceOutput → Draft
face_so_far slots inputs labels outputs = record { part = 2; slots = slots; inputs = inputs; labels = labels; outputs = outputs; instrs = [] }

abbrev pub code_so_far : ℕ → Face → List Instr → Draft
code_so_far slots face instrs = record { part = 3; slots = slots; inputs = face.inputs; labels = face.labels; outputs = face.outputs; instrs = instrs }

-- the text of a face up to its outputs, followed by `rest`
abbrev pub face_text : ℕ → List Coded → List FaceLabel → List FaceOutput → List ℕ → List ℕ
face_text slots inputs labels outputs rest =
    codes "mcode 1\n" ++ (slots_line slots ++ (flat_map input_line inputs ++ (flat_map label_line labels ++ (flat_map output_line outputs ++ rest))))

-- a face that is valid in a code file
pub record IsRightFace (slots : ℕ) (inputs : List Coded) (labels : List FaceLabel) (outputs : List FaceOutput) : Type 0 where
  pub slots_fit : IsShort slots
  pub right_inputs : AllByRecursion IsRightInput inputs
  pub distinct : AreDistinct (codes_of inputs)
  pub right_labels : AllByRecursion IsRightLabel labels
  pub right_outputs : AllByRecursion IsRightOutput outputs
  pub first : notes_stand_first labels outputs ≡ true

-- the text of a face and of code so far, followed by `rest`
abbrev pub text_so_far : ℕ → Face → List Instr → List ℕ → List ℕ
text_so_far slots face instrs rest = face_text slots face.inputs face.labels face.outputs (codes "code\n" ++ (flat_map instr_line instrs ++ rest))

-- only `code` may come next
abbrev pub EndsFace : Draft → List ℕ → Type 0
EndsFace d rest = (entry : Entry) (behind : List ℕ) → rest ≡ entry_line entry ++ behind → IsEntry entry → IsTrue (due entry d) → entry ≡ code_start

-- the listing of code with this face
abbrev pub code_with : ℕ → Face → List Instr → Listing
code_with slots face instrs = code_of (length face.inputs) slots (length face.labels) (length face.outputs) instrs

-- valid code so far, and the state after its instructions
pub record IsCodeSoFar (slots : ℕ) (face : Face) (code : Listing) : Type 0 where
  pub is : code ≡ code_with slots face code.instrs
  pub state : State
  pub read : reading code ≡ Some state

-- an invalid instruction, as a fault of its line
abbrev pub fault_of : Wrong → ℕ → CodeFault
fault_of Number line = BadLine line
fault_of Order line = BadOrder line
