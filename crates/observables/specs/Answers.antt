-- Answers as observations: numbers of labels are replaced by the labels, and notes are separated
-- from values.
use Rattle.std.specs.Prelude.{ℕ, Bool, true, false, not, List, [], ◌∷◌, length, drop, Option, Some, None, option_map, slice_get, if◌then◌else◌}
use Rattle.std.specs.List.{cons_option}
use Rattle.m_fixed.specs.declared.amount.Value.{Value}
use Rattle.m_fixed.specs.declared.amount.Value.TheVariants.{Undef, Num, Over as OverValue}
use Rattle.m_fixed.specs.Operators.{is_zero}
use Rattle.m_places.specs.declared.verification.Label.{Label}
use Rattle.observables.specs.declared.answer.Answer.{Answer}
use Rattle.observables.specs.declared.answer.Answer.TheVariants.{Values, Stopped}
use Rattle.observables.specs.declared.answer.Stop.{Stop}
use Rattle.observables.specs.declared.answer.Stop.TheVariants.{Failed, Over}
use Rattle.observables.specs.declared.face.FaceLabel.{FaceLabel}
use Rattle.observables.specs.declared.face.FaceLabel.TheVariants.{Verif, DriverLine}
use Rattle.observables.specs.Outputs.{verif_at}

-- what stopped a run: a verification whose condition is a number other than 0, or over, or a line
-- of the driver whose condition is over
pub data Cause : Type 0 where
  failed : Label → Cause
  over : Label → Cause
  over_driver : ℕ → Cause

-- what a household observes of a run: the noted verifications and the values of the named outputs,
-- each in order, or what stopped it
pub data Observation : Type 0 where
  values : List Label → List Value → Observation
  stopped : Cause → Observation

-- the number of a stop's label
abbrev pub label_number : Stop → ℕ
label_number (Failed label) = label
label_number (Over label) = label

-- What a stop at this label reports. At a line of the driver both stops report that its condition
-- is over. The checks of such lines test for over only; the program that makes them ensures that,
-- and `IsFlat` doesn't require it.
abbrev pub cause_of : Stop → FaceLabel → Cause
cause_of stop (DriverLine line) = over_driver line
cause_of (Failed number) (Verif label) = failed label
cause_of (Over number) (Verif label) = over label

-- whether a note with this value is reported: it is a number other than 0
abbrev pub is_reported : Value → Bool
is_reported Undef = false
is_reported (Num z) = not (is_zero z)
is_reported OverValue = false

-- the verification that a note with this value and this label number reports, if any
abbrev pub reported_note : List FaceLabel → ℕ → Value → Option Label
reported_note labels number value = if is_reported value then verif_at labels number else None

-- the verifications that notes with these values report, in order
abbrev pub reported_notes : List FaceLabel → List ℕ → List Value → List Label
reported_notes labels [] vs = []
reported_notes labels (number ∷ numbers) [] = []
reported_notes labels (number ∷ numbers) (v ∷ vs) = cons_option (reported_note labels number v) (reported_notes labels numbers vs)

-- The observation of an answer, if the first outputs are notes with these label numbers. There is
-- none if the run stopped at a number without a label.
abbrev pub observation : List FaceLabel → List ℕ → Answer → Option Observation
observation labels notes (Values vs) = Some (values (reported_notes labels notes vs) (drop (length notes) vs))
observation labels notes (Stopped stop) = option_map (λ label. stopped (cause_of stop label)) (slice_get labels (label_number stop))
