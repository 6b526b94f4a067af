-- The values of an answer are those of its observation.
use Rattle.std.proofs.Common.{◌≡◌, ℕ, List, length, Option, Some, None, ap}
use Rattle.std.specs.Option.{option_map}
use Rattle.std.specs.Prelude.{slice_get}
use Rattle.observables.specs.declared.answer.Answer.{Answer}
use Rattle.observables.specs.declared.answer.Answer.TheVariants.{Values, Stopped}
use Rattle.observables.specs.declared.answer.Stop.{Stop}
use Rattle.observables.specs.declared.face.FaceLabel.{FaceLabel}
use Rattle.observables.specs.Answers.{Observation, values, stopped, label_number, cause_of, reported_notes, observation}
use Rattle.m_cases.specs.Mismatches.{answer_values, named_values, observation_values}

stop_is : (stop : Stop) (label : Option FaceLabel) (reported : Observation) → option_map (λ l. stopped (cause_of stop l)) label ≡ Some reported
    → None ≡ observation_values reported
stop_is stop None reported e = cc
stop_is stop (Some label) reported e = let same : stopped (cause_of stop label) ≡ reported = cc in ap observation_values same

pub reported_is : (labels : List FaceLabel) (notes : List ℕ) (answer : Answer) (reported : Observation) → observation labels notes answer ≡ Some reported
    → named_values (length notes) (answer_values answer) ≡ observation_values reported
reported_is labels notes (Values vs) reported e = let same : values (reported_notes labels notes vs) _ ≡ reported = cc in ap observation_values same
reported_is labels notes (Stopped stop) reported e = stop_is stop (slice_get labels (label_number stop)) reported e
