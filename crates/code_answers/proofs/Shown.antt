-- The answers of a program that shows a scheme.
use Rattle.std.proofs.Common.{◌≡◌, ℕ, length, List, [], Option, None, Some, Ok, sym, ◌∙◌, ap, subst}
use Rattle.std.specs.Prelude.{option_map, slice_get}
use Rattle.std.specs.Option.{option_map_or}
use Rattle.m_fixed.specs.declared.amount.Value.{Value}
use Rattle.observables.specs.Answers.{Observation, stopped, cause_of, label_number, observation}
use Rattle.observables.specs.Inputs.{AreValuesOf}
use Rattle.observables.specs.Outputs.{names_of, notes_of}
use Rattle.observables.specs.declared.answer.Answer.{Answer}
use Rattle.observables.specs.declared.answer.Answer.TheVariants.{Values, Stopped}
use Rattle.observables.specs.declared.answer.Stop.{Stop}
use Rattle.observables.specs.declared.face.FaceLabel.{FaceLabel}
use Rattle.observables.specs.declared.face.Face.{Face}
use Rattle.reg_machine.specs.Machine.{machine_run}
use Rattle.code_file.specs.declared.loaded.Loaded.{Loaded}
use Rattle.household.specs.Household.{household_of, values_of}
use Rattle.household.proofs.GivenLemmas.{household_gives}
use Rattle.tax_print.specs.Lines.{AnswerIsWithin, answer_lines, observation_lines}
use Rattle.command_plans.specs.declared.status.Status.{Status}
use Rattle.command_plans.specs.declared.status.Status.TheVariants as status
use Rattle.code_answers.specs.Households.{answer_status, observation_status}
use Rattle.code_answers.specs.Shown.{IsRunnableCode, Shows}
use Rattle.code_answers.specs.Schemes.{Scheme, observation_for}
use Rattle.code_answers.specs.inner.Answers.{IsAnswerOf}
use Rattle.code_answers.proofs.CodeLemmas.{agrees, code_within}

-- a program has the inputs of its scheme
pub as_many : (scheme : Scheme) (face : Face) (runs : List Value → Answer) → Shows scheme face runs → length face.inputs ≡ length scheme.inputs
as_many scheme face runs shown = ap length shown.inputs

-- the lines of what is observed of a program
pub reported_answer : (scheme : Scheme) (face : Face) (runs : List Value → Answer) (answer : Answer) (reported : Observation) → Shows scheme face runs
    → observation face.labels (notes_of face.outputs) answer ≡ Some reported → answer_lines face answer ≡ observation_lines scheme.names reported
reported_answer scheme face runs answer reported shown is =
    ap (λ t. option_map_or (observation_lines (names_of face.outputs)) t []) is ∙ ap (λ names. observation_lines names reported) shown.names

-- the lines of a program's answer to values
pub lines_reported : (scheme : Scheme) (face : Face) (runs : List Value → Answer) (vs : List Value) → Shows scheme face runs → AreValuesOf scheme.inputs vs
    → answer_lines face (runs vs) ≡ observation_lines scheme.names (scheme.observe vs)
lines_reported scheme face runs vs shown given = reported_answer scheme face runs (runs vs) (scheme.observe vs) shown (shown.answers vs given)

-- ---- code and a household

-- code has the inputs of its scheme
pub code_many : (scheme : Scheme) (loaded : Loaded) → Shows scheme loaded.face (machine_run loaded.code) → loaded.code.counts.inputs ≡ length scheme.inputs
code_many scheme loaded shown = sym (agrees loaded.code loaded.face loaded.agree).inputs ∙ as_many scheme loaded.face (machine_run loaded.code) shown

pub many_inputs : (loaded : Loaded) → length loaded.face.inputs ≡ loaded.code.counts.inputs
many_inputs loaded = (agrees loaded.code loaded.face loaded.agree).inputs

-- its answer is within its face
pub answer_within : (loaded : Loaded) (inputs : List Value) → IsRunnableCode loaded → AnswerIsWithin loaded.face (machine_run loaded.code inputs)
answer_within loaded inputs runs = code_within loaded.code loaded.face runs.whole (agrees loaded.code loaded.face loaded.agree) inputs

-- a household has no fault for the scheme
pub given_by : (scheme : Scheme) (loaded : Loaded) (rows : List ℕ) (answer : Answer) → Shows scheme loaded.face (machine_run loaded.code)
    → (of : IsAnswerOf loaded rows answer)
    → household_of scheme.inputs rows ≡ Ok of.pairs
given_by scheme loaded rows answer shown of = subst (λ inputs. household_of inputs rows ≡ Ok of.pairs) shown.inputs of.given

-- what is observed for it
pub household_reported : (scheme : Scheme) (loaded : Loaded) (rows : List ℕ) (answer : Answer) → Shows scheme loaded.face (machine_run loaded.code)
    → (of : IsAnswerOf loaded rows answer)
    → observation loaded.face.labels (notes_of loaded.face.outputs) answer ≡ Some (observation_for scheme of.pairs)
household_reported scheme loaded rows answer shown of =
    ap (observation loaded.face.labels (notes_of loaded.face.outputs)) (of.ran
    ∙ ap (λ n. machine_run loaded.code (values_of of.pairs n)) (code_many scheme loaded shown))
    ∙ shown.answers (values_of of.pairs (length scheme.inputs)) (household_gives scheme.inputs rows of.pairs (given_by scheme loaded rows answer shown of))

stopped_status : (found : Option FaceLabel) (stop : Stop) (reported : Observation) → option_map (λ label. stopped (cause_of stop label)) found ≡ Some reported
    → status.Stopped ≡ observation_status reported
stopped_status None stop reported is = absurd (cc is)
stopped_status (Some label) stop reported is = let same : stopped (cause_of stop label) ≡ reported = cc is in ap observation_status same

-- the status of an answer is that of its observation
pub status_reported : (labels : List FaceLabel) (notes : List ℕ) (answer : Answer) (reported : Observation) → observation labels notes answer ≡ Some reported
    → answer_status answer ≡ observation_status reported
status_reported labels notes (Values vs) reported is = ap (λ (t : Option Observation). status_of t) is
  where
    status_of : Option Observation → Status
    status_of None = status.Done
    status_of (Some t) = observation_status t
status_reported labels notes (Stopped stop) reported is = stopped_status (slice_get labels (label_number stop)) stop reported is
