-- Which expectations are met, and the lines of those that aren't.
use Rattle.std.specs.Prelude.{◌≡◌, ℕ, ◌+◌, ◌<◌, Bool, true, false, List, [], ◌∷◌, ◌++◌, length, drop, Option, Some, None, codes, decimal, slice_index_or}
use Rattle.std.specs.Prelude.{if◌then◌else◌}
use Rattle.std.specs.Ordering.{int_eq}
use Rattle.m_text.specs.Pieces.{joined, new_line}
use Rattle.m_fixed.specs.declared.amount.Value.{Value}
use Rattle.m_fixed.specs.declared.amount.Value.TheVariants.{Undef, Num, Over}
use Rattle.m_fixed.specs.Text.{printed}
use Rattle.observables.specs.declared.answer.Answer.{Answer}
use Rattle.observables.specs.declared.answer.Answer.TheVariants.{Values, Stopped}
use Rattle.observables.specs.declared.face.Face.{Face}
use Rattle.observables.specs.declared.face.FaceOutput.{FaceOutput}
use Rattle.observables.specs.declared.face.FaceOutput.TheVariants.{Named, Noted}
use Rattle.observables.specs.Answers.{Observation, values, stopped}
use Rattle.m_cases.specs.declared.expected.Expected.{Expected}
use Rattle.m_cases.specs.declared.expected.Expected.TheVariants.{Is, Stop}

-- the values of an answer that isn't a stop
abbrev pub answer_values : Answer → Option (List Value)
answer_values (Values vs) = Some vs
answer_values (Stopped stop) = None

-- the values after this many notes
abbrev pub named_values : ℕ → Option (List Value) → Option (List Value)
named_values notes None = None
named_values notes (Some vs) = Some (drop notes vs)

-- the values of an observation that isn't a stop
abbrev pub observation_values : Observation → Option (List Value)
observation_values (values notes vs) = Some vs
observation_values (stopped cause) = None

-- the actual value of the output with this number, or a stop
abbrev pub got_of : Option (List Value) → ℕ → Expected
got_of None output = Stop
got_of (Some vs) output = Is (slice_index_or vs output Undef)

-- whether two values are the same
abbrev pub is_same_value : Value → Value → Bool
is_same_value Undef Undef = true
is_same_value (Num x) (Num y) = int_eq x y
is_same_value Over Over = true
is_same_value _ _ = false

-- Whether an expectation is met by an actual value: `stop` by every stop, and a value by an equal
-- one.
abbrev pub is_met : Expected → Expected → Bool
is_met Stop Stop = true
is_met (Is v) (Is w) = is_same_value v w
is_met _ _ = false

-- an expected or actual value as text: an amount, `undefined`, `over` or `stop`
abbrev pub expected_text : Expected → List ℕ
expected_text Stop = codes "stop"
expected_text (Is Undef) = codes "undefined"
expected_text (Is Over) = codes "over"
expected_text (Is (Num amount)) = printed amount

-- the line of an expectation that isn't met: `mismatch martin IRN expected 7 got 0`
abbrev pub mismatch_line : List ℕ → List ℕ → Expected → Expected → List ℕ
mismatch_line label name expected got =
    joined (codes "mismatch " ∷ label ∷ codes " " ∷ name ∷ codes " expected " ∷ expected_text expected ∷ codes " got " ∷ expected_text got ∷ new_line ∷ [])

-- the line of an expectation that isn't met; empty for one that is
abbrev pub one_line : List (List ℕ) → List ℕ → Option (List Value) → ℕ × Expected → List ℕ
one_line names label vs e = if is_met e.1 (got_of vs e.0) then [] else mismatch_line label (slice_index_or names e.0 []) e.1 (got_of vs e.0)

-- The name of each output, in order; empty for a note.
abbrev pub output_names : List FaceOutput → List (List ℕ)
output_names [] = []
output_names (Named name ∷ outputs) = name ∷ output_names outputs
output_names (Noted number ∷ outputs) = [] ∷ output_names outputs

-- The lines of the expectations that aren't met, in order. `vs` are the values of the outputs with
-- these names, or none if the answer is a stop.
abbrev pub mismatch_lines : List (List ℕ) → List ℕ → Option (List Value) → List (ℕ × Expected) → List ℕ
mismatch_lines names label vs [] = []
mismatch_lines names label vs (e ∷ expected) = one_line names label vs e ++ mismatch_lines names label vs expected

-- the number of expectations that aren't met
abbrev pub mismatch_count : Option (List Value) → List (ℕ × Expected) → ℕ
mismatch_count vs [] = 0
mismatch_count vs (e ∷ expected) = (if is_met e.1 (got_of vs e.0) then 0 else 1) + mismatch_count vs expected

-- an answer that isn't a stop has a value for this output
abbrev pub HasOutput : ℕ → Answer → Type 0
HasOutput output (Values vs) = output < length vs
HasOutput output (Stopped stop) = Unit {0}

-- an answer that isn't a stop has a value for each output of the face
abbrev pub HasValueEach : Face → Answer → Type 0
HasValueEach face (Values vs) = length vs ≡ length face.outputs
HasValueEach face (Stopped stop) = Unit {0}

-- the last line: `cases 3 mismatches 1`
abbrev pub count_line : ℕ → ℕ → List ℕ
count_line cases mismatches = joined (codes "cases " ∷ decimal cases ∷ codes " mismatches " ∷ decimal mismatches ∷ new_line ∷ [])
