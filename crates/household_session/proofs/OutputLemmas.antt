-- The lines of outputs, from a position on, and the label of a stop.
use Rattle.std.proofs.Common.{◌≡◌, ℕ, ◌+◌, ◌<◌, ◌≤◌, length, get_or, drop, Bool, true, false, cond, List, [], ◌∷◌, ◌++◌, Option, Some, None, refl, sym, ◌∙◌, ap}
use Rattle.std.proofs.Common.{subst}
use Rattle.std.specs.Prelude.{map, ◌||◌}
use Rattle.std.specs.List.{AllByRecursion}
use Rattle.std.proofs.lemmas.List.{drop_more, drop_all}
use Rattle.std.specs.Option.{option_or, option_map_or}
use Rattle.std.proofs.lemmas.Option.{slice_get-get_or, get_or_from_slice_get}
use Rattle.m_fixed.specs.declared.amount.Value.{Value}
use Rattle.m_fixed.specs.declared.amount.Value.TheVariants.{Undef, Num, Over}
use Rattle.m_fixed.specs.Operators.{is_zero}
use Rattle.observables.specs.declared.answer.Stop.{Stop}
use Rattle.observables.specs.declared.answer.Stop.TheVariants.{Failed, Over as StopOver}
use Rattle.observables.specs.declared.face.Face.{Face}
use Rattle.observables.specs.declared.face.FaceLabel.{FaceLabel}
use Rattle.observables.specs.declared.face.FaceOutput.{FaceOutput}
use Rattle.observables.specs.declared.face.FaceOutput.TheVariants.{Noted}
use Rattle.flat_code.specs.declared.program.Check.{Check}
use Rattle.observables.specs.Answers.{label_number}
use Rattle.flat_code.specs.Runs.{value_at, is_one, stop_of, check_stop, first_stop}
use Rattle.flat_code.proofs.RunLemmas.{one_of_all}
use Rattle.tax_print.specs.Lines.{output_line, output_lines, outputs_lines}

-- the remaining lines begin with those of the output at this position
pub outputs_at : (face : Face) (vs : List Value) (outputs : List ℕ) (k : ℕ) (value : Value) → k < length face.outputs → k < length outputs
    → value ≡ value_at vs (get_or outputs k 0)
    → outputs_lines face.labels (drop k face.outputs) (map (value_at vs) (drop k outputs))
    ≡ output_line face k value ++ outputs_lines face.labels (drop (k + 1) face.outputs) (map (value_at vs) (drop (k + 1) outputs))
outputs_at face vs outputs k value shown h is =
    ap (λ left. outputs_lines face.labels left (map (value_at vs) (drop k outputs))) (drop_more face.outputs k (Noted 0) shown)
    ∙ ap (λ left. outputs_lines face.labels (get_or face.outputs k (Noted 0) ∷ drop (k + 1) face.outputs) (map (value_at vs) left)) (drop_more outputs k 0 h)
    ∙ ap (λ v. output_lines face.labels v (get_or face.outputs k (Noted 0)) ++ outputs_lines face.labels (drop (k + 1) face.outputs)
    (map (value_at vs) (drop (k + 1) outputs))) (sym is)
    ∙ ap (λ line. line ++ outputs_lines face.labels (drop (k + 1) face.outputs) (map (value_at vs) (drop (k + 1) outputs)))
    (sym (ap (λ output. option_map_or (output_lines face.labels value) output []) (slice_get-get_or face.outputs k (Noted 0) shown)))

no_lines : (labels : List FaceLabel) (outputs : List FaceOutput) → outputs_lines labels outputs [] ≡ []
no_lines labels [] = refl
no_lines labels (output ∷ outputs) = refl

-- past the last output there are no lines
pub outputs_end : (face : Face) (vs : List Value) (outputs : List ℕ) (k : ℕ) → length outputs ≤ k
    → outputs_lines face.labels (drop k face.outputs) (map (value_at vs) (drop k outputs)) ≡ []
outputs_end face vs outputs k h = ap (λ left. outputs_lines face.labels (drop k face.outputs) (map (value_at vs) left)) (drop_all k outputs h)
    ∙ no_lines face.labels (drop k face.outputs)

-- the value of an output, as code reads it
pub read_at : (vs : List Value) (outputs : List ℕ) (k : ℕ) (value : Value) → k < length outputs → AllByRecursion (λ output. output < length vs) outputs
    → value ≡ get_or vs (get_or outputs k 0) value → value ≡ value_at vs (get_or outputs k 0)
read_at vs outputs k value h all is =
    let within : get_or outputs k 0 < length vs = one_of_all _ outputs k _ all (slice_get-get_or outputs k 0 h) in
    is ∙ get_or_from_slice_get vs (get_or outputs k 0) (get_or vs (get_or outputs k 0) Undef) value (slice_get-get_or vs (get_or outputs k 0) Undef within)

-- ---- the label of a stop is that of its check

failed_label : (t : Bool) (label : ℕ) (stop : Stop) → cond t None (Some (Failed label)) ≡ Some stop → label_number stop ≡ label
failed_label true label stop is = absurd (cc is)
failed_label false label stop is = let same : Failed label ≡ stop = cc is in sym (ap label_number same)

stop_of_label : (over_only : Bool) (label : ℕ) (value : Value) (stop : Stop) → stop_of over_only label value ≡ Some stop → label_number stop ≡ label
stop_of_label over_only label Undef stop is = absurd (cc is)
stop_of_label over_only label (Num z) stop is = failed_label (over_only || is_zero z) label stop is
stop_of_label over_only label Over stop is = let same : StopOver label ≡ stop = cc is in sym (ap label_number same)

guarded_label : (t : Bool) (found : Option Stop) (label : ℕ) (stop : Stop) → (found ≡ Some stop → label_number stop ≡ label) → cond t found None ≡ Some stop
    → label_number stop ≡ label
guarded_label true found label stop h is = h is
guarded_label false found label stop h is = absurd (cc is)

check_label : (vs : List Value) (check : Check) (stop : Stop) → check_stop vs check ≡ Some stop → label_number stop ≡ check.label
check_label vs check stop is =
    guarded_label (is_one (value_at vs check.guard)) _ check.label stop (stop_of_label check.over_only check.label (value_at vs check.condition) stop) is

first_or_later : (found later : Option Stop) (stop : Stop) (n : ℕ) → (found ≡ Some stop → label_number stop < n) → (later ≡ Some stop → label_number stop < n)
    → option_or found later ≡ Some stop → label_number stop < n
first_or_later None later stop n here there is = there is
first_or_later (Some first) later stop n here there is = here is

-- if each check's label is below a number, so is that of the first stop
pub stop_label : (vs : List Value) (n : ℕ) (checks : List Check) (stop : Stop) → AllByRecursion (λ check. check.label < n) checks
    → first_stop vs checks ≡ Some stop → label_number stop < n
stop_label vs n [] stop all is = absurd (cc is)
stop_label vs n (check ∷ checks) stop all is =
    first_or_later (check_stop vs check) (first_stop vs checks) stop n (λ first. subst (λ label. label < n) (sym (check_label vs check stop first)) all.0)
    (stop_label vs n checks stop all.1) is
