-- The findings are true.
use Rattle.std.proofs.Common.{◌≡◌, ℕ, ◌+◌, ◌<◌, ◌≤◌, Bool, true, false, cond, List, [], ◌∷◌, length, get_or, drop, map, Option, Some, None, slice_get, refl, ap}
use Rattle.std.proofs.Common.{sym, ◌∙◌, subst, ⊎_elim, arith}
use Rattle.std.specs.Prelude.{is_some, filter, option_map}
use Rattle.std.specs.List.{AllByRecursion, AllZip, range_with_len}
use Rattle.std.specs.Option.{option_map_or}
use Rattle.std.proofs.lemmas.Bool.{and_parts, cases_lt}
use Rattle.std.proofs.lemmas.List.{drop-map, get_or-drop, get_or-map, get_or_past, length-map}
use Rattle.m_fixed.specs.declared.amount.Value.{Value}
use Rattle.m_fixed.specs.declared.amount.Value.TheVariants.{Undef}
use Rattle.m_places.specs.declared.verification.Label.{Label}
use Rattle.definedness.specs.Facts.{Possible, Holds}
use Rattle.observables.specs.declared.answer.Answer.TheVariants.{Values, Stopped}
use Rattle.observables.specs.declared.answer.Stop.{Stop}
use Rattle.observables.specs.declared.face.Face.{Face}
use Rattle.observables.specs.declared.face.FaceLabel.{FaceLabel}
use Rattle.observables.specs.declared.face.FaceOutput.{FaceOutput}
use Rattle.observables.specs.declared.face.FaceOutput.TheVariants.{Named, Noted}
use Rattle.observables.specs.Inputs.{AreValuesOf}
use Rattle.observables.specs.Answers.{Observation, values, stopped, label_number, cause_of, observation}
use Rattle.observables.specs.Outputs.{are_named, notes_of, notes_stand_first, verif_at}
use Rattle.flat_code.specs.declared.program.Flat.{Flat}
use Rattle.flat_code.specs.Facts.{AreWithin, fact_at}
use Rattle.flat_code.specs.Faces.{IsFaceOf}
use Rattle.flat_code.specs.Runs.{IsFlat, node_values, value_at, first_stop, flat_run}
use Rattle.flat_code.proofs.FactLemmas.{flat-within}
use Rattle.flat_code.proofs.RunLemmas.{length-node_values}
use Rattle.input_reads.specs.Reads.{may_depend, depends_on}
use Rattle.input_reads.proofs.DependLemmas.{by-test, depends-within}
use Rattle.input_reads.proofs.ListLemmas.{number-has, all-drop}
use Rattle.input_reads.proofs.ValueLemmas.{agree}
use Rattle.micro_m.specs.declared.base.Base.{Base}
use Rattle.m_lint.specs.Findings.{is_never_stopping}
use Rattle.m_lint.proofs.TruthLemmas.{named-none, label-silent, never-reported}
use Rattle.m_facts.specs.Found.{known_of, node_of, found_of}
use Rattle.m_facts.specs.Lines.{named_facts}
use Rattle.m_facts.proofs.FindLemmas.{all-at}
use Rattle.m_facts.specs.Truths.{ArePossible, IsSilent, DependsOn}

abbrev ReportsAll : Flat → Face → (List Value → Observation) → Type 0
ReportsAll flat face observe = (vs : List Value) → AreValuesOf face.inputs vs → observation face.labels (notes_of face.outputs) (flat_run flat vs) ≡ Some
    (observe vs)

-- ---- the observation of a run that does not stop

reported-are : (flat : Flat) (face : Face) (vs reported : List Value) (notes : List Label)
    → observation face.labels (notes_of face.outputs) (flat_run flat vs) ≡ Some (values notes reported)
    → reported ≡ drop (length (notes_of face.outputs)) (map (value_at (node_values vs flat.nodes)) flat.outputs)
reported-are flat face vs reported notes e = by (first_stop (node_values vs flat.nodes) flat.checks) e
  where
    all : List Value
    all = map (value_at (node_values vs flat.nodes)) flat.outputs

    never : (stop : Stop) (found : Option FaceLabel) → option_map (λ label. stopped (cause_of stop label)) found ≡ Some (values notes reported) → ⊥
    never stop None e = cc e
    never stop (Some label) e = cc e

    by : (found : Option Stop) → observation face.labels (notes_of face.outputs) (option_map_or Stopped found (Values all)) ≡ Some (values notes reported)
        → reported ≡ drop (length (notes_of face.outputs)) all
    by None e = cc
    by (Some stop) e = absurd (never stop (slice_get face.labels (label_number stop)) e)

-- ---- values are possible

held : (flat : Flat) (given : List Possible) (vs : List Value) → IsFlat flat → AreWithin given vs → (p : ℕ) → p < length flat.nodes
    → Holds (fact_at (known_of flat given) p) (value_at (node_values vs flat.nodes) p)
held flat given vs valid within p low = flat-within given flat vs p valid within low

zip-held : (count : ℕ) (f : ℕ → Possible) (g : ℕ → Value) (ps : List ℕ) → ((p : ℕ) → p < count → Holds (f p) (g p)) → AllByRecursion (λ p. p < count) ps
    → AllZip Holds (map f ps) (map g ps)
zip-held count f g [] h low = tt
zip-held count f g (p ∷ ps) h low = (h p low.0, zip-held count f g ps h low.1)

-- outputs that all have names
all-named : (outputs : List FaceOutput) (f : ℕ → Possible) (ps : List ℕ) → are_named outputs ≡ true → length outputs ≡ length ps
    → named_facts outputs (map f ps) ≡ map f ps
all-named [] f [] e same = refl
all-named [] f (p ∷ ps) e same = absurd (omega (arith, same))
all-named (Named name ∷ outputs) f [] e same = absurd (omega (arith, same))
all-named (Named name ∷ outputs) f (p ∷ ps) e same = ap (λ facts. f p ∷ facts) (all-named outputs f ps e (omega (arith, same)))
all-named (Noted number ∷ outputs) f ps e same = cc e

-- the facts of outputs with names are those after the notes'
named-after : (labels : List FaceLabel) (outputs : List FaceOutput) (f : ℕ → Possible) (ps : List ℕ) → notes_stand_first labels outputs ≡ true
    → length outputs ≡ length ps
    → named_facts outputs (map f ps) ≡ map f (drop (length (notes_of outputs)) ps)
named-after labels [] f [] e same = refl
named-after labels [] f (p ∷ ps) e same = absurd (omega (arith, same))
named-after labels (Named name ∷ outputs) f ps e same =
    all-named (Named name ∷ outputs) f ps e same ∙ ap (λ (notes : List ℕ). map f (drop (length notes) ps)) (sym (named-none outputs e))
named-after labels (Noted number ∷ outputs) f [] e same = absurd (omega (arith, same))
named-after labels (Noted number ∷ outputs) f (p ∷ ps) e same =
    named-after labels outputs f ps (and_parts (is_some (verif_at labels number)) (notes_stand_first labels outputs) e).1 (omega (arith, same))

pub possible-true : (base : Base) (flat : Flat) (face : Face) (given : List Possible) (observe : List Value → Observation) → IsFlat flat → IsFaceOf face flat
    → ReportsAll flat face observe
    → ArePossible face.inputs given observe (named_facts face.outputs (found_of base flat face given).possible)
possible-true base flat face given observe valid shown all = λ vs allowed notes reported e.
    let known = known_of flat given in
    let f : ℕ → Possible = fact_at known in
    let g : ℕ → Value = value_at (node_values vs flat.nodes) in
    let m = length (notes_of face.outputs) in
    let are : reported ≡ map g (drop m flat.outputs) = reported-are flat face vs reported notes (all vs allowed.may ∙ ap Some e) ∙ drop-map g m flat.outputs in
    let facts : named_facts face.outputs (map f flat.outputs) ≡ map f (drop m flat.outputs) = named-after face.labels face.outputs f flat.outputs face.notes
    shown.outputs in
    subst (AllZip Holds (named_facts face.outputs (map f flat.outputs))) (sym are)
    (subst (λ facts. AllZip Holds facts (map g (drop m flat.outputs))) (sym facts)
    (zip-held (length flat.nodes) f g (drop m flat.outputs) (held flat given vs valid allowed.within)
    (all-drop (λ p. p < length flat.nodes) m flat.outputs valid.outputs)))

-- ---- what never stops

filter-all : (P : ℕ → Type 0) (test : ℕ → Bool) (ks : List ℕ) → ((k : ℕ) → test k ≡ true → P k) → AllByRecursion P (filter test ks)
filter-all P test [] h = tt
filter-all P test (k ∷ ks) h = by (test k) refl (filter-all P test ks h)
  where
    by : (b : Bool) → test k ≡ b → AllByRecursion P (filter test ks) → AllByRecursion P (cond b (k ∷ filter test ks) (filter test ks))
    by true e rest = (h k e, rest)
    by false e rest = rest

pub silent-true : (base : Base) (flat : Flat) (face : Face) (given : List Possible) (observe : List Value → Observation) → IsFlat flat → IsFaceOf face flat
    → ReportsAll flat face observe
    → AllByRecursion (IsSilent base face.inputs given observe) (found_of base flat face given).silent
silent-true base flat face given observe valid shown all =
    let known = known_of flat given in
    filter-all (IsSilent base face.inputs given observe) (is_never_stopping known base flat face) (range_with_len 0 (length base.checks))
    (λ k e. λ label is vs allowed reported.
    never-reported known flat face label (node_values vs flat.nodes) (observe vs) valid (held flat given vs valid allowed.within)
    (label-silent known base flat face k label is e) (all vs allowed.may) reported)

-- ---- dependences

-- the reported value at a place is that of its output's node
reported-at : (flat : Flat) (face : Face) (vs reported : List Value) (notes : List Label) (place k : ℕ)
    → observation face.labels (notes_of face.outputs) (flat_run flat vs) ≡ Some (values notes reported)
    → k ≡ length (notes_of face.outputs) + place → k < length flat.outputs
    → value_at reported place ≡ value_at (node_values vs flat.nodes) (node_of flat.outputs k)
reported-at flat face vs reported notes place k e is low =
    let g : ℕ → Value = value_at (node_values vs flat.nodes) in
    let m = length (notes_of face.outputs) in
    ap (λ vs. value_at vs place) (reported-are flat face vs reported notes e) ∙ get_or-drop m (map g flat.outputs) place Undef
    ∙ ap (λ j. get_or (map g flat.outputs) j Undef) (sym is) ∙ get_or-map g flat.outputs k 0 Undef low

reported-past : (flat : Flat) (face : Face) (vs reported : List Value) (notes : List Label) (place k : ℕ)
    → observation face.labels (notes_of face.outputs) (flat_run flat vs) ≡ Some (values notes reported)
    → k ≡ length (notes_of face.outputs) + place → length flat.outputs ≤ k → value_at reported place ≡ Undef
reported-past flat face vs reported notes place k e is high =
    let g : ℕ → Value = value_at (node_values vs flat.nodes) in
    let m = length (notes_of face.outputs) in
    ap (λ vs. value_at vs place) (reported-are flat face vs reported notes e) ∙ get_or-drop m (map g flat.outputs) place Undef
    ∙ ap (λ j. get_or (map g flat.outputs) j Undef) (sym is) ∙ get_or_past (map g flat.outputs) k Undef (omega (arith, high, length-map flat.outputs g))

pub depends-true : (flat : Flat) (face : Face) (given : List Possible) (observe : List Value → Observation) (place k : ℕ) → IsFlat flat → IsFaceOf face flat
    → ReportsAll flat face observe
    → k ≡ length (notes_of face.outputs) + place
    → DependsOn face.inputs given observe place (depends_on (known_of flat given) flat.nodes flat.inputs (node_of flat.outputs k))
depends-true flat face given observe place k valid shown all is = λ vs ws first second same notes others reported stated e d.
    let known = known_of flat given in
    let p = node_of flat.outputs k in
    let reported_vs = all vs first.may ∙ ap Some e in
    let reported_ws = all ws second.may ∙ ap Some d in
    ⊎_elim
    (λ (low : k < length flat.outputs).
    reported-at flat face vs reported notes place k reported_vs is low
    ∙ agree known flat.nodes flat.inputs p vs ws valid.nodes
    (λ q lt. held flat given vs valid first.within q (omega (arith, lt, length-node_values vs flat.nodes)))
    (λ q lt. held flat given ws valid second.within q (omega (arith, lt, length-node_values ws flat.nodes)))
    (all-at (length flat.nodes) k flat.outputs valid.outputs low)
    (λ n steps. same n (number-has (may_depend known flat.nodes p) flat.inputs n (depends-within known flat.nodes flat.inputs n p valid.nodes steps)
    (by-test known flat.nodes flat.inputs n p valid.nodes steps)))
    ∙ sym (reported-at flat face ws stated others place k reported_ws is low))
    (λ (high : length flat.outputs ≤ k). reported-past flat face vs reported notes place k reported_vs is high
    ∙ sym (reported-past flat face ws stated others place k reported_ws is high))
    (cases_lt k (length flat.outputs))
