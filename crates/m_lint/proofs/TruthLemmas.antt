-- Each finding is true.
use Rattle.std.proofs.Common.{◌≡◌, ℕ, ℤ, pos, zero, suc, ◌+◌, ◌<◌, Bool, true, false, cond, List, [], ◌∷◌, ◌++◌, length, get_or, map, Option, Some, None}
use Rattle.std.proofs.Common.{slice_get, Contains, refl, ap, sym, ◌∙◌, ◌⊎◌, inl, inr, arith}
use Rattle.std.specs.Prelude.{◌||◌, ◌&&◌, not, is_some, drop, fold, filter, option_map}
use Rattle.std.specs.List.{AllByRecursion, list_any, range_with_len, cons_option}
use Rattle.std.specs.Option.{option_map_or, option_or, option_and_then}
use Rattle.std.specs.Ordering.{int_eq}
use Rattle.std.proofs.lemmas.Bool.{or_cases, and_parts, or_parts, not-true, eqb-false, both_ways}
use Rattle.std.proofs.lemmas.Bool.Decides.{Decides-int_eq}
use Rattle.m_fixed.specs.declared.amount.Value.{Value}
use Rattle.m_fixed.specs.declared.amount.Value.TheVariants.{Undef, Num, Over}
use Rattle.m_fixed.specs.Operators.{is_zero}
use Rattle.m_places.specs.declared.verification.Label.{Label}
use Rattle.definedness.specs.Facts.{Possible, Holds}
use Rattle.definedness.specs.Ranges.{InSome, may_be_other, has_other}
use Rattle.definedness.proofs.Holding.{other_in}
use Rattle.observables.specs.declared.answer.Answer.TheVariants.{Values, Stopped}
use Rattle.observables.specs.declared.answer.Stop.{Stop}
use Rattle.observables.specs.declared.answer.Stop.TheVariants.{Failed, Over as OverStop}
use Rattle.observables.specs.declared.face.Face.{Face}
use Rattle.observables.specs.declared.face.FaceLabel.{FaceLabel}
use Rattle.observables.specs.declared.face.FaceLabel.TheVariants.{Verif, DriverLine}
use Rattle.observables.specs.declared.face.FaceOutput.{FaceOutput}
use Rattle.observables.specs.declared.face.FaceOutput.TheVariants.{Named, Noted}
use Rattle.observables.specs.declared.inputs.Coded.{Coded}
use Rattle.observables.specs.declared.inputs.InputType.{InputType}
use Rattle.observables.specs.Inputs.{IsValueOf, AreValuesOf}
use Rattle.observables.specs.Answers.{Observation, values, stopped, label_number, cause_of, is_reported, reported_note, reported_notes, observation}
use Rattle.observables.specs.Outputs.{are_named, notes_of, notes_stand_first, verif_at, verif_of}
use Rattle.flat_code.specs.declared.program.Node.{Node}
use Rattle.flat_code.specs.declared.program.Node.TheVariants.{Input, Lit, Do}
use Rattle.flat_code.specs.declared.program.Check.{Check}
use Rattle.flat_code.specs.declared.program.Flat.{Flat}
use Rattle.flat_code.specs.Facts.{IsPlain, ArePlain, facts, fact_at}
use Rattle.flat_code.specs.Faces.{IsFaceOf}
use Rattle.flat_code.specs.Runs.{IsFlat, IsCheck, entry_of, entries_of, values_for, node_values, value_at, is_one, stop_of, check_stop, first_stop, answer_by}
use Rattle.flat_code.specs.Runs.{flat_run}
use Rattle.flat_code.proofs.FactLemmas.{flat-holds}
use Rattle.m_symbols.specs.Declarations.{Declared}
use Rattle.micro_m.specs.declared.base.Base.{Base}
use Rattle.micro_m.specs.Bases.{is_among, targets_of}
use Rattle.m_lint.specs.declared.finding.Finding.{Finding}
use Rattle.m_lint.specs.declared.finding.Finding.TheVariants.{NeverDefined, NeverStops, Unused}
use Rattle.m_lint.specs.Readings.{is_read}
use Rattle.m_lint.specs.Findings.{numbers_with, is_given, is_never_defined, is_same_label, has_label, is_quiet, is_silent, is_silent_by}
use Rattle.m_lint.specs.Findings.{checks_are_silent, notes_are_silent, is_never_reported, label_of_check, is_never_stopping, is_input_node, is_unused}
use Rattle.m_lint.specs.Findings.{findings_of, IsWithinCounts, AreWithinCounts}
use Rattle.m_lint.specs.Truths.{ReportsEnding, IsNeverDefined, IsNeverStopping, AreEqualBut, IsUnused, IsTrueFinding}
use Rattle.m_lint.proofs.CodeLemmas.{label-itself}
use Rattle.m_lint.proofs.ReadLemmas.{read-is, no-definition}

-- ---- the values that inputs may have are values that programs take

plain-value : (kind : InputType) (value : Value) → IsValueOf kind value → IsPlain value
plain-value kind Undef h = record { amount = tt; bounded = λ e. cc }
plain-value kind (Num z) h = record { amount = h.0; bounded = λ e. cc }
plain-value kind Over h = absurd h

pub plain-values : (inputs : List Coded) (given : List Value) → AreValuesOf inputs given → ArePlain given
plain-values [] [] h = tt
plain-values [] (v ∷ vs) h = absurd h
plain-values (input ∷ inputs) [] h = tt
plain-values (input ∷ inputs) (v ∷ vs) h = (plain-value input.kind v h.0, plain-values inputs vs h.1)

-- ---- cells that are never defined

pub defined-true : (declared : Declared) (base : Base) (c : ℕ) → is_never_defined declared base c ≡ true → IsNeverDefined declared base c
defined-true declared base c e =
    let k = and_parts (is_read base c && not (is_given declared c)) (not (is_among c (targets_of base))) e in
    let r = and_parts (is_read base c) (not (is_given declared c)) k.0 in
    record {
      read = read-is base c r.0;
      given = not-true (is_given declared c) r.1;
      undefined = no-definition base.definitions c
          (not-true (is_among c (targets_of base)) k.1);
    }

-- ---- a quiet value is 0

quiet-zero : (f : Possible) (z : ℤ) → is_quiet f ≡ true → Holds f (Num z) → is_zero z ≡ true
quiet-zero f z e h = by f.range (not-true (may_be_other f.range) e) h
  where
    by : (range : Option (ℤ × ℤ)) → may_be_other range ≡ false → InSome range z → is_zero z ≡ true
    by None e h = absurd h
    by (Some r) e h = at (is_zero z) refl
      where
        at : (b : Bool) → is_zero z ≡ b → b ≡ true
        at true is = refl
        at false is = absurd (both_ways (has_other r) e (other_in r z h is))

one-other : (z : ℤ) → int_eq z (pos 1_000_000) ≡ true → is_zero z ≡ true → ⊥
one-other z e h =
    let is : z ≡ pos 1_000_000 = (Decides-int_eq z (pos 1_000_000)).0 e in
    let none : is_zero (pos 1_000_000) ≡ true = sym (ap is_zero is) ∙ h in
    cc none

-- ---- silent checks don't stop

-- if the guard is quiet
guard-stops : (f : Possible) (v : Value) → is_quiet f ≡ true → Holds f v → is_one v ≡ true → ⊥
guard-stops f Undef e h is = cc is
guard-stops f (Num z) e h is = one-other z is (quiet-zero f z e h)
guard-stops f Over e h is = cc is

-- if the condition isn't over, and is quiet or checked for over only
condition-stops : (f : Possible) (v : Value) (over_only : Bool) (number : ℕ) (stop : Stop) → f.over ≡ false → (is_quiet f ≡ true) ⊎ (over_only ≡ true)
    → Holds f v → stop_of over_only number v ≡ Some stop → ⊥
condition-stops f Undef over_only number stop o q h e = cc e
condition-stops f (Num z) over_only number stop o (inl q) h e = by over_only (rw (quiet-zero f z q h) at e)
  where
    by : (b : Bool) → cond (b || true) None (Some (Failed number)) ≡ Some stop → ⊥
    by true e = cc e
    by false e = cc e
condition-stops f (Num z) over_only number stop o (inr q) h e = cc (rw q at e)
condition-stops f Over over_only number stop o q h e = both_ways f.over o h

-- a check that stops isn't silent, and the stop has its label
silent-stops : (guard condition : Possible) (v w : Value) (over_only : Bool) (number : ℕ) (stop : Stop) → Holds guard v → Holds condition w
    → cond (is_one v) (stop_of over_only number w) None ≡ Some stop → is_silent_by guard condition over_only ≡ true → ⊥
silent-stops guard condition v w over_only number stop h k e s = by (is_one v) refl e
  where
    none : stop_of over_only number w ≡ Some stop → is_one v ≡ true
        → (is_quiet guard || (not condition.over && is_quiet condition)) ≡ true ⊎ (over_only && not condition.over) ≡ true → ⊥
    none e one (inl first) = elim (or_cases (is_quiet guard) (not condition.over && is_quiet condition) first)
        [ inl q ↦ guard-stops guard v q h one | inr q ↦ quiet q ]
      where
        quiet : (not condition.over && is_quiet condition) ≡ true → ⊥
        quiet q = let p = and_parts (not condition.over) (is_quiet condition) q in condition-stops condition w over_only number stop
            (not-true condition.over p.0) (inl p.1) k e
    none e one (inr q) = let p = and_parts over_only (not condition.over) q in condition-stops condition w over_only number stop (not-true condition.over p.1)
        (inr p.0) k e

    by : (b : Bool) → is_one v ≡ b → cond b (stop_of over_only number w) None ≡ Some stop → ⊥
    by true one e = none e one (or_cases (is_quiet guard || (not condition.over && is_quiet condition)) (over_only && not condition.over) s)
    by false one e = cc e

stop-number : (over_only : Bool) (number : ℕ) (one : Bool) (w : Value) (stop : Stop) → cond one (stop_of over_only number w) None ≡ Some stop
    → label_number stop ≡ number
stop-number over_only number false w stop e = cc e
stop-number over_only number true Undef stop e = cc e
stop-number over_only number true (Num z) stop e = by (over_only || is_zero z) e
  where
    by : (b : Bool) → cond b None (Some (Failed number)) ≡ Some stop → label_number stop ≡ number
    by true e = cc e
    by false e = let is : stop ≡ Failed number = cc in ap label_number is
stop-number over_only number true Over stop e = let is : stop ≡ OverStop number = cc in ap label_number is

-- the facts of the first nodes hold of their values
abbrev pub HoldAll : ℕ → List Possible → List Value → Type 0
HoldAll count known vs = (p : ℕ) → p < count → Holds (fact_at known p) (value_at vs p)

no-stop : (labels : List FaceLabel) (this : Label) (known : List Possible) (vs : List Value) (count : ℕ) (checks : List Check) (stop : Stop)
    → AllByRecursion (IsCheck count) checks → HoldAll count known vs
    → checks_are_silent labels this known checks ≡ true → first_stop vs checks ≡ Some stop → has_label labels this (label_number stop) ≡ false
no-stop labels this known vs count [] stop valid holds silent e = cc e
no-stop labels this known vs count (check ∷ checks) stop valid holds silent e =
    by (no-stop labels this known vs count checks stop valid.1 holds (and_parts (not (has_label labels this check.label) || is_silent known check)
    (checks_are_silent labels this known checks) silent).1)
    (check_stop vs check) refl e
  where
    parts : ((not (has_label labels this check.label) || is_silent known check) ≡ true) × (checks_are_silent labels this known checks ≡ true)
    parts = and_parts (not (has_label labels this check.label) || is_silent known check) (checks_are_silent labels this known checks) silent

    here : check_stop vs check ≡ Some stop → (not (has_label labels this check.label) ≡ true) ⊎ (is_silent known check ≡ true)
        → has_label labels this (label_number stop) ≡ false
    here e (inl h) =
        ap (has_label labels this) (stop-number check.over_only check.label (is_one (value_at vs check.guard)) (value_at vs check.condition) stop e)
        ∙ not-true (has_label labels this check.label) h
    here e (inr h) = absurd (silent-stops (fact_at known check.guard) (fact_at known check.condition) (value_at vs check.guard) (value_at vs check.condition)
        check.over_only check.label stop (holds check.guard valid.0.0) (holds check.condition valid.0.1) e h)

    by : (first_stop vs checks ≡ Some stop → has_label labels this (label_number stop) ≡ false) → (found : Option Stop) → check_stop vs check ≡ found
        → option_or found (first_stop vs checks) ≡ Some stop → has_label labels this (label_number stop) ≡ false
    by rest None is e = rest e
    by rest (Some other) is e = here (is ∙ e) (or_cases (not (has_label labels this check.label)) (is_silent known check) parts.0)

-- ---- silent notes aren't reported

reported-zero : (f : Possible) (v : Value) → is_quiet f ≡ true → Holds f v → is_reported v ≡ true → ⊥
reported-zero f Undef q h e = cc e
reported-zero f (Num z) q h e = both_ways (is_zero z) (not-true (is_zero z) e) (quiet-zero f z q h)
reported-zero f Over q h e = cc e

pub named-none : (outputs : List FaceOutput) → are_named outputs ≡ true → notes_of outputs ≡ []
named-none [] e = refl
named-none (Named name ∷ outputs) e = named-none outputs e
named-none (Noted number ∷ outputs) e = cc e

-- a note that is reported has its label
reported-label : (labels : List FaceLabel) (this : Label) (number : ℕ) (v : Value) → reported_note labels number v ≡ Some this
    → (is_reported v ≡ true) × (has_label labels this number ≡ true)
reported-label labels this number v e = by (is_reported v) refl e
  where
    by : (b : Bool) → is_reported v ≡ b → cond b (verif_at labels number) None ≡ Some this → (is_reported v ≡ true) × (has_label labels this number ≡ true)
    by true is e = (is, ap (λ o. option_map_or (is_same_label this) o false) e ∙ label-itself this)
    by false is e = cc e

no-note : (labels : List FaceLabel) (this : Label) (known : List Possible) (vs : List Value) (count : ℕ) (outputs : List FaceOutput) (ps : List ℕ)
    → notes_stand_first labels outputs ≡ true
    → AllByRecursion (λ p. p < count) ps → HoldAll count known vs → notes_are_silent labels this known outputs ps ≡ true
    → Contains (reported_notes labels (notes_of outputs) (map (value_at vs) ps)) this → ⊥
no-note labels this known vs count [] ps first low holds silent has = omega (arith, has.1)
no-note labels this known vs count (Named name ∷ outputs) ps first low holds silent has =
    let empty : reported_notes labels (notes_of outputs) (map (value_at vs) ps) ≡ [] = ap (λ ns. reported_notes labels ns (map (value_at vs) ps))
    (named-none outputs first) in
    omega (arith, has.1, ap length empty)
no-note labels this known vs count (Noted number ∷ outputs) [] first low holds silent has = omega (arith, has.1)
no-note labels this known vs count (Noted number ∷ outputs) (p ∷ ps) first low holds silent has =
    by (no-note labels this known vs count outputs ps (and_parts (is_some (verif_at labels number)) (notes_stand_first labels outputs) first).1 low.1 holds
    (and_parts (not (has_label labels this number) || is_quiet (fact_at known p)) (notes_are_silent labels this known outputs ps) silent).1)
    (reported_note labels number (value_at vs p)) refl has
  where
    parts : ((not (has_label labels this number) || is_quiet (fact_at known p)) ≡ true) × (notes_are_silent labels this known outputs ps ≡ true)
    parts = and_parts (not (has_label labels this number) || is_quiet (fact_at known p)) (notes_are_silent labels this known outputs ps) silent

    here : reported_note labels number (value_at vs p) ≡ Some this → ⊥
    here e =
        let k = reported-label labels this number (value_at vs p) e in
        elim (or_cases (not (has_label labels this number)) (is_quiet (fact_at known p)) parts.0) [
          | inl h ↦ both_ways (has_label labels this number) (not-true (has_label labels this number) h) k.1
          | inr q ↦ reported-zero (fact_at known p)
              (value_at vs p) q (holds p low.0) k.0
        ]

    at : (Contains (reported_notes labels (notes_of outputs) (map (value_at vs) ps)) this → ⊥) → (label : Label)
        → reported_note labels number (value_at vs p) ≡ Some label → (k : ℕ)
        → k < suc (length (reported_notes labels (notes_of outputs) (map (value_at vs) ps)))
        → get_or (label ∷ reported_notes labels (notes_of outputs) (map (value_at vs) ps)) k this ≡ this → ⊥
    at later label is zero lt e = here (is ∙ ap Some e)
    at later label is (suc k) lt e = later (k, omega (arith, lt), e)

    by : (Contains (reported_notes labels (notes_of outputs) (map (value_at vs) ps)) this → ⊥) → (found : Option Label)
        → reported_note labels number (value_at vs p) ≡ found → Contains (cons_option found (reported_notes labels (notes_of outputs) (map (value_at vs) ps)))
        this → ⊥
    by later None is has = later has
    by later (Some label) is has = at later label is has.0 has.1 has.2

-- ---- checks that never stop

-- the label of a stop is the one with its number
cause-label : (stop : Stop) (l : FaceLabel) (this : Label) (labels : List FaceLabel) → slice_get labels (label_number stop) ≡ Some l
    → ReportsEnding (stopped (cause_of stop l)) this → has_label labels this (label_number stop) ≡ true
cause-label stop (DriverLine line) this labels e (inl h) = cc h
cause-label stop (DriverLine line) this labels e (inr h) = cc h
cause-label (Failed n) (Verif label) this labels e (inl h) = let is : label ≡ this = cc in ap
    (λ o. option_map_or (is_same_label this) (option_and_then verif_of o) false) (e ∙ ap (λ (x : Label). Some (Verif x)) is) ∙ label-itself this
cause-label (Failed n) (Verif label) this labels e (inr h) = cc h
cause-label (OverStop n) (Verif label) this labels e (inl h) = cc h
cause-label (OverStop n) (Verif label) this labels e (inr h) = let is : label ≡ this = cc in ap
    (λ o. option_map_or (is_same_label this) (option_and_then verif_of o) false) (e ∙ ap (λ (x : Label). Some (Verif x)) is) ∙ label-itself this

-- the observation of a run in which the label is silent doesn't report it
pub never-reported : (known : List Possible) (flat : Flat) (face : Face) (this : Label) (vs : List Value) (reported : Observation) → IsFlat flat
    → HoldAll (length flat.nodes) known vs → is_never_reported known flat face this ≡ true
    → observation face.labels (notes_of face.outputs) (answer_by vs flat) ≡ Some reported → ReportsEnding reported this → ⊥
never-reported known flat face this vs reported valid holds silent e observe = by (first_stop vs flat.checks) refl e
  where
    parts : (checks_are_silent face.labels this known flat.checks ≡ true) × (notes_are_silent face.labels this known face.outputs flat.outputs ≡ true)
    parts = and_parts (checks_are_silent face.labels this known flat.checks) (notes_are_silent face.labels this known face.outputs flat.outputs) silent

    label : (stop : Stop) (found : Option FaceLabel) → slice_get face.labels (label_number stop) ≡ found
        → has_label face.labels this (label_number stop) ≡ false → option_map (λ l. stopped (cause_of stop l)) found ≡ Some reported → ⊥
    label stop None is none e = cc e
    label stop (Some l) is none e = let same : reported ≡ stopped (cause_of stop l) = cc in both_ways (has_label face.labels this (label_number stop)) none
        (cause-label stop l this face.labels is (rw same at observe))

    by : (found : Option Stop) → first_stop vs flat.checks ≡ found
        → observation face.labels (notes_of face.outputs) (option_map_or Stopped found (Values (map (value_at vs) flat.outputs))) ≡ Some reported → ⊥
    by None is e =
        let same : reported ≡ values (reported_notes face.labels (notes_of face.outputs) (map (value_at vs) flat.outputs))
        (drop (length (notes_of face.outputs)) (map (value_at vs) flat.outputs)) = cc in
        no-note face.labels this known vs (length flat.nodes) face.outputs flat.outputs face.notes valid.outputs holds parts.1 (rw same at observe)
    by (Some stop) is e =
        label stop (slice_get face.labels (label_number stop)) refl
        (no-stop face.labels this known vs (length flat.nodes) flat.checks stop valid.checks holds parts.0 is) e

abbrev ReportsAll : Flat → Face → (List Value → Observation) → Type 0
ReportsAll flat face observe = (given : List Value) → AreValuesOf face.inputs given
    → observation face.labels (notes_of face.outputs) (flat_run flat given) ≡ Some (observe given)

-- the label of a check that never stops is never reported
pub label-silent : (known : List Possible) (base : Base) (flat : Flat) (face : Face) (k : ℕ) (this : Label) → label_of_check base k ≡ Some this
    → is_never_stopping known base flat face k ≡ true → is_never_reported known flat face this ≡ true
label-silent known base flat face k this is e = sym (ap (λ o. option_map_or (is_never_reported known flat face) o false) is) ∙ e

pub stopping-true : (base : Base) (flat : Flat) (face : Face) (observe : List Value → Observation) (k : ℕ) → IsFlat flat → ReportsAll flat face observe
    → is_never_stopping (entries_of facts flat.nodes) base flat face k ≡ true → IsNeverStopping base face.inputs observe k
stopping-true base flat face observe k valid all e = λ this is given may reported.
    let known = entries_of facts flat.nodes in
    let silent : is_never_reported known flat face this ≡ true = label-silent known base flat face k this is e in
    never-reported known flat face this (node_values given flat.nodes) (observe given) valid
    (λ p low. flat-holds flat given p valid (plain-values face.inputs given may) low) silent (all given may) reported

-- ---- inputs that aren't used

abbrev more : List Value → List Value → Node → List Value
more inputs vs node = vs ++ entry_of (values_for inputs) vs node ∷ []

entry-same : (n : ℕ) (given other vs : List Value) (node : Node) → is_input_node n node ≡ false → AreEqualBut n given other
    → entry_of (values_for given) vs node ≡ entry_of (values_for other) vs node
entry-same n given other vs (Input m) e h = h m (λ same. eqb-false n m e (sym same))
entry-same n given other vs (Lit v) e h = refl
entry-same n given other vs (Do op a b c) e h = refl

from-same : (n : ℕ) (given other vs : List Value) (nodes : List Node) → list_any (is_input_node n) nodes ≡ false → AreEqualBut n given other
    → fold (more given) vs nodes ≡ fold (more other) vs nodes
from-same n given other vs [] e h = refl
from-same n given other vs (node ∷ nodes) e h =
    let k = or_parts (is_input_node n node) (list_any (is_input_node n) nodes) e in
    ap (λ v. fold (more given) (vs ++ v ∷ []) nodes) (entry-same n given other vs node k.0 h) ∙ from-same n given other (more other vs node) nodes k.1 h

pub unused-true : (flat : Flat) (face : Face) (observe : List Value → Observation) (n : ℕ) → ReportsAll flat face observe → is_unused flat n ≡ true
    → IsUnused face.inputs observe n
unused-true flat face observe n all e = λ given other may can same.
    let runs : flat_run flat given ≡ flat_run flat other = ap (λ vs. answer_by vs flat)
    (from-same n given other [] flat.nodes (not-true (list_any (is_input_node n) flat.nodes) e) same) in
    let both : Some (observe given) ≡ Some (observe other) = sym (all given may) ∙ ap (observation face.labels (notes_of face.outputs)) runs ∙ all other can in
    cc both

-- ---- all findings

found-all : (P : Finding → Type 0) (K : ℕ → Finding) (test : ℕ → Bool) (first n : ℕ) → ((k : ℕ) → k < first + n → test k ≡ true → P (K k))
    → AllByRecursion P (map K (filter test (range_with_len first n)))
found-all P K test first zero h = tt
found-all P K test first (suc n) h = by (test first) refl (found-all P K test (first + 1) n (λ k low e. h k (omega (arith, low)) e))
  where
    by : (b : Bool) → test first ≡ b → AllByRecursion P (map K (filter test (range_with_len (first + 1) n)))
        → AllByRecursion P (map K (cond b (first ∷ filter test (range_with_len (first + 1) n)) (filter test (range_with_len (first + 1) n))))
    by true e rest = (h first (omega arith) e, rest)
    by false e rest = rest

pub numbers-all : (P : Finding → Type 0) (K : ℕ → Finding) (test : ℕ → Bool) (n : ℕ) → ((k : ℕ) → k < n → test k ≡ true → P (K k))
    → AllByRecursion P (map K (numbers_with test n))
numbers-all P K test n h = found-all P K test 0 n (λ k low e. h k (omega (arith, low)) e)

all-append : (P : Finding → Type 0) (xs ys : List Finding) → AllByRecursion P xs → AllByRecursion P ys → AllByRecursion P (xs ++ ys)
all-append P [] ys h k = k
all-append P (x ∷ xs) ys h k = (h.0, all-append P xs ys h.1 k)

three : (P : Finding → Type 0) (xs ys zs : List Finding) → AllByRecursion P xs → AllByRecursion P ys → AllByRecursion P zs → AllByRecursion P (xs ++ ys ++ zs)
three P xs ys zs h k l = all-append P (xs ++ ys) zs (all-append P xs ys h k) l

pub all_true : (declared : Declared) (base : Base) (flat : Flat) (face : Face) (observe : List Value → Observation) → IsFlat flat → IsFaceOf face flat
    → ((given : List Value) → AreValuesOf face.inputs given → observation face.labels (notes_of face.outputs) (flat_run flat given) ≡ Some (observe given))
    → AllByRecursion (IsTrueFinding declared base face.inputs observe) (findings_of declared base flat face)
all_true declared base flat face observe valid shown all =
    three (IsTrueFinding declared base face.inputs observe)
    (map NeverDefined (numbers_with (is_never_defined declared base) base.cells))
    (map NeverStops (numbers_with (is_never_stopping (entries_of facts flat.nodes) base flat face) (length base.checks)))
    (map Unused (numbers_with (is_unused flat) flat.inputs))
    (numbers-all (IsTrueFinding declared base face.inputs observe) NeverDefined (is_never_defined declared base) base.cells
    (λ k low e. defined-true declared base k e))
    (numbers-all (IsTrueFinding declared base face.inputs observe) NeverStops (is_never_stopping (entries_of facts flat.nodes) base flat face)
    (length base.checks) (λ k low e. stopping-true base flat face observe k valid all e))
    (numbers-all (IsTrueFinding declared base face.inputs observe) Unused (is_unused flat) flat.inputs (λ k low e. unused-true flat face observe k all e))

-- and their numbers are below the counts
pub all_within : (declared : Declared) (base : Base) (flat : Flat) (face : Face)
    → AreWithinCounts base.cells (length base.checks) flat.inputs (findings_of declared base flat face)
all_within declared base flat face =
    three (IsWithinCounts base.cells (length base.checks) flat.inputs)
    (map NeverDefined (numbers_with (is_never_defined declared base) base.cells))
    (map NeverStops (numbers_with (is_never_stopping (entries_of facts flat.nodes) base flat face) (length base.checks)))
    (map Unused (numbers_with (is_unused flat) flat.inputs))
    (numbers-all (IsWithinCounts base.cells (length base.checks) flat.inputs) NeverDefined (is_never_defined declared base) base.cells (λ k low e. low))
    (numbers-all (IsWithinCounts base.cells (length base.checks) flat.inputs) NeverStops (is_never_stopping (entries_of facts flat.nodes) base flat face)
    (length base.checks) (λ k low e. low))
    (numbers-all (IsWithinCounts base.cells (length base.checks) flat.inputs) Unused (is_unused flat) flat.inputs (λ k low e. low))
