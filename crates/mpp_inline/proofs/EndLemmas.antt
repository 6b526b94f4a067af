use Rattle.std.proofs.Common.{◌≡◌, ℕ, zero, suc, ◌+◌, ◌*◌, ◌<◌, ◌≤◌, Bool, true, false, cond, List, [], ◌∷◌, ◌++◌, map, take, drop, length, get_or, slice_get}
use Rattle.std.proofs.Common.{replicate, Option, Some, None, not, refl, ◌⊎◌, inl, inr, ⊎_elim, sym, ap, ◌∙◌, subst, arith, add-one, ℤ, pos, length-append}
use mathlib.Core.Bool.{◌||◌, ◌&&◌}
use Rattle.std.specs.List.{AllByRecursion, AllZip, cons_option, filter_map}
use Rattle.std.specs.Ordering.{int_eq}
use Rattle.std.specs.Option.{option_or, option_map_or}
use Rattle.std.specs.Prelude.{option_map}
use Rattle.std.proofs.lemmas.Bool.Decides.{Decides-int_eq}
use Rattle.std.proofs.lemmas.Bool.{cases_lt}
use Rattle.std.proofs.lemmas.List.{map-append, get_or-map, length-map}
use Rattle.std.proofs.lemmas.Option.{slice_get-get_or}
use Rattle.m_fixed.specs.declared.amount.Value.{Value}
use Rattle.m_fixed.specs.declared.amount.Value.TheVariants.{Undef, Num, Over as OverValue}
use Rattle.m_fixed.specs.declared.operator.Op.TheVariants.{And}
use Rattle.m_fixed.specs.Operators.{op_value, bounded, truth, is_zero}
use Rattle.m_places.specs.declared.limits.TheConstants.{CELLS, DRIVER_WEIGHT}
use Rattle.m_places.specs.declared.verification.Label.{Label}
use Rattle.m_ast.specs.declared.variable.Role.{Role}
use Rattle.m_ast.specs.declared.variable.Role.TheVariants.{Input as InputRole, Computed as ComputedRole, Constant}
use Rattle.m_ast.specs.Items.{is_input, code_in}
use Rattle.m_symbols.specs.declared.variable.Variable.{Variable}
use Rattle.m_symbols.specs.Declarations.{Declared, inputs_from, owners_from}
use Rattle.micro_m.specs.declared.base.Base.{Base}
use Rattle.driver_core.specs.declared.program.Core.{Core}
use Rattle.micro_m.specs.Values.{environment}
use Rattle.observables.specs.declared.answer.Stop.{Stop}
use Rattle.observables.specs.declared.answer.Stop.TheVariants.{Failed}
use Rattle.observables.specs.declared.answer.Answer.TheVariants.{Values, Stopped}
use Rattle.flat_code.specs.declared.program.Node.{Node}
use Rattle.flat_code.specs.Entries.{node_at}
use Rattle.flat_code.specs.Tidy.{Reads}
use Rattle.flat_code.specs.declared.program.Check.{Check}
use Rattle.observables.specs.declared.face.FaceLabel.{FaceLabel}
use Rattle.observables.specs.declared.face.FaceLabel.TheVariants.{Verif, DriverLine}
use Rattle.observables.specs.declared.inputs.Coded.{Coded}
use Rattle.observables.specs.declared.inputs.InputType.{InputType}
use Rattle.observables.specs.declared.inputs.InputType.TheVariants.{Any, Whole, Truth}
use Rattle.observables.specs.Inputs.{IsValueOf, AreValuesOf}
use Rattle.observables.specs.Outputs.{verif_of, verif_at}
use Rattle.observables.specs.Answers.{Cause, stopped, label_number, cause_of, is_reported, reported_notes, observation}
use Rattle.flat_code.specs.Runs.{IsCheck, AreNodes, node_values, is_one, stop_of as stop_at, check_stop, first_stop}
use Rattle.driver_core.specs.Answers.{first_value, next_input, start_from, observation_by}
use Rattle.driver_core.specs.Inputs.{type_declared, input_declared, inputs_declared}
use Rattle.driver_core.specs.Meaning.{Env, RunState, goes, then_do, unless_stopped}
use Rattle.mpp_inline.specs.declared.builder.Builder.{Builder}
use Rattle.mpp_inline.specs.inner.Growth.{count, at, stop_of, stop_read, so_far, notes_read, IsVerif, denoted, outcome_of, run, IsCheckWithin, IsNoteWithin}
use Rattle.mpp_inline.specs.inner.Growth.{IsUsable, typed_value, begun_value, begun_from, Sane, Known, HasLiterals, Begun, Grows, Gives, IsAnInput}
use Rattle.driver_core.specs.Weights.{weight_of}
use Rattle.mpp_inline.specs.inner.Sizes.{load}
use Rattle.mpp_inline.specs.inner.Observation.{ended, ended_so, nodes_of, numbers_of, Answers}
use Rattle.mpp_inline.specs.Labelling.{Labelling}
use Rattle.mpp_inline.specs.Inlined.{IsInlined, HasTruths, IsTruthInput, IsDriverLine}
use Rattle.mpp_inline.specs.inner.Work.{under, Step}
use Rattle.mpp_inline.proofs.OutcomeLemmas.{append-none}
use Rattle.mpp_inline.proofs.ListLemmas.{all-append, all-more}
use Rattle.mpp_inline.proofs.GrowthLemmas.{past-line, grows-none, grows-then, known-on, denoted-on, known-get, denoted-get}
use Rattle.mpp_inline.proofs.TruthLemmas.{literals, literal-reads, literal-own, kinds-long, kinds-stated, every, whole-truths}

ended-run : (o : Option Cause) (ns : List Label) (e : Env) (requests : List ℕ)
    → ended o ns (map (environment e) requests) ≡ observation_by requests (unless_stopped o (goes ns e))
ended-run None ns e requests = refl
ended-run (Some s) ns e requests = refl

map-map : (f : ℕ → Value) (g : ℕ → ℕ) (h : ℕ → Value) → ((x : ℕ) → f (g x) ≡ h x) → (xs : List ℕ) → map f (map g xs) ≡ map h xs
map-map f g h e [] = refl
map-map f g h e (x ∷ xs) = λ i. e x i ∷ map-map f g h e xs i

pub last-answer : (b : Builder) (env requests : List ℕ) (inputs : List Value) → Sane b
    → ended_so (so_far b inputs) (map (at b inputs) (map (λ x. get_or env x 0) requests)) ≡ observation_by requests (run b inputs env)
last-answer b env requests inputs s =
    ap (ended_so (so_far b inputs)) (map-map (at b inputs) (λ x. get_or env x 0) (environment (denoted b inputs env)) (λ x. sym (denoted-get inputs env x s))
    requests)
    ∙ ended-run (stop_of b inputs) (so_far b inputs).notes (denoted b inputs env) requests

pub last-known : (b : Builder) (env requests : List ℕ) → Sane b → Known b env → AllByRecursion (IsUsable b) (map (λ x. get_or env x 0) requests)
last-known b env [] s k = tt
last-known b env (x ∷ xs) s k = (known-get x s k, last-known b env xs s k)

pub whole-run : {a b c : Builder} {env env' : List ℕ} {next : Env → RunState} {labels : List Label} {start : List Value → Env} {more : Labelling → Labelling}
    (inputs : List Value) → HasLiterals labels a → Begun a b start env → Step b c 2 env env' next more → run c inputs env' ≡ next (start inputs)
whole-run {a} {b} {c} {env} {env'} {next} {labels} {start} {more} inputs l g s =
    let one : at b inputs 2 ≡ Num (pos 1000000) = g.grows.base.keeps inputs 2 (l.sane.literal 2 (omega arith)) ∙ l.one inputs in
    s.moved inputs (inr one) ∙ ap (λ v. under v (run b inputs env) next) one
    ∙ (λ i. then_do (outcome_of ((g.grows.reported inputs ∙ l.reported inputs) i) (g.value inputs i)) next)

-- the labels of the rules are first
pub first-faces : (ds : List Label) (ls : List FaceLabel) → length ds ≤ length ls
    → ((i : ℕ) (d : Label) → i < length ds → get_or ls i (DriverLine 0) ≡ Verif (get_or ds i d)) → take (length ds) ls ≡ map Verif ds
first-faces [] ls h e = refl
first-faces (c ∷ cs) [] h e = absurd (omega arith)
first-faces (c ∷ cs) (l ∷ ls) h e = λ i. e 0 c (omega arith) i ∷ first-faces cs ls (omega arith) (λ k d lt. e (suc k) d (omega arith)) i

-- the labels after them are driver lines
pub further-faces : (n : ℕ) (ls : List FaceLabel) → ((l : ℕ) → n ≤ l → IsDriverLine (get_or ls l (DriverLine 0))) → AllByRecursion IsDriverLine (drop n ls)
further-faces zero [] h = tt
further-faces zero (l ∷ ls) h = (h 0 (omega arith), further-faces zero ls (λ k lt. h (suc k) (omega arith)))
further-faces (suc n) [] h = tt
further-faces (suc n) (l ∷ ls) h = further-faces n ls (λ k lt. h (suc k) (omega (arith, lt)))

-- a stop has the label of its check
abbrev IsAt : ℕ → Option Stop → Type 0
IsAt l None = Unit {0}
IsAt l (Some stop) = label_number stop ≡ l

condition-at : (only : Bool) (l : ℕ) (v : Value) → IsAt l (stop_at only l v)
condition-at only l Undef = tt
condition-at only l (Num z) = elim (only || is_zero z) as (λ b. IsAt l (cond b None (Some (Failed l)))) [ true ↦ tt | false ↦ refl ]
condition-at only l OverValue = refl

check-at : (vs : List Value) (c : Check) → IsAt c.label (check_stop vs c)
check-at vs c = elim (is_one (get_or vs c.guard Undef)) as (λ b. IsAt c.label (cond b (stop_at c.over_only c.label (get_or vs c.condition Undef)) None)) [
  | true ↦ condition-at c.over_only c.label (get_or vs c.condition Undef)
  | false ↦ tt
]

reported-one : (labels : List FaceLabel) (notes : List ℕ) (l : ℕ) (o p : Option Stop) (outs : List Value) → IsAt l o → l < length labels →
    observation labels notes (option_map_or Stopped p (Values outs)) ≡ Some
    (ended (stop_read labels p) (reported_notes labels notes outs) (drop (length notes) outs)) →
    observation labels notes (option_map_or Stopped (option_or o p) (Values outs)) ≡ Some
    (ended (stop_read labels (option_or o p)) (reported_notes labels notes outs) (drop (length notes) outs))
reported-one labels notes l None p outs a h rest = rest
reported-one labels notes l (Some stop) p outs a h rest = ap (option_map (λ label. stopped (cause_of stop label)))
    (slice_get-get_or labels (label_number stop) (DriverLine 0) (omega (arith, a, h)))

-- the observation of a program, by its labels
reported-flat : (n : ℕ) (labels : List FaceLabel) (notes : List ℕ) (vs : List Value) (checks : List Check) (outs : List Value)
    → AllByRecursion (λ c. IsCheckWithin n (length labels) c) checks →
    observation labels notes (option_map_or Stopped (first_stop vs checks) (Values outs)) ≡ Some
    (ended (stop_read labels (first_stop vs checks)) (reported_notes labels notes outs) (drop (length notes) outs))
reported-flat n labels notes vs [] outs all = refl
reported-flat n labels notes vs (c ∷ cs) outs all = reported-one labels notes c.label (check_stop vs c) (first_stop vs cs) outs (check-at vs c) all.0.label
    (reported-flat n labels notes vs cs outs all.1)

-- the notes among its outputs
verif-at : (labels : List FaceLabel) (n : ℕ) → verif_at labels n ≡ verif_of (get_or labels n (DriverLine 0))
verif-at [] zero = refl
verif-at [] (suc n) = refl
verif-at (l ∷ labels) zero = refl
verif-at (l ∷ labels) (suc n) = verif-at labels n

notes-out : (labels : List FaceLabel) (f : ℕ → Value) (ps : List (ℕ × ℕ)) (wanted : List ℕ)
    → reported_notes labels (numbers_of ps) (map f (nodes_of ps ++ wanted)) ≡ notes_read labels f ps
notes-out labels f [] wanted = refl
notes-out labels f (p ∷ ps) wanted = λ i. cons_option (cond (is_reported (f p.0)) (verif-at labels p.1 i) None) (notes-out labels f ps wanted i)

wanted-out : (f : ℕ → Value) (ps : List (ℕ × ℕ)) (wanted : List ℕ) → drop (length (numbers_of ps)) (map f (nodes_of ps ++ wanted)) ≡ map f wanted
wanted-out f [] wanted = refl
wanted-out f (p ∷ ps) wanted = wanted-out f ps wanted

notes-known : (n : ℕ) (labels : List FaceLabel) (ps : List (ℕ × ℕ)) → AllByRecursion (λ d. IsNoteWithin n labels d) ps
    → AllByRecursion (λ k. k < n) (nodes_of ps)
notes-known n labels [] a = tt
notes-known n labels (p ∷ ps) a = (a.0.node, notes-known n labels ps a.1)

-- the label of a note belongs to the base
apart : (f : FaceLabel) → IsDriverLine f → IsVerif f → ⊥
apart (Verif label) line v = line
apart (DriverLine line) l v = v

notes-low : (n m : ℕ) (labels : List FaceLabel) (ps : List (ℕ × ℕ)) → ((l : ℕ) → m ≤ l → IsDriverLine (get_or labels l (DriverLine 0)))
    → AllByRecursion (λ d. IsNoteWithin n labels d) ps → AllByRecursion (λ number. number < m) (numbers_of ps)
notes-low n m labels [] others a = tt
notes-low n m labels (p ∷ ps) others a = (
  ⊎_elim
      (λ (h : p.1 < m). h)
      (λ (h : m ≤ p.1). absurd (apart (get_or labels p.1 (DriverLine 0)) (others p.1 h) a.0.verif))
      (cases_lt p.1 m),
  notes-low n m labels ps others a.1,
)

-- the whole program
inlined-plain : (core : Core) (base : Base) (declared : Declared) (requests : List ℕ) (b : Builder) (outputs : List ℕ) (inputs : ℕ)
    → inputs ≡ length (inputs_from 0 declared.variables) → base.cells ≤ CELLS → weight_of core base ≤ DRIVER_WEIGHT
    → load b ≤ 3 + length base.labels + 2 * base.cells + 6 * weight_of core base → (a : Answers core base declared requests b outputs)
    → IsInlined core base declared requests (record {
      inputs = inputs;
      nodes = b.nodes.items;
      checks = b.checks.items;
      outputs = nodes_of b.notes.items
          ++ a.wanted;
    }) b.labels.items (numbers_of b.notes.items)
inlined-plain core base declared requests b outputs inputs many-in n c l a =
    let labels = b.labels.items in
    let ps = b.notes.items in
    let many : length (numbers_of ps) ≡ length ps = length-map ps (λ (p : ℕ × ℕ). p.1) in
    let Within : Check → Type 0 = λ d. IsCheckWithin (count b) (length labels) d in
    record {
      answer = λ inputs typed.
          reported-flat (count b) labels (numbers_of ps) (node_values inputs b.nodes.items) b.checks.items (map (at b inputs) (nodes_of ps ++ a.wanted))
          a.sane.checks
          ∙ (λ i. Some (ended (stop_of b inputs) (notes-out labels (at b inputs) ps a.wanted i) (wanted-out (at b inputs) ps a.wanted i)))
          ∙ ap Some (a.answer inputs typed);
      flat_program = record {
        nodes = subst (λ m. AreNodes m 0 b.nodes.items) (ap length a.inputs ∙ kinds-long 0 declared.variables ∙ sym many-in) a.sane.nodes;
        checks = all-more Within (IsCheck (count b)) (λ d h. (h.guard, h.condition)) b.checks.items a.sane.checks;
        outputs = all-append (λ k. k < count b) (nodes_of ps) a.wanted (notes-known (count b) labels ps a.sane.notes)
            (all-more (IsUsable b) (λ k. k < count b) (λ k h. h.there) a.wanted a.requested_known);
      };
      truths = subst (λ ks. HasTruths ks (record { inputs = inputs; nodes = b.nodes.items; checks = b.checks.items; outputs = nodes_of ps ++ a.wanted }))
          (a.inputs ∙ kinds-stated declared.variables) (whole-truths b inputs a.wanted a.sane a.requested_known);
      inputs = many-in;
      outputs = omega (arith, length-append (nodes_of ps) a.wanted, length-map ps (λ (p : ℕ × ℕ). p.0), many, a.requested_long);
      noted = notes-low (count b) (length base.labels) labels ps a.labelled.others a.sane.notes;
      first_labels = first-faces base.labels labels a.labelled.within a.labelled.same;
      further_labels = further-faces (length base.labels) labels a.labelled.others;
      labelled = λ k d h. (every Within b.checks.items a.sane.checks k d h).label;
      labels_are = ap (λ (l : Labelling). l.labels) a.labelling;
      checks_are = ap (λ (l : Labelling). l.checks) a.labelling;
      notes_are = ap (λ (l : Labelling). l.notes) a.labelling;
      nodes_fit = omega (arith, n, c, l, a.labelled.within);
      checks_fit = omega (arith, n, c, l, a.labelled.within);
      notes_fit = omega (arith, n, c, l, a.labelled.within, many);
      labels_fit = omega (arith, n, c, l);
      size = omega (arith, l, many);
    }

pub inlined : (core : Core) (base : Base) (declared : Declared) (requests : List ℕ) (b : Builder) (outputs : List ℕ) (inputs : ℕ) (ns : List Node)
    (cs : List Check) (os : List ℕ) (ls : List FaceLabel) (ks notes : List ℕ) → ns ≡ b.nodes.items → cs ≡ b.checks.items → os ≡ outputs → ls ≡ b.labels.items
    → ks ≡ notes → notes ≡ numbers_of b.notes.items → inputs ≡ length (inputs_from 0 declared.variables) → base.cells ≤ CELLS
    → weight_of core base ≤ DRIVER_WEIGHT → load b ≤ 3 + length base.labels + 2 * base.cells + 6 * weight_of core base
    → Answers core base declared requests b outputs
    → IsInlined core base declared requests (record { inputs = inputs; nodes = ns; checks = cs; outputs = os }) ls ks
inlined core base declared requests b outputs inputs ns cs os ls ks notes en ec eo el ek is many n c l a =
    subst (λ xs. IsInlined core base declared requests (record { inputs = inputs; nodes = xs; checks = cs; outputs = os }) ls ks) (sym en)
    (subst (λ xs. IsInlined core base declared requests (record { inputs = inputs; nodes = b.nodes.items; checks = xs; outputs = os }) ls ks) (sym ec)
    (subst (λ xs. IsInlined core base declared requests (record { inputs = inputs; nodes = b.nodes.items; checks = b.checks.items; outputs = xs }) ls ks)
    (sym (eo ∙ a.outputs_are))
    (subst (λ xs. IsInlined core base declared requests
    (record { inputs = inputs; nodes = b.nodes.items; checks = b.checks.items; outputs = nodes_of b.notes.items ++ a.wanted }) xs ks) (sym el)
    (subst (λ xs. IsInlined core base declared requests
    (record { inputs = inputs; nodes = b.nodes.items; checks = b.checks.items; outputs = nodes_of b.notes.items ++ a.wanted }) b.labels.items xs)
    (sym (ek ∙ is))
    (inlined-plain core base declared requests b outputs inputs many n c l a)))))
