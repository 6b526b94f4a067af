-- If a base has no definitions and no checks, calls of the rules change nothing.
use Rattle.std.proofs.Common.{◌≡◌, ℕ, zero, suc, ◌+◌, ◌≤◌, List, [], ◌∷◌, ◌++◌, length, get_or, set, Some, refl, sym, ap, ◌∙◌, arith, add-one}
use Rattle.std.specs.Prelude.{option_and_then}
use Rattle.std.specs.Option.{option_map_or}
use Rattle.std.proofs.lemmas.List.{length-map}
use Rattle.m_fixed.specs.declared.amount.Value.TheVariants.{Undef}
use Rattle.m_symbols.specs.Declarations.{Declared}
use Rattle.micro_m.specs.declared.base.Base.{Base}
use Rattle.micro_m.specs.Bases.{definition_among}
use Rattle.micro_m.specs.Values.{Environment, environment, term_value, value_in, value_of}
use Rattle.micro_m.specs.Failures.{failure_among, notes_among}
use Rattle.observables.specs.declared.face.FaceLabel.{FaceLabel}
use Rattle.flat_code.specs.declared.program.Flat.{Flat}
use Rattle.driver_core.specs.declared.program.Core.{Core}
use Rattle.driver_core.specs.Actions.{Action, assign, clear, branch, partition, call, solve, Block, no_actions, an_action}
use Rattle.driver_core.specs.ActionView.{block_of}
use Rattle.driver_core.specs.Valid.{body_among}
use Rattle.driver_core.specs.Weights.{names_changed, names_changed_in, action_weight, block_weight, body_weight, base_weight, weight_of}
use Rattle.driver_core.specs.Answers.{answer_of, start_of, observation_by}
use Rattle.driver_core.specs.Meaning.{Env, RunState, goes, then_do, with_values, without, chosen_block, failure_cause, unless_stopped, rules_run}
use Rattle.driver_core.specs.Meaning.{run_of, action_run, block_run, called}
use Rattle.mpp_inline.specs.Inlined.{IsInlined}
use Rattle.mpp_inline.specs.Labelling.{Labelling, first_labelling, with_checks, with_rules, with_line, with_action, with_block, with_body, labelling_of}
use Rattle.mpp_inline.specs.inner.Ruleless.{IsRuleless, left, left_behind, body_left, left_in, core_left}
use Rattle.mpp_inline.proofs.OutcomeLemmas.{goes-last, then-then}
use Rattle.mpp_inline.proofs.ListLemmas.{with-same}

-- ---- the rules

-- a cell that is set to its own value
set-own : (l : Env) (i : ℕ) → set l i (get_or l i Undef) ≡ l
set-own [] i = refl
set-own (v ∷ vs) zero = refl
set-own (v ∷ vs) (suc i) = ap (λ l. v ∷ l) (set-own vs i)

own-values : (xs : List ℕ) (e : Env) → with_values xs (environment e) e ≡ e
own-values [] e = refl
own-values (x ∷ xs) e = ap (with_values xs (environment e)) (set-own e x) ∙ own-values xs e

value-given : (base : Base) (given : Environment) (c : ℕ) → base.definitions ≡ [] → value_of base given c ≡ given c
value-given base given c e =
    ap (λ n. value_in base given n c) (add-one (length base.definitions))
    ∙ ap (λ ds. option_map_or (term_value (value_in base given (length base.definitions))) (definition_among ds c) (given c)) e

-- a call of the rules changes nothing
pub rules-rest : (base : Base) → IsRuleless base → (xs : List ℕ) (e : Env) → rules_run base xs e ≡ goes [] e
rules-rest base r xs e =
    let given = value_of base (environment e) in
    ap (λ cs. unless_stopped (option_and_then (failure_cause base.labels) (failure_among base.labels given cs))
    (goes (notes_among base.labels given cs) (with_values xs given e))) r.checks
    ∙ ap (goes []) (with-same xs given (environment e) e (λ c. value-given base (environment e) c r.definitions) ∙ own-values xs e)

-- ---- blocks

module _ (rules : List ℕ → Env → RunState) (b b' : ℕ → Env → RunState) (rest-of : (xs : List ℕ) (e : Env) → rules xs e ≡ goes [] e) (same : (f : ℕ) (e : Env)
    → b' f e ≡ b f e) where
  append-run : (xs ys : List Action) (e : Env) → block_run rules b' (block_of (xs ++ ys)) e ≡ then_do (block_run rules b' (block_of xs) e)
      (block_run rules b' (block_of ys))
  append-run [] ys e = refl
  append-run (x ∷ xs) ys e =
      (λ i. then_do (action_run rules b' x e) (λ f. append-run xs ys f i))
      ∙ sym (then-then (action_run rules b' x e) (block_run rules b' (block_of xs)) (block_run rules b' (block_of ys)))

  mutual
    one-left : (a : Action) (e : Env) → block_run rules b' (block_of (left a)) e ≡ action_run rules b a e
    one-left (assign line c t) e = refl
    one-left (clear line c) e = refl
    one-left (branch line t x y) e =
        goes-last (chosen_block line (term_value (environment e) t) (block_run rules b' (block_of (left_behind [] x)) e)
        (block_run rules b' (block_of (left_behind [] y)) e))
        ∙ (λ i. chosen_block line (term_value (environment e) t) (all-left [] x e i) (all-left [] y e i))
    one-left (partition line xs x) e =
        goes-last (then_do (block_run rules b' (block_of (left_behind [] x)) (without xs e)) (λ f. goes [] (with_values xs (environment e) f)))
        ∙ ap (λ o. then_do o (λ f. goes [] (with_values xs (environment e) f))) (all-left [] x (without xs e))
    one-left (call line names xs f) e =
        goes-last (then_do (b' f e) (λ g. goes [] (with_values xs (environment g) e)))
        ∙ ap (λ o. then_do o (λ g. goes [] (with_values xs (environment g) e))) (same f e)
    one-left (solve line names xs) e = sym (rest-of xs e)

    all-left : (before : List Action) (x : Block) (e : Env)
        → block_run rules b' (block_of (left_behind before x)) e ≡ then_do (block_run rules b' (block_of before) e) (block_run rules b x)
    all-left before no_actions e = sym (goes-last (block_run rules b' (block_of before) e))
    all-left before (an_action a rest) e =
        all-left (before ++ left a) rest e
        ∙ ap (λ o. then_do o (block_run rules b rest)) (append-run before (left a) e)
        ∙ then-then (block_run rules b' (block_of before) e) (block_run rules b' (block_of (left a))) (block_run rules b rest)
        ∙ (λ i. then_do (block_run rules b' (block_of before) e) (λ f. then_do (one-left a f i) (block_run rules b rest)))

-- ---- functions

body-left : (bodies : List (List Action)) (f : ℕ) → body_among (left_in bodies) f ≡ block_of (left_behind [] (body_among bodies f))
body-left [] zero = refl
body-left [] (suc f) = refl
body-left (b ∷ bs) zero = refl
body-left (b ∷ bs) (suc f) = body-left bs f

called-left : (rules : List ℕ → Env → RunState) (bodies : List (List Action)) → ((xs : List ℕ) (e : Env) → rules xs e ≡ goes [] e) → (turns f : ℕ) (e : Env)
    → called rules (left_in bodies) turns f e ≡ called rules bodies turns f e
called-left rules bodies rest-of zero f e = refl
called-left rules bodies rest-of (suc turns) f e =
    ap (λ x. block_run rules (called rules (left_in bodies) turns) x e) (body-left bodies f)
    ∙ all-left rules (called rules bodies turns) (called rules (left_in bodies) turns) rest-of (called-left rules bodies rest-of turns) [] (body_among bodies f)
    e

run-left : (core : Core) (base : Base) (e : Env) → IsRuleless base → run_of (core_left core) base e ≡ run_of core base e
run-left core base e r =
    ap (λ n. called (rules_run base) (left_in core.bodies) (suc n) core.main e) (length-map core.bodies body_left)
    ∙ called-left (rules_run base) core.bodies (rules-rest base r) (suc (length core.bodies)) core.main e

-- ---- the weight

fewer-append : (xs ys : List Action) → names_changed_in (block_of (xs ++ ys)) ≡ names_changed_in (block_of xs) + names_changed_in (block_of ys)
fewer-append [] ys = omega arith
fewer-append (x ∷ xs) ys = omega (arith, fewer-append xs ys)

mutual
  fewer-one : (a : Action) → names_changed_in (block_of (left a)) ≤ names_changed a
  fewer-one (assign line c t) = omega arith
  fewer-one (clear line c) = omega arith
  fewer-one (branch line t x y) = omega (arith, fewer [] x, fewer [] y)
  fewer-one (partition line xs x) = omega (arith, fewer [] x)
  fewer-one (call line names xs f) = omega arith
  fewer-one (solve line names xs) = omega arith

  fewer : (before : List Action) (x : Block) → names_changed_in (block_of (left_behind before x)) ≤ names_changed_in (block_of before) + names_changed_in x
  fewer before no_actions = omega arith
  fewer before (an_action a rest) = omega (arith, fewer (before ++ left a) rest, fewer-append before (left a), fewer-one a)

module _ (rules cells : ℕ) (b b' : ℕ → ℕ) (less : (f : ℕ) → b' f ≤ b f) where
  append-weight : (xs ys : List Action) → block_weight rules cells b' (block_of (xs ++ ys)) ≡ block_weight rules cells b' (block_of xs) + block_weight rules
      cells b' (block_of ys)
  append-weight [] ys = omega arith
  append-weight (x ∷ xs) ys = omega (arith, append-weight xs ys)

  mutual
    lighter-one : (a : Action) → block_weight rules cells b' (block_of (left a)) ≤ action_weight rules cells b a
    lighter-one (assign line c t) = omega arith
    lighter-one (clear line c) = omega arith
    lighter-one (branch line t x y) = omega (arith, lighter [] x, lighter [] y, fewer [] x, fewer [] y)
    lighter-one (partition line xs x) = omega (arith, lighter [] x)
    lighter-one (call line names xs f) = omega (arith, less f)
    lighter-one (solve line names xs) = omega arith

    lighter : (before : List Action) (x : Block) → block_weight rules cells b' (block_of (left_behind before x)) ≤ block_weight rules cells b' (block_of before)
        + block_weight rules cells b x
    lighter before no_actions = omega arith
    lighter before (an_action a rest) = omega (arith, lighter (before ++ left a) rest, append-weight before (left a), lighter-one a)

body-lighter : (rules cells : ℕ) (bodies : List (List Action)) (turns f : ℕ) → body_weight rules cells (left_in bodies) turns f ≤ body_weight rules cells bodies
    turns f
body-lighter rules cells bodies zero f = omega arith
body-lighter rules cells bodies (suc turns) f =
    omega (
      arith,
      ap (block_weight rules cells (body_weight rules cells (left_in bodies) turns)) (body-left bodies f),
      lighter rules cells (body_weight rules cells bodies turns) (body_weight rules cells (left_in bodies) turns) (body-lighter rules cells bodies turns) []
          (body_among bodies f),
    )

-- the weight of the driver without calls of the rules is no greater
pub left-lighter : (core : Core) (base : Base) → weight_of (core_left core) base ≤ weight_of core base
left-lighter core base =
    let r = base_weight base in
    let same : weight_of (core_left core) base ≡ body_weight r base.cells (left_in core.bodies) (suc (length core.bodies)) core.main =
    ap (λ n. body_weight r base.cells (left_in core.bodies) (suc n) core.main) (length-map core.bodies body_left) in
    omega (arith, same, body-lighter r base.cells core.bodies (suc (length core.bodies)) core.main)

-- ---- labels, checks and notes

module _ (rules : Labelling → Labelling) (b b' : ℕ → Labelling → Labelling) (none : (l : Labelling) → rules l ≡ l) (same : (f : ℕ) (l : Labelling)
    → b' f l ≡ b f l) where
  append-labels : (xs ys : List Action) (l : Labelling) → with_block rules b' (block_of (xs ++ ys)) l ≡ with_block rules b' (block_of ys)
      (with_block rules b' (block_of xs) l)
  append-labels [] ys l = refl
  append-labels (x ∷ xs) ys l = append-labels xs ys (with_action rules b' x l)

  mutual
    one-labels : (a : Action) (l : Labelling) → with_block rules b' (block_of (left a)) l ≡ with_action rules b a l
    one-labels (assign line c t) l = refl
    one-labels (clear line c) l = refl
    one-labels (branch line t x y) l =
        ap (with_block rules b' (block_of (left_behind [] y))) (all-labels [] x (with_line line l))
        ∙ all-labels [] y (with_block rules b x (with_line line l))
    one-labels (partition line xs x) l = all-labels [] x l
    one-labels (call line names xs f) l = same f l
    one-labels (solve line names xs) l = sym (none l)

    all-labels : (before : List Action) (x : Block) (l : Labelling)
        → with_block rules b' (block_of (left_behind before x)) l ≡ with_block rules b x (with_block rules b' (block_of before) l)
    all-labels before no_actions l = refl
    all-labels before (an_action a rest) l =
        all-labels (before ++ left a) rest l
        ∙ ap (with_block rules b rest) (append-labels before (left a) l ∙ one-labels a (with_block rules b' (block_of before) l))

body-labels : (base : Base) (bodies : List (List Action)) → ((l : Labelling) → with_rules base l ≡ l) → (turns f : ℕ) (l : Labelling)
    → with_body base (left_in bodies) turns f l ≡ with_body base bodies turns f l
body-labels base bodies none zero f l = refl
body-labels base bodies none (suc turns) f l =
    ap (λ x. with_block (with_rules base) (with_body base (left_in bodies) turns) x l) (body-left bodies f)
    ∙ all-labels (with_rules base) (with_body base bodies turns) (with_body base (left_in bodies) turns) none (body-labels base bodies none turns) []
    (body_among bodies f) l

left-labels : (core : Core) (base : Base) → IsRuleless base → labelling_of (core_left core) base ≡ labelling_of core base
left-labels core base r =
    ap (λ n. with_body base (left_in core.bodies) (suc n) core.main (first_labelling base.labels)) (length-map core.bodies body_left)
    ∙ body-labels base core.bodies (λ l. ap (λ cs. with_checks base.labels cs l) r.checks) (suc (length core.bodies)) core.main (first_labelling base.labels)

-- ---- the flat program

-- the flat program of the driver without calls of the rules is that of the driver
pub inlined-left : (core made : Core) (base : Base) (declared : Declared) (requests : List ℕ) (flat : Flat) (labels : List FaceLabel) (notes : List ℕ)
    → IsRuleless base → made ≡ core_left core → IsInlined made base declared requests flat labels notes
    → IsInlined core base declared requests flat labels notes
inlined-left core made base declared requests flat labels notes r is h =
    let labelling : labelling_of made base ≡ labelling_of core base = ap (λ (k : Core). labelling_of k base) is ∙ left-labels core base r in
    record {
      answer = λ inputs typed.
          h.answer inputs typed
          ∙ ap Some (ap (λ (k : Core). answer_of k base declared requests inputs) is
          ∙ ap (observation_by requests) (run-left core base (start_of declared inputs) r));
      flat_program = h.flat_program;
      truths = h.truths;
      inputs = h.inputs;
      outputs = h.outputs;
      noted = h.noted;
      first_labels = h.first_labels;
      further_labels = h.further_labels;
      labelled = h.labelled;
      labels_are = h.labels_are ∙ ap (λ (l : Labelling). l.labels) labelling;
      checks_are = h.checks_are ∙ ap (λ (l : Labelling). l.checks) labelling;
      notes_are = h.notes_are ∙ ap (λ (l : Labelling). l.notes) labelling;
      nodes_fit = h.nodes_fit;
      checks_fit = h.checks_fit;
      notes_fit = h.notes_fit;
      labels_fit = h.labels_fit;
      size = omega (arith, h.size, ap (λ (k : Core). weight_of k base) is, left-lighter core base);
    }
