-- Definitions computed in their order give the values of the base, so a driver runs the same over
-- both.
use Rattle.std.proofs.Common.{◌≡◌, ℕ, zero, suc, ◌+◌, ◌<◌, Bool, true, false, cond, List, [], ◌∷◌, length, set, slice_get, Option, Some, None, not, refl, sym}
use Rattle.std.proofs.Common.{ap, ◌∙◌, subst, arith, add-one}
use Rattle.std.specs.Prelude.{option_and_then, option_map}
use mathlib.Core.Bool.{◌&&◌}
use Rattle.std.specs.List.{All, cons_option}
use Rattle.std.specs.Option.{option_or}
use Rattle.std.proofs.lemmas.List.{length-set}
use Rattle.std.proofs.lemmas.Option.{slice_get-get_or}
use Rattle.m_fixed.specs.declared.amount.Value.{Value}
use Rattle.m_fixed.specs.declared.amount.Value.TheVariants.{Undef, Num, Over}
use Rattle.m_fixed.specs.Operators.{is_zero}
use Rattle.m_places.specs.declared.verification.Label.{Label}
use Rattle.m_places.specs.declared.verification.ErrorKind.{ErrorKind}
use Rattle.m_places.specs.declared.verification.ErrorKind.TheVariants.{Anomalie}
use Rattle.micro_m.specs.declared.base.Base.{Base}
use Rattle.micro_m.specs.declared.base.Failure.{Failure}
use Rattle.micro_m.specs.declared.base.Failure.TheVariants.{Failed, Over as OverCheck}
use Rattle.micro_m.specs.Bases.{IsValidBase, target_at, term_at}
use Rattle.micro_m.specs.Values.{environment, term_value, value_of}
use Rattle.micro_m.specs.Failures.{Check, is_stopping, kind_at, failure_of, failure_among, first_failure, note_of, notes_among, notes_of}
use Rattle.rule_order.specs.Orders.{IsOrder}
use Rattle.rule_order.proofs.ValueLemmas.{filled, filled-values, failure_among-same, notes_among-same}
use Rattle.observables.specs.Answers.{Cause, failed, over}
use Rattle.driver_core.specs.declared.program.Core.{Core}
use Rattle.driver_core.specs.Actions.{Action, assign, clear, branch, partition, call, solve, Block, no_actions, an_action}
use Rattle.driver_core.specs.Valid.{body_among}
use Rattle.driver_core.specs.Meaning.{Env, RunState, goes, stops, noted, behind, then_do, with_values, without, chosen_block, failure_cause}
use Rattle.driver_core.specs.Meaning.{unless_stopped, rules_run, run_of, action_run, block_run, called}
use Rattle.mpp_inline.specs.inner.Growth.{checked, computed, rules_in_turn}
use Rattle.mpp_inline.proofs.OutcomeLemmas.{goes-last}
use Rattle.mpp_inline.proofs.ListLemmas.{with-same, length-with}

-- ---- the rules

computed-filled : (base : Base) (ps : List ℕ) (e : Env) → computed base ps e ≡ filled base ps e
computed-filled base [] e = refl
computed-filled base (p ∷ ps) e = computed-filled base ps (set e (target_at base p) (term_value (environment e) (term_at base p)))

-- a failure that has a cause, and the failure of later checks
some-none : {X : Type 0} {x : X} → Some x ≡ None → ⊥
some-none p = cc

none-some : {X : Type 0} {x : X} → None ≡ Some x → ⊥
none-some p = cc

next-cause : (cause : Option Cause) (ns ms : List Label) (e : Env) (next : Env → RunState) → (cause ≡ None → ⊥)
    → then_do (unless_stopped cause (goes ns e)) next ≡ unless_stopped cause (goes ms e)
next-cause None ns ms e next h = absurd (h refl)
next-cause (Some cause) ns ms e next h = refl

-- a note before what comes next
note-next : (n : Option Label) (cause : Option Cause) (ns : List Label) (e : Env)
    → behind (cons_option n []) (unless_stopped cause (goes ns e)) ≡ unless_stopped cause (goes (cons_option n ns) e)
note-next None cause ns e = refl
note-next (Some label) None ns e = refl
note-next (Some label) (Some cause) ns e = refl

next-failure : (labels : List Label) (f g : Option Failure) (n : Option Label) (ns : List Label) (e : Env) (next : Env → RunState)
    → next e ≡ unless_stopped (option_and_then (failure_cause labels) g) (goes ns e)
    → ((failure : Failure) → f ≡ Some failure → failure_cause labels failure ≡ None → ⊥) →
    then_do (unless_stopped (option_and_then (failure_cause labels) f) (goes (cons_option n []) e)) next ≡ unless_stopped
    (option_and_then (failure_cause labels) (option_or f g)) (goes (cons_option n ns) e)
next-failure labels None g n ns e next is h = ap (behind (cons_option n [])) is ∙ note-next n (option_and_then (failure_cause labels) g) ns e
next-failure labels (Some failure) g n ns e next is h = next-cause (failure_cause labels failure) (cons_option n []) (cons_option n ns) e next (h failure refl)

-- the label of a failure exists
label-there : (labels : List Label) (number : ℕ) (d : Label) → number < length labels → slice_get labels number ≡ None → ⊥
label-there labels number d h e = some-none (sym (slice_get-get_or labels number d h) ∙ e)

none-mapped : (f : Label → Cause) (o : Option Label) → (o ≡ None → ⊥) → option_map f o ≡ None → ⊥
none-mapped f None n p = n refl
none-mapped f (Some l) n p = some-none p

failed-reported : (labels : List Label) (number : ℕ) (d : Label) (b : Bool) (failure : Failure) → number < length labels
    → cond b (Some (Failed number)) None ≡ Some failure → failure_cause labels failure ≡ None → ⊥
failed-reported labels number d false failure h f e = none-some f
failed-reported labels number d true failure h f e =
    let same : Failed number ≡ failure = cc in
    none-mapped failed (slice_get labels number) (label-there labels number d h) (subst (λ x. failure_cause labels x ≡ None) (sym same) e)

reported : (labels : List Label) (number : ℕ) (d : Label) (kind : ErrorKind) (v : Value) (failure : Failure) → number < length labels
    → failure_of v kind number ≡ Some failure → failure_cause labels failure ≡ None → ⊥
reported labels number d kind Undef failure h f e = none-some f
reported labels number d kind (Num z) failure h f e = failed-reported labels number d (not (is_zero z) && is_stopping kind) failure h f e
reported labels number d kind Over failure h f e =
    let same : OverCheck number ≡ failure = cc in
    none-mapped over (slice_get labels number) (label-there labels number d h) (subst (λ x. failure_cause labels x ≡ None) (sym same) e)

-- the checks in turn stop at the first failure
no-label : Label
no-label = record { verif = []; error = []; kind = Anomalie; text = [] }

checked-all : (labels : List Label) (checks : List Check) (e : Env) → All (λ check. check.1 < length labels) checks →
    checked labels checks e ≡ unless_stopped (option_and_then (failure_cause labels) (failure_among labels (environment e) checks))
    (goes (notes_among labels (environment e) checks) e)
checked-all labels [] e all = refl
checked-all labels (c ∷ cs) e all =
    let low : c.1 < length labels = all 0 c (omega arith) in
    let v = term_value (environment e) c.0 in
    let kind = kind_at labels c.1 in
    next-failure labels (failure_of v kind c.1) (failure_among labels (environment e) cs) (note_of labels v c.1) (notes_among labels (environment e) cs) e
    (checked labels cs)
    (checked-all labels cs e (λ k d l. all (suc k) d (omega (arith, l))))
    (λ failure f. reported labels c.1 no-label kind v failure low f)

received-behind : (o : Option Cause) (ns : List Label) (xs : List ℕ) (values e : Env)
    → then_do (unless_stopped o (goes ns values)) (λ v. goes [] (with_values xs (environment v) e)) ≡ unless_stopped o
    (goes ns (with_values xs (environment values) e))
received-behind None ns xs values e = goes-last (goes ns (with_values xs (environment values) e))
received-behind (Some cause) ns xs values e = refl

rules-same : (base : Base) (sequence xs : List ℕ) (e : Env) → IsValidBase base → IsOrder base sequence → length e ≡ base.cells
    → rules_in_turn base sequence xs e ≡ rules_run base xs e
rules-same base sequence xs e valid order size =
    let values = computed base sequence e in
    let labels = base.labels in
    let given = value_of base (environment e) in
    let same : (c : ℕ) → environment values c ≡ value_of base (environment e) c = λ c. ap (λ (l : Env). environment l c) (computed-filled base sequence e)
    ∙ filled-values base sequence e valid order size c in
    let next : Env → RunState = λ v. goes [] (with_values xs (environment v) e) in
    ap (λ o. then_do o next) (checked-all labels base.checks values valid.labels)
    ∙ received-behind (option_and_then (failure_cause labels) (failure_among labels (environment values) base.checks))
    (notes_among labels (environment values) base.checks) xs values e
    ∙ (λ i. unless_stopped (option_and_then (failure_cause labels) (failure_among-same labels (environment values) given base.checks same i))
    (goes (notes_among-same labels (environment values) given base.checks same i) (with-same xs (environment values) given e same i)))

-- ---- runs over as many cells

abbrev Long : ℕ → RunState → Type 0
Long n (goes ns e) = length e ≡ n
Long n (stops cause) = Unit {0}

long-noted : (n : ℕ) (label : Label) (o : RunState) → Long n o → Long n (noted label o)
long-noted n label (goes ns e) h = h
long-noted n label (stops cause) h = tt

long-behind : (n : ℕ) (ns : List Label) (o : RunState) → Long n o → Long n (behind ns o)
long-behind n [] o h = h
long-behind n (label ∷ ns) o h = long-noted n label (behind ns o) (long-behind n ns o h)

long-then : (n : ℕ) (o : RunState) (next : Env → RunState) → Long n o → ((e : Env) → length e ≡ n → Long n (next e)) → Long n (then_do o next)
long-then n (goes ns e) next h k = long-behind n ns (next e) (k e h)
long-then n (stops cause) next h k = tt

same-then : (n : ℕ) (o : RunState) (next next' : Env → RunState) → Long n o → ((e : Env) → length e ≡ n → next e ≡ next' e) → then_do o next ≡ then_do o next'
same-then n (goes ns e) next next' h k = ap (behind ns) (k e h)
same-then n (stops cause) next next' h k = refl

long-chosen : (n line : ℕ) (v : Value) (a b : RunState) → Long n a → Long n b → Long n (chosen_block line v a b)
long-chosen n line Undef a b p q = q
long-chosen n line (Num z) a b p q = elim (is_zero z) as (λ t. Long n (cond t b a)) [ true ↦ q | false ↦ p ]
long-chosen n line Over a b p q = tt

long-unless : (n : ℕ) (o : Option Cause) (ns : List Label) (e : Env) → length e ≡ n → Long n (unless_stopped o (goes ns e))
long-unless n None ns e h = h
long-unless n (Some cause) ns e h = tt

pub record Alike (n : ℕ) (one two : Env → RunState) : Type 0 where
  pub long : (e : Env) → length e ≡ n → Long n (two e)
  pub same : (e : Env) → length e ≡ n → one e ≡ two e

module _ (n : ℕ) (r r' : List ℕ → Env → RunState) (b b' : ℕ → Env → RunState) (rules : (xs : List ℕ) → Alike n (r xs) (r' xs)) (bodies : (f : ℕ)
    → Alike n (b f) (b' f)) where
  mutual
    action-long : (a : Action) (e : Env) → length e ≡ n → Long n (action_run r' b' a e)
    action-long (assign line c t) e h = length-set e c (term_value (environment e) t) ∙ h
    action-long (clear line c) e h = length-set e c Undef ∙ h
    action-long (branch line t x y) e h = long-chosen n line (term_value (environment e) t) (block_run r' b' x e) (block_run r' b' y e) (block-long x e h)
        (block-long y e h)
    action-long (partition line xs x) e h = long-then n (block_run r' b' x (without xs e)) (λ f. goes [] (with_values xs (environment e) f))
        (block-long x (without xs e) (length-with xs (λ c. Undef) e ∙ h)) (λ f k. length-with xs (environment e) f ∙ k)
    action-long (call line names xs f) e h = long-then n (b' f e) (λ g. goes [] (with_values xs (environment g) e)) ((bodies f).long e h)
        (λ g k. length-with xs (environment g) e ∙ h)
    action-long (solve line names xs) e h = (rules xs).long e h

    block-long : (x : Block) (e : Env) → length e ≡ n → Long n (block_run r' b' x e)
    block-long no_actions e h = h
    block-long (an_action a rest) e h = long-then n (action_run r' b' a e) (block_run r' b' rest) (action-long a e h) (λ f k. block-long rest f k)

  mutual
    action-same : (a : Action) (e : Env) → length e ≡ n → action_run r b a e ≡ action_run r' b' a e
    action-same (assign line c t) e h = refl
    action-same (clear line c) e h = refl
    action-same (branch line t x y) e h = λ i. chosen_block line (term_value (environment e) t) (block-same x e h i) (block-same y e h i)
    action-same (partition line xs x) e h = ap (λ o. then_do o (λ f. goes [] (with_values xs (environment e) f)))
        (block-same x (without xs e) (length-with xs (λ c. Undef) e ∙ h))
    action-same (call line names xs f) e h = ap (λ o. then_do o (λ g. goes [] (with_values xs (environment g) e))) ((bodies f).same e h)
    action-same (solve line names xs) e h = (rules xs).same e h

    block-same : (x : Block) (e : Env) → length e ≡ n → block_run r b x e ≡ block_run r' b' x e
    block-same no_actions e h = refl
    block-same (an_action a rest) e h =
        ap (λ o. then_do o (block_run r b rest)) (action-same a e h)
        ∙ same-then n (action_run r' b' a e) (block_run r b rest) (block_run r' b' rest) (action-long a e h) (λ f k. block-same rest f k)

rules-alike : (base : Base) (sequence : List ℕ) → IsValidBase base → IsOrder base sequence → (xs : List ℕ)
    → Alike base.cells (rules_in_turn base sequence xs) (rules_run base xs)
rules-alike base sequence valid order xs = record {
  long = λ e h. long-unless base.cells (option_and_then (failure_cause base.labels) (first_failure base (environment e))) (notes_of base (environment e))
      (with_values xs (value_of base (environment e)) e) (length-with xs (value_of base (environment e)) e ∙ h);
  same = λ e h. rules-same base sequence xs e valid order h;
}

called-alike : (base : Base) (sequence : List ℕ) (bodies : List (List Action)) → IsValidBase base → IsOrder base sequence → (turns f : ℕ)
    → Alike base.cells (called (rules_in_turn base sequence) bodies turns f) (called (rules_run base) bodies turns f)
called-alike base sequence bodies valid order zero f = record { long = λ e h. h; same = λ e h. refl }
called-alike base sequence bodies valid order (suc turns) f =
    let rules = rules-alike base sequence valid order in
    let deeper = called-alike base sequence bodies valid order turns in
    record {
      long = λ e h. block-long base.cells (rules_in_turn base sequence) (rules_run base) (called (rules_in_turn base sequence) bodies turns)
          (called (rules_run base) bodies turns) rules deeper (body_among bodies f) e h;
      same = λ e h. block-same base.cells (rules_in_turn base sequence) (rules_run base) (called (rules_in_turn base sequence) bodies turns)
          (called (rules_run base) bodies turns) rules deeper (body_among bodies f) e h;
    }

pub run-same : (core : Core) (base : Base) (sequence : List ℕ) (e : Env) → IsValidBase base → IsOrder base sequence → length e ≡ base.cells
    → called (rules_in_turn base sequence) core.bodies (length core.bodies + 1) core.main e ≡ run_of core base e
run-same core base sequence e valid order size =
    ap (λ n. called (rules_in_turn base sequence) core.bodies n core.main e) (add-one (length core.bodies))
    ∙ (called-alike base sequence core.bodies valid order (suc (length core.bodies)) core.main).same e size
