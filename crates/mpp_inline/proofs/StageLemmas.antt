-- Stages: the run so far, compared with the meaning of the driver so far.
use Rattle.std.proofs.Common.{length, ◌≡◌, ℕ, ◌<◌, Bool, true, false, cond, List, [], ◌∷◌, get_or, set, slice_get, Option, Some, None, ◌⊎◌, inl, inr, ⊎_elim}
use Rattle.std.proofs.Common.{not, refl, sym, ap, ◌∙◌, subst, arith, pos}
use mathlib.Core.Bool.{◌&&◌}
use Rattle.std.specs.List.{cons_option}
use Rattle.std.specs.Prelude.{option_and_then, option_map}
use Rattle.std.proofs.lemmas.List.{map-set, set-get_or}
use Rattle.std.proofs.lemmas.Option.{slice_get-get_or}
use Rattle.m_fixed.specs.declared.amount.Value.{Value}
use Rattle.m_fixed.specs.declared.amount.Value.TheVariants.{Undef, Num, Over}
use Rattle.m_fixed.specs.declared.operator.Op.TheVariants.{Choose, Truth}
use Rattle.m_fixed.specs.Operators.{op_value, is_zero, truth, truth_of, chosen}
use Rattle.m_places.specs.declared.verification.Label.{Label}
use Rattle.micro_m.specs.Failures.{Check, is_stopping, kind_at}
use Rattle.micro_m.specs.declared.base.Failure.TheVariants.{Failed}
use Rattle.micro_m.specs.Values.{Environment, environment, term_value}
use Rattle.flat_code.specs.declared.program.Node.TheVariants.{Do}
use Rattle.flat_code.specs.Runs.{node_values}
use Rattle.observables.specs.declared.face.FaceLabel.{FaceLabel}
use Rattle.observables.specs.declared.face.FaceLabel.TheVariants.{Verif, DriverLine}
use Rattle.observables.specs.Answers.{Cause, failed, over}
use Rattle.driver_core.specs.Meaning.{Env, RunState, goes, then_do, chosen_block, with_values, failure_cause, unless_stopped}
use Rattle.mpp_inline.specs.declared.builder.Builder.{Builder}
use Rattle.mpp_inline.specs.inner.Cells.{picked, written, received}
use Rattle.mpp_inline.specs.inner.Growth.{faces, face, at, IsUsable, SoFar, so_far, observed_more, note_read, IsVerif, denoted, outcome_of, run, Sane, Known}
use Rattle.mpp_inline.specs.inner.Growth.{Placed, Ready, CheckedRule, CheckedLine, NotedAt, Pushed, Checked, Longer, Grows, TermStep, Computed, Stage, Opened}
use Rattle.mpp_inline.specs.inner.Growth.{over_judged, judged, Held, Merged, entries}
use Rattle.mpp_inline.proofs.OutcomeLemmas.{goes-last, then-then, set-goes, wrap, both-steps, found-run, more-none, more-more}
use Rattle.mpp_inline.proofs.ListLemmas.{all-picked, all-written, written-map, received-map, with-received}
use Rattle.mpp_inline.proofs.RunLemmas.{face_judged, face_fired}
use Rattle.mpp_inline.proofs.UsableLemmas.{usable-on}
use Rattle.mpp_inline.proofs.GrowthLemmas.{longer-none, longer-then, grows-none, grows-then, known-on, denoted-on, run-on, known-get, known-set, pushed-within}
use Rattle.mpp_inline.proofs.GrowthLemmas.{pushed-value, pushed-grows, faces-on}
use Rattle.mpp_inline.proofs.CheckGrowth.{checked-longer, checked-reported, noted-longer, noted-reported, denoted-set}
use Rattle.mpp_inline.proofs.GrowthLemmas.{Faced, faced-line, faced-rule}

-- the two operators of guards
pub choose-value : (a b c : Value) → op_value Choose a b c ≡ chosen a b c
unfolding op_value
choose-value a b c = refl

pub truth-value : (a b c : Value) → op_value Truth a b c ≡ truth_of a
unfolding op_value
truth-value a b c = refl

-- stages in sequence
pub stage-first : {b : Builder} {env : List ℕ} {g : ℕ} (does : Env → RunState) → Placed b env g → Stage b b g env env does does
stage-first does r = record { base = longer-none r.sane; known = r.known; taken = λ inputs h. refl; idle = λ inputs h. refl }

pub stage-ready : {labels : List Label} {b c : Builder} {env env' : List ℕ} {g : ℕ} {rest whole : Env → RunState} → Ready labels b env g
    → Stage b c g env env' rest whole → Ready labels c env' g
stage-ready r s = record {
  placed = record { sane = s.base.sane; known = s.known; guard = usable-on s.base r.placed.guard };
  labelled = faces-on s.base r.labelled;
}

pub stage-next : {labels : List Label} {b c d : Builder} {e f h : List ℕ} {g : ℕ} {does rest whole : Env → RunState} → Ready labels b e g
    → Stage b c g e f (λ x. then_do (does x) rest) whole → (Ready labels c f g → Stage c d g f h (λ x. goes [] x) does) → Stage b d g e h rest whole
stage-next {labels} {b} {c} {d} {e} {f} {h} {g} {does} {rest} {whole} r s t =
    let n = t (stage-ready r s) in
    record {
      base = longer-then s.base n.base;
      known = n.known;
      taken = λ inputs i.
          let there : at c inputs g ≡ Num (pos 1000000) = s.base.keeps inputs g r.placed.guard ∙ i in
          ap (λ o. then_do o rest) (sym (goes-last (run d inputs h)) ∙ n.taken inputs there)
          ∙ then-then (run c inputs f) does rest
          ∙ s.taken inputs i;
      idle = λ inputs i. n.idle inputs (s.base.keeps inputs g r.placed.guard ∙ i) ∙ s.idle inputs i;
    }

-- a change of the environment only
pub stage-simple : {b c : Builder} {env env' : List ℕ} {g : ℕ} (f : Env → Env) → Placed b env g → Grows b c → Known c env'
    → ((inputs : List Value) → denoted c inputs env' ≡ f (denoted b inputs env)) → Stage b c g env env' (λ e. goes [] e) (λ e. goes [] (f e))
stage-simple {b} {c} {env} {env'} {g} f r grows kn e = record {
  base = grows.base;
  known = kn;
  taken = λ inputs h.
      goes-last (run c inputs env')
      ∙ (λ i. outcome_of (grows.reported inputs i) (e inputs i))
      ∙ set-goes (so_far b inputs) (denoted b inputs env) f;
  idle = λ inputs h. grows.reported inputs;
}

pub set-stage : {b c : Builder} {env : List ℕ} {g k : ℕ} (t : Environment → Value) (x : ℕ) → (Sane b → Known b env → TermStep b c env t k) → Placed b env g
    → Stage b c g env (set env x k) (λ e. goes [] e) (λ e. goes [] (set e x (t (environment e))))
set-stage {b} {c} {env} {g} {k} t x f r =
    let s = f r.sane r.known in
    let l = s.grows.base in
    stage-simple (λ e. set e x (t (environment e))) r s.grows (known-set x k s.within (known-on l r.known))
    (λ inputs. denoted-set inputs x k (t (environment (denoted b inputs env))) l r.known (s.value inputs))

pub del-stage : {b : Builder} {env : List ℕ} {g : ℕ} (x : ℕ) → Placed b env g → Stage b b g env (set env x 0) (λ e. goes [] e) (λ e. goes [] (set e x Undef))
del-stage {b} {env} {g} x r =
    let zero_in = r.sane.literal 0 (omega arith) in
    stage-simple (λ e. set e x Undef) r (grows-none r.sane) (known-set x 0 zero_in r.known)
    (λ inputs. denoted-set inputs x 0 Undef (longer-none r.sane) r.known (r.sane.undef inputs))

-- the stop and the notes of a condition's value
found-stage : {b d : Builder} {env : List ℕ} {g : ℕ} (t : Environment → Value) (j : Value → Env → RunState) (cause : Value → Option Cause) (more : Value
    → List Label) → ((v : Value) (x : Env) → unless_stopped (cause v) (goes (more v) x) ≡ j v x) → Longer b d → Placed b env g →
    ((inputs : List Value) → at b inputs g ≡ Num (pos 1000000)
    → so_far d inputs ≡ observed_more (so_far b inputs) (cause (t (environment (denoted b inputs env)))) (more (t (environment (denoted b inputs env))))) →
    ((inputs : List Value) → at b inputs g ≡ Num (pos 0) → so_far d inputs ≡ so_far b inputs) →
    Stage b d g env env (λ e. goes [] e) (λ e. j (t (environment e)) e)
found-stage {b} {d} {env} {g} t j cause more same long r taken idle = record {
  base = long;
  known = known-on long r.known;
  taken = λ inputs h.
      let e = denoted b inputs env in
      let v = t (environment e) in
      goes-last (run d inputs env)
      ∙ (λ i. outcome_of (taken inputs h i) (denoted-on inputs long r.known i))
      ∙ found-run (so_far b inputs) e (cause v) (more v) (λ x. j (t (environment x)) x) (same v e);
  idle = idle;
}

-- a condition and its check
check-reported : {b c d : Builder} (env : List ℕ) {g k l : ℕ} {only : Bool} {f : FaceLabel} (t : Environment → Value) → TermStep b c env t k
    → Checked c d g k only l → Faced c d l f → IsUsable b g → (inputs : List Value)
    → so_far d inputs ≡ observed_more (so_far b inputs) (face_fired (at b inputs g) only f (t (environment (denoted b inputs env)))) []
check-reported {b} {c} {d} env {g} {k} {l} {only} {f} t s p q h inputs =
    checked-reported p q s.grows.base.sane inputs
    ∙ (λ i. observed_more (s.grows.reported inputs i) (face_fired (s.grows.base.keeps inputs g h i) only f (s.value inputs i)) [])

check-longer : {b c d : Builder} (env : List ℕ) {g k l : ℕ} {only : Bool} {f : FaceLabel} (t : Environment → Value) → TermStep b c env t k
    → Checked c d g k only l → Faced c d l f → IsUsable b g → Longer b d
check-longer {b} {c} {d} env {g} t s p q h =
    longer-then s.grows.base (checked-longer p q (usable-on s.grows.base h) s.within s.grows.base.sane)

pub check-stage : {b c d : Builder} {env : List ℕ} {g k l : ℕ} {only : Bool} {f : FaceLabel} (t : Environment → Value) (j : Value → Env → RunState)
    → ((v : Value) (x : Env) → unless_stopped (face_judged only f v) (goes [] x) ≡ j v x) → (Sane b → Known b env → TermStep b c env t k)
    → Checked c d g k only l → Faced c d l f → Placed b env g → Stage b d g env env (λ e. goes [] e) (λ e. j (t (environment e)) e)
check-stage {b} {c} {d} {env} {g} {k} {l} {only} {f} t j same step p q r =
    let s = step r.sane r.known in
    let reported = check-reported env t s p q r.guard in
    found-stage t j (face_judged only f) (λ v. []) same (check-longer env t s p q r.guard) r
    (λ inputs h. reported inputs ∙ ap (λ v. observed_more (so_far b inputs) (face_fired v only f (t (environment (denoted b inputs env)))) []) h)
    (λ inputs h.
    reported inputs
    ∙ ap (λ v. observed_more (so_far b inputs) (face_fired v only f (t (environment (denoted b inputs env)))) []) h
    ∙ more-none (so_far b inputs))

-- a verification that stops, and one that is noted, by its condition's value
false-true : false ≡ true → ⊥
false-true e = cc

true-false : true ≡ false → ⊥
true-false e = cc

stopped-number : (labels : List Label) (number : ℕ) (label : Label) → slice_get labels number ≡ Some label → (stopping zero : Bool) (e : Env) → stopping ≡ true
    →
    unless_stopped (cond zero None (Some (failed label))) (goes [] e)
    ≡ unless_stopped (option_and_then (failure_cause labels) (cond (not zero && stopping) (Some (Failed number)) None))
    (goes (cons_option (cond (not zero && not stopping) (slice_get labels number) None) []) e)
stopped-number labels number label is true true e h = refl
stopped-number labels number label is true false e h = sym (ap (λ o. unless_stopped (option_map failed o) (goes [] e)) is)
stopped-number labels number label is false zero e h = absurd (false-true h)

pub verif-face : (labels : List Label) (number : ℕ) (label : Label) → slice_get labels number ≡ Some label → is_stopping (kind_at labels number) ≡ true
    → (v : Value) (e : Env) → unless_stopped (face_judged false (Verif label) v) (goes [] e) ≡ judged labels number v e
verif-face labels number label is kind Undef e = refl
verif-face labels number label is kind (Num z) e = stopped-number labels number label is (is_stopping (kind_at labels number)) (is_zero z) e kind
verif-face labels number label is kind Over e = sym (ap (λ o. unless_stopped (option_map over o) (goes [] e)) is)

-- what a note reports whose node is 1 if this value is a number other than 0
abbrev note_by : Label → Value → List Label
note_by label v = cons_option (note_read (Verif label) (truth_of v)) []

noted-number : (labels : List Label) (number : ℕ) (label : Label) → slice_get labels number ≡ Some label → (stopping zero : Bool) (e : Env) → stopping ≡ false →
    goes (cons_option (note_read (Verif label) (Num (truth (not zero)))) []) e
    ≡ unless_stopped (option_and_then (failure_cause labels) (cond (not zero && stopping) (Some (Failed number)) None))
    (goes (cons_option (cond (not zero && not stopping) (slice_get labels number) None) []) e)
noted-number labels number label is false true e h = refl
noted-number labels number label is false false e h = sym (ap (λ o. goes (cons_option o []) e) is)
noted-number labels number label is true zero e h = absurd (true-false h)

noted-face : (labels : List Label) (number : ℕ) (label : Label) → slice_get labels number ≡ Some label → is_stopping (kind_at labels number) ≡ false
    → (v : Value) (e : Env) → unless_stopped (face_judged true (Verif label) v) (goes (note_by label v) e) ≡ judged labels number v e
noted-face labels number label is kind Undef e = refl
noted-face labels number label is kind (Num z) e = noted-number labels number label is (is_stopping (kind_at labels number)) (is_zero z) e kind
noted-face labels number label is kind Over e = sym
    (ap (λ o. unless_stopped (option_map over o) (goes (cons_option (cond (false && not (is_stopping (kind_at labels number))) o None) []) e)) is)

pub line-face : (line : ℕ) (v : Value) (e : Env) → unless_stopped (face_judged true (DriverLine line) v) (goes [] e) ≡ over_judged line v e
line-face line Undef e = refl
line-face line (Num z) e = refl
line-face line Over e = refl

-- a check of the rules
pub rule-stage : {labels : List Label} {b c e : Builder} {env : List ℕ} {g k : ℕ} (d : Check) (label : Label) → d.1 < length labels
    → is_stopping (kind_at labels d.1) ≡ true → (Sane b → Known b env → TermStep b c env (λ x. term_value x d.0) k) → CheckedRule c e g k false d.1
    → Ready labels b env g → Stage b e g env env (λ x. goes [] x) (λ x. judged labels d.1 (term_value (environment x) d.0) x)
rule-stage {labels} d label lt kind step p r =
    check-stage (λ x. term_value x d.0) (judged labels d.1) (verif-face labels d.1 (get_or labels d.1 label) (slice_get-get_or labels d.1 label lt) kind) step
    p.base
    (faced-rule d.1 label (faces-on (step r.placed.sane r.placed.known).grows.base r.labelled) lt p)
    r.placed

-- a check of the rules that is noted: the check, the truth of its condition, the choice of it by the guard, and the note
pub noted-stage : {labels : List Label} {b c d0 d1 d2 e : Builder} {env : List ℕ} {g k i j : ℕ} (d : Check) (label : Label) → d.1 < length labels
    → is_stopping (kind_at labels d.1) ≡ false → (Sane b → Known b env → TermStep b c env (λ x. term_value x d.0) k) → CheckedRule c d0 g k true d.1
    → Pushed d0 d1 (Do Truth k k k) i → Pushed d1 d2 (Do Choose g i 1) j → NotedAt d2 e j d.1 → Ready labels b env g
    → Stage b e g env env (λ x. goes [] x) (λ x. judged labels d.1 (term_value (environment x) d.0) x)
noted-stage {labels} {b} {c} {d0} {d1} {d2} {e} {env} {g} {k} {i} {j} d label lt kind step p q1 q2 n r =
    let own = get_or labels d.1 label in
    let t : Environment → Value = λ x. term_value x d.0 in
    let s = step r.placed.sane r.placed.known in
    let faced = faced-rule d.1 label (faces-on s.grows.base r.labelled) lt p in
    let l0 = check-longer env t s p.base faced r.placed.guard in
    let k_in = usable-on (checked-longer p.base faced (usable-on s.grows.base r.placed.guard) s.within s.grows.base.sane) s.within in
    let g_in = usable-on l0 r.placed.guard in
    let g1 = pushed-grows q1 (k_in, k_in, k_in) l0.sane in
    let i_in = pushed-within q1 (λ t. t) in
    let g_in1 = usable-on g1.base g_in in
    let one_in = g1.base.sane.literal 1 (omega arith) in
    let g2 = pushed-grows q2 (g_in1, i_in, one_in) g1.base.sane in
    let grows = grows-then g1 g2 in
    let l2 = longer-then l0 grows.base in
    let labelled = faces-on l2 r.labelled in
    let is : face d2 d.1 ≡ Verif own = labelled.same d.1 label lt in
    let l_in : d.1 < faces d2 = omega (arith, labelled.within, lt) in
    let long = longer-then l2 (noted-longer n (pushed-within q2 (λ t. t)) l_in (subst IsVerif (sym is) tt) l2.sane) in
    let value : (inputs : List Value) → at d2 inputs j ≡ chosen (at b inputs g) (truth_of (t (environment (denoted b inputs env)))) (Num (pos 0)) = λ inputs.
    pushed-value q2 inputs ∙ choose-value _ _ _
    ∙ (λ x. chosen
    ((g1.base.keeps inputs g g_in ∙ l0.keeps inputs g r.placed.guard) x)
    ((pushed-value q1 inputs ∙ truth-value _ _ _ ∙ ap truth_of (ap (λ ns. get_or (node_values inputs ns) k Undef) p.base.nodes ∙ s.value inputs)) x)
    (g1.base.sane.zero inputs x)) in
    let reported : (inputs : List Value) → so_far e inputs ≡ observed_more
    (observed_more (so_far b inputs) (face_fired (at b inputs g) true (Verif own) (t (environment (denoted b inputs env)))) []) None
    (cons_option (note_read (Verif own) (chosen (at b inputs g) (truth_of (t (environment (denoted b inputs env)))) (Num (pos 0)))) []) = λ inputs.
    noted-reported n inputs
    ∙ (λ x. observed_more ((grows.reported inputs ∙ check-reported env t s p.base faced r.placed.guard inputs) x) None
    (cons_option (note_read (is x) (value inputs x)) [])) in
    let under_guard : List Value → Value → SoFar = λ inputs v. observed_more
    (observed_more (so_far b inputs) (face_fired v true (Verif own) (t (environment (denoted b inputs env)))) []) None
    (cons_option (note_read (Verif own) (chosen v (truth_of (t (environment (denoted b inputs env)))) (Num (pos 0)))) []) in
    found-stage t (judged labels d.1) (face_judged true (Verif own)) (note_by own) (noted-face labels d.1 own (slice_get-get_or labels d.1 label lt) kind) long
    r.placed
    (λ inputs h. reported inputs ∙ ap (under_guard inputs) h
    ∙ more-more (so_far b inputs) (face_judged true (Verif own) (t (environment (denoted b inputs env))))
    (note_by own (t (environment (denoted b inputs env)))))
    (λ inputs h. reported inputs ∙ ap (under_guard inputs) h ∙ more-more (so_far b inputs) None [] ∙ more-none (so_far b inputs))

-- definitions
pub computed-first : {b : Builder} {env : List ℕ} (f : Env → Env) → Sane b → Known b env → Computed b b env env f f
computed-first f s k = record { grows = grows-none s; known = k; value = λ inputs. refl }

pub computed-next : {b c d : Builder} {env env' : List ℕ} {k : ℕ} {rest whole : Env → Env} (t : Environment → Value) (x : ℕ)
    → Computed b c env env' (λ e. rest (set e x (t (environment e)))) whole → (Sane c → Known c env' → TermStep c d env' t k)
    → Computed b d env (set env' x k) rest whole
computed-next {b} {c} {d} {env} {env'} {k} {rest} {whole} t x s f =
    let n = f s.grows.base.sane s.known in
    let l = n.grows.base in
    record {
      grows = grows-then s.grows n.grows;
      known = known-set x k n.within (known-on l s.known);
      value = λ inputs. ap rest (denoted-set inputs x k (t (environment (denoted c inputs env'))) l s.known (n.value inputs)) ∙ s.value inputs;
    }

-- a stage between a change of the environment and another
pub wrapped : {b c d : Builder} {env env1 env2 env3 : List ℕ} {g : ℕ} {does : Env → RunState} (before : Env → Env) (after : Env → Env → Env) → Placed b env g
    → Grows b c → ((inputs : List Value) → denoted c inputs env1 ≡ before (denoted b inputs env)) → Stage c d g env1 env2 (λ e. goes [] e) does → Known d env3
    → ((inputs : List Value) → denoted d inputs env3 ≡ after (denoted b inputs env) (denoted d inputs env2))
    → Stage b d g env env3 (λ e. goes [] e) (λ e. then_do (does (before e)) (λ f. goes [] (after e f)))
wrapped {b} {c} {d} {env} {env1} {env2} {env3} {g} {does} before after r grows first s kn last = record {
  base = longer-then grows.base s.base;
  known = kn;
  taken = λ inputs h.
      let e = denoted b inputs env in
      let there : at c inputs g ≡ Num (pos 1000000) = grows.base.keeps inputs g r.guard ∙ h in
      goes-last (run d inputs env3)
      ∙ ap (outcome_of (so_far d inputs)) (last inputs)
      ∙ set-goes (so_far d inputs) (denoted d inputs env2) (after e)
      ∙ ap (λ o. then_do o (λ f. goes [] (after e f)))
      (sym (goes-last (run d inputs env2)) ∙ s.taken inputs there ∙ (λ i. then_do (outcome_of (grows.reported inputs i) (first inputs i)) does))
      ∙ wrap (so_far b inputs) e before does after;
  idle = λ inputs h. s.idle inputs (grows.base.keeps inputs g r.guard ∙ h) ∙ grows.reported inputs;
}
