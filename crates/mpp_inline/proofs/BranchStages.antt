use Rattle.std.proofs.Common.{length, ◌≡◌, ℕ, ◌<◌, Bool, true, false, cond, List, [], ◌∷◌, get_or, set, slice_get, Option, Some, None, ◌⊎◌, inl, inr, ⊎_elim}
use Rattle.std.proofs.Common.{not, refl, sym, ap, ◌∙◌, subst, arith, pos}
use mathlib.Core.Bool.{◌&&◌}
use Rattle.std.specs.List.{cons_option}
use Rattle.std.specs.Prelude.{option_and_then, option_map}
use Rattle.std.proofs.lemmas.List.{map-set, set-get_or}
use Rattle.std.proofs.lemmas.Option.{slice_get-get_or}
use Rattle.m_fixed.specs.declared.amount.Value.{Value}
use Rattle.m_fixed.specs.declared.amount.Value.TheVariants.{Undef, Num, Over}
use Rattle.m_fixed.specs.declared.operator.Op.TheVariants.{Choose, Truth}
use Rattle.m_fixed.specs.Operators.{op_value, is_zero, truth, truth_of, chosen}
use Rattle.m_places.specs.declared.verification.Label.{Label}
use Rattle.micro_m.specs.Failures.{Check, is_stopping, kind_at}
use Rattle.micro_m.specs.declared.base.Failure.TheVariants.{Failed}
use Rattle.micro_m.specs.Values.{Environment, environment, term_value}
use Rattle.flat_code.specs.declared.program.Node.TheVariants.{Do}
use Rattle.flat_code.specs.Runs.{node_values}
use Rattle.observables.specs.declared.face.FaceLabel.{FaceLabel}
use Rattle.observables.specs.declared.face.FaceLabel.TheVariants.{Verif, DriverLine}
use Rattle.observables.specs.Answers.{Cause, failed, over}
use Rattle.driver_core.specs.Meaning.{Env, RunState, goes, then_do, chosen_block, with_values, failure_cause, unless_stopped}
use Rattle.mpp_inline.specs.declared.builder.Builder.{Builder}
use Rattle.mpp_inline.specs.Labelling.{with_line}
use Rattle.mpp_inline.specs.inner.Cells.{picked, written, received}
use Rattle.mpp_inline.specs.inner.Growth.{faces, face, at, IsUsable, SoFar, so_far, observed_more, note_read, IsVerif, denoted, outcome_of, run, Sane, Known}
use Rattle.mpp_inline.specs.inner.Growth.{Placed, Ready, CheckedRule, CheckedLine, NotedAt, Pushed, Checked, Longer, Grows, TermStep, Computed, Stage, Opened}
use Rattle.mpp_inline.specs.inner.Growth.{over_judged, judged, Held, Merged, entries}
use Rattle.mpp_inline.proofs.OutcomeLemmas.{goes-last, then-then, set-goes, wrap, both-steps, found-run, more-none, more-more}
use Rattle.mpp_inline.proofs.ListLemmas.{all-picked, all-written, written-map, received-map, with-received}
use Rattle.mpp_inline.proofs.RunLemmas.{face_judged, face_fired}
use Rattle.mpp_inline.proofs.UsableLemmas.{usable-on}
use Rattle.mpp_inline.proofs.LabelLemmas.{line-labelling}
use Rattle.mpp_inline.proofs.GrowthLemmas.{longer-none, longer-then, grows-none, grows-then, known-on, denoted-on, run-on, known-get, known-set, pushed-within}
use Rattle.mpp_inline.proofs.GrowthLemmas.{pushed-value, pushed-grows, faces-on}
use Rattle.mpp_inline.proofs.CheckGrowth.{checked-longer, checked-reported, noted-longer, noted-reported, denoted-set}
use Rattle.mpp_inline.proofs.GrowthLemmas.{Faced, faced-line, faced-rule}
use Rattle.mpp_inline.proofs.StageLemmas.{choose-value, truth-value, check-stage, line-face, wrapped}

-- cells of one environment received by another
pub known-received : {b : Builder} (xs from env : List ℕ) → Sane b → Known b from → Known b env → Known b (received 0 xs from env)
known-received {b} xs from env s f k = record {
  all = all-written (IsUsable b) (picked 0 xs from) env (all-picked (IsUsable b) 0 xs from (s.literal 0 (omega arith)) f.all) k.all;
}

pub denoted-received : {b : Builder} (inputs : List Value) (xs from env : List ℕ) → Sane b
    → denoted b inputs (received 0 xs from env) ≡ with_values xs (environment (denoted b inputs from)) (denoted b inputs env)
denoted-received {b} inputs xs from env s =
    received-map (at b inputs) 0 xs from env ∙ ap (λ v. received v xs (denoted b inputs from) (denoted b inputs env)) (s.undef inputs)
    ∙ sym (with-received xs (denoted b inputs from) (denoted b inputs env))

pub rules-stage : {labels : List Label} {b c d : Builder} {env env' : List ℕ} {g : ℕ} {does : Env → RunState} {first : Env → Env} (xs : List ℕ)
    → (Sane b → Known b env → Computed b c env env' (λ e. e) first) → (Ready labels c env' g → Stage c d g env' env' (λ e. goes [] e) does)
    → Ready labels b env g → Stage b d g env (received 0 xs env' env) (λ e. goes [] e)
    (λ e. then_do (does (first e)) (λ f. goes [] (with_values xs (environment f) e)))
rules-stage {labels} {b} {c} {d} {env} {env'} {g} {does} {first} xs defs checks r =
    let k = defs r.placed.sane r.placed.known in
    let s = checks (record {
      placed = record { sane = k.grows.base.sane; known = k.known; guard = usable-on k.grows.base r.placed.guard };
      labelled = faces-on
          k.grows.base r.labelled;
    }) in
    let l = longer-then k.grows.base s.base in
    wrapped first (λ e f. with_values xs (environment f) e) r.placed k.grows k.value s
    (known-received xs env' env l.sane s.known (known-on l r.placed.known))
    (λ inputs. denoted-received inputs xs env' env l.sane ∙ ap (with_values xs (environment (denoted d inputs env'))) (denoted-on inputs l r.placed.known))

-- a choice: both values of the truth
truth-number : (b : Bool) → (Num (truth (not b)) ≡ Num (pos 0)) ⊎ (Num (truth (not b)) ≡ Num (pos 1000000))
truth-number true = inl refl
truth-number false = inr refl

pub truth-cases : (v : Value) → (truth_of v ≡ Num (pos 0)) ⊎ (truth_of v ≡ Num (pos 1000000))
truth-cases Undef = inl refl
truth-cases (Num z) = truth-number (is_zero z)
truth-cases Over = inl refl

pub both-zero : (v : Value) → chosen (truth_of v) (Num (pos 0)) (Num (pos 0)) ≡ Num (pos 0)
both-zero v = ⊎_elim
    (λ (h : truth_of v ≡ Num (pos 0)). ap (λ x. chosen x (Num (pos 0)) (Num (pos 0))) h)
    (λ (h : truth_of v ≡ Num (pos 1000000)). ap (λ x. chosen x (Num (pos 0)) (Num (pos 0))) h)
    (truth-cases v)

not-both : (v : Value) → v ≡ Num (pos 0) → v ≡ Num (pos 1000000) → ⊥
not-both v e f = cc

first-number : (c : Bool) (e : Env) (a b : Env → RunState) → Num (truth (not c)) ≡ Num (pos 1000000) → a e ≡ cond c (b e) (a e)
first-number true e a b h = absurd (not-both (Num (pos 0)) refl h)
first-number false e a b h = refl

judged-first : (line : ℕ) (v : Value) (e : Env) (a b : Env → RunState) → truth_of v ≡ Num (pos 1000000)
    → then_do (over_judged line v e) a ≡ chosen_block line v (a e) (b e)
judged-first line Undef e a b h = absurd (not-both (Num (pos 0)) refl h)
judged-first line (Num z) e a b h = first-number (is_zero z) e a b h
judged-first line Over e a b h = absurd (not-both (Num (pos 0)) refl h)

second-number : (c : Bool) (e : Env) (a b : Env → RunState) → Num (truth (not c)) ≡ Num (pos 0) → b e ≡ cond c (b e) (a e)
second-number true e a b h = refl
second-number false e a b h = absurd (not-both (Num (pos 1000000)) h refl)

judged-second : (line : ℕ) (v : Value) (e : Env) (a b : Env → RunState) → truth_of v ≡ Num (pos 0)
    → then_do (over_judged line v e) b ≡ chosen_block line v (a e) (b e)
judged-second line Undef e a b h = refl
judged-second line (Num z) e a b h = second-number (is_zero z) e a b h
judged-second line Over e a b h = refl

pub chosen-first : (s : SoFar) (e : Env) (line : ℕ) (t : Environment → Value) (a b : Env → RunState) → truth_of (t (environment e)) ≡ Num (pos 1000000)
    → then_do (then_do (outcome_of s e) (λ x. over_judged line (t (environment x)) x)) a ≡ then_do (outcome_of s e)
    (λ x. chosen_block line (t (environment x)) (a x) (b x))
chosen-first s e line t a b h =
    both-steps s e (λ x. over_judged line (t (environment x)) x) a (λ x. chosen_block line (t (environment x)) (a x) (b x))
    (judged-first line (t (environment e)) e a b h)

pub chosen-second : (s : SoFar) (e : Env) (line : ℕ) (t : Environment → Value) (a b : Env → RunState) → truth_of (t (environment e)) ≡ Num (pos 0)
    → then_do (then_do (outcome_of s e) (λ x. over_judged line (t (environment x)) x)) b ≡ then_do (outcome_of s e)
    (λ x. chosen_block line (t (environment x)) (a x) (b x))
chosen-second s e line t a b h =
    both-steps s e (λ x. over_judged line (t (environment x)) x) b (λ x. chosen_block line (t (environment x)) (a x) (b x))
    (judged-second line (t (environment e)) e a b h)

-- the guards of an `if`, once its condition is emitted
pub open-branches : {b c c1 c2 d : Builder} {env : List ℕ} {g line v k i j : ℕ} {t : Environment → Value} → (Sane b → Known b env → TermStep b c env t v)
    → CheckedLine c c1 g v line → {c3 : Builder} → Pushed c1 c2 (Do Truth v v v) k → Pushed c2 c3 (Do Choose k g 1) i → Pushed c3 d (Do Choose k 1 g) j
    → Placed b env g → Opened b d env g line t (record { truth = k; first = i; second = j })
open-branches {b} {c} {c1} {c2} {d} {env} {g} {line} {v} {k} {i} {j} {t} step p {c3} q1 q2 q3 r =
    let ts = step r.sane r.known in
    let s0 = check-stage t (over_judged line) (line-face line) step p.base (faced-line p) r in
    let lc = checked-longer p.base (faced-line p) (usable-on ts.grows.base r.guard) ts.within ts.grows.base.sane in
    let l0 = s0.base in
    let v_in = usable-on lc ts.within in
    let g1 = pushed-grows q1 (v_in, v_in, v_in) l0.sane in
    let k_in = pushed-within q1 (λ t. t) in
    let one_in = g1.base.sane.literal 1 (omega arith) in
    let g_in = usable-on g1.base (usable-on l0 r.guard) in
    let g2 = pushed-grows q2 (k_in, g_in, one_in) g1.base.sane in
    let i_in = pushed-within q2 (λ t. t) in
    let k_in3 = usable-on g2.base k_in in
    let g_in3 = usable-on g2.base g_in in
    let one_in3 = usable-on g2.base one_in in
    let g3 = pushed-grows q3 (k_in3, one_in3, g_in3) g2.base.sane in
    let grows = grows-then g1 (grows-then g2 g3) in
    let long = longer-then l0 grows.base in
    let l02 = longer-then l0 g1.base in
    let l03 = longer-then l02 g2.base in
    let l23 = longer-then g2.base g3.base in
    let value : (inputs : List Value) → at c1 inputs v ≡ t (environment (denoted b inputs env)) = λ inputs. lc.keeps inputs v ts.within ∙ ts.value inputs in
    record {
      stage = record {
        base = long;
        known = known-on grows.base s0.known;
        taken = λ inputs h. ap (λ o. then_do o (λ e. goes [] e)) (run-on inputs grows s0.known) ∙ s0.taken inputs h;
        idle = λ inputs h. grows.reported inputs ∙ s0.idle inputs h;
      };
      labelling = grows.labelling ∙ line-labelling p ∙ ap (with_line line) ts.grows.labelling;
      first_within = usable-on g3.base i_in;
      second_within = pushed-within q3 (λ t. t);
      truth_within = usable-on l23 k_in;
      truth = λ inputs. l23.keeps inputs k k_in ∙ pushed-value q1 inputs ∙ truth-value _ _ _ ∙ ap truth_of (value inputs);
      first = λ inputs.
          g3.base.keeps inputs i i_in ∙ pushed-value q2 inputs ∙ choose-value _ _ _
          ∙ (λ x. chosen (sym (l23.keeps inputs k k_in) x) (l02.keeps inputs g r.guard x) (g1.base.sane.zero inputs x));
      second = λ inputs.
          pushed-value q3 inputs ∙ choose-value _ _ _
          ∙ (λ x. chosen (sym (g3.base.keeps inputs k k_in3) x) (g2.base.sane.zero inputs x) (l03.keeps inputs g r.guard x));
    }

-- the merge, entry by entry
pub merge-first : {b : Builder} {env : List ℕ} {truth : ℕ} (ps : List (ℕ × ℕ)) → Placed b env truth → Merged b b truth ps ps env env
merge-first ps r = record { grows = grows-none r.sane; known = r.known; first = λ inputs h. refl; second = λ inputs h. refl }

pub merge-skip : {b c : Builder} {env env' : List ℕ} {truth : ℕ} {p : ℕ × ℕ} {ps whole : List (ℕ × ℕ)} → IsUsable b p.1 → p.1 ≡ get_or env' p.0 0
    → Merged b c truth (p ∷ ps) whole env env' → Merged b c truth ps whole env env'
merge-skip {b} {c} {env} {env'} {truth} {p} {ps} {whole} within same m = record {
  grows = m.grows;
  known = m.known;
  first = λ inputs h.
      ap (written (entries b inputs ps))
      (sym (sym (map-set (at c inputs) env' p.0 (get_or env' p.0 0))
      ∙ ap (denoted c inputs) (set-get_or env' p.0 0))
      ∙ ap (λ v. set (denoted c inputs env') p.0 v) (ap (at c inputs) (sym same) ∙ m.grows.base.keeps inputs p.1 within))
      ∙ m.first inputs h;
  second = m.second;
}

pub merge-write : {b c d : Builder} {env env' : List ℕ} {truth k : ℕ} {p : ℕ × ℕ} {ps whole : List (ℕ × ℕ)} → Placed b env truth → IsUsable b p.1
    → Merged b c truth (p ∷ ps) whole env env' → Pushed c d (Do Choose truth p.1 (get_or env' p.0 0)) k → Merged b d truth ps whole env (set env' p.0 k)
merge-write {b} {c} {d} {env} {env'} {truth} {k} {p} {ps} {whole} r within m q =
    let l = m.grows.base in
    let t_in = usable-on l r.guard in
    let p_in = usable-on l within in
    let x_in = known-get p.0 l.sane m.known in
    let grows = pushed-grows q (t_in, p_in, x_in) l.sane in
    let value : (inputs : List Value) → at d inputs k ≡ chosen (at b inputs truth) (at b inputs p.1) (at c inputs (get_or env' p.0 0)) = λ inputs.
    pushed-value q inputs ∙ choose-value _ _ _
    ∙ (λ i. chosen (l.keeps inputs truth r.guard i) (l.keeps inputs p.1 within i) (at c inputs (get_or env' p.0 0))) in
    record {
      grows = grows-then m.grows grows;
      known = known-set p.0 k (pushed-within q (λ t. t)) (known-on grows.base m.known);
      first = λ inputs h.
          ap (written (entries b inputs ps))
          (denoted-set inputs p.0 k (at b inputs p.1) grows.base m.known
          (value inputs ∙ ap (λ v. chosen v (at b inputs p.1) (at c inputs (get_or env' p.0 0))) h))
          ∙ m.first inputs h;
      second = λ inputs h.
          denoted-set inputs p.0 k (at c inputs (get_or env' p.0 0)) grows.base m.known
          (value inputs ∙ ap (λ v. chosen v (at b inputs p.1) (at c inputs (get_or env' p.0 0))) h)
          ∙ sym (map-set (at c inputs) env' p.0 (get_or env' p.0 0))
          ∙ ap (denoted c inputs) (set-get_or env' p.0 0)
          ∙ m.second inputs h;
    }

-- the given nodes where the guard is the literal 1
one-none : (v : Value) → v ≡ Num (pos 1000000) → v ≡ Num (pos 0) → ⊥
one-none v e f = cc

pub write-one : {b : Builder} {env : List ℕ} (ps : List (ℕ × ℕ)) → Placed b env 2 → Held b ps → Merged b b 2 [] ps env (written ps env)
write-one {b} {env} ps r h = record {
  grows = grows-none r.sane;
  known = record { all = all-written (IsUsable b) ps env h.all r.known.all };
  first = λ inputs e. written-map (at b inputs) ps env;
  second = λ inputs e. absurd (one-none (at b inputs 2) (r.sane.one inputs) e);
}
