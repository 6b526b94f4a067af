-- The work list as the program grows, and the effect of each command and item on it.
use Rattle.std.proofs.Common.{Bor, ◌≡◌, ℕ, true, false, cond, List, [], ◌∷◌, ◌++◌, set, inl, inr, ⊎_elim, refl, sym, ap, ◌∙◌, subst, arith, pos}
use Rattle.std.specs.List.{AllByRecursion}
use Rattle.std.specs.declared.vec.Vec.{Vec}
use Rattle.std.specs.declared.alloc.Global.{Global}
use Rattle.m_fixed.specs.declared.amount.Value.{Value}
use Rattle.m_fixed.specs.declared.amount.Value.TheVariants.{Undef, Num}
use Rattle.m_fixed.specs.Operators.{truth_of, chosen}
use Rattle.m_places.specs.declared.verification.Label.{Label}
use Rattle.micro_m.specs.Values.{Environment, environment}
use Rattle.flat_code.specs.Runs.{is_one}
use Rattle.driver_core.specs.Actions.{Action, branch, partition, call}
use Rattle.driver_core.specs.ActionView.{block_of}
use Rattle.micro_m.specs.Trees.{Tree}
use Rattle.driver_core.specs.Meaning.{Env, RunState, goes, then_do, chosen_block, with_values, without}
use Rattle.mpp_inline.specs.declared.builder.Builder.{Builder}
use Rattle.mpp_inline.specs.declared.branches.Branches.{Branches}
use Rattle.mpp_inline.specs.declared.work.Work.{Work}
use Rattle.mpp_inline.specs.declared.work.Work.TheVariants.{Run, Under, Restore, Return}
use Rattle.mpp_inline.specs.Labelling.{Labelling}
use Rattle.mpp_inline.specs.inner.Cells.{picked, written, received, blanked}
use Rattle.mpp_inline.specs.inner.Labels.{labelling_by}
use Rattle.mpp_inline.specs.inner.Growth.{IsUsable, at, so_far, denoted, outcome_of, run, entries, Sane, Known, Held, Placed, Ready, Longer, TermStep, Computed}
use Rattle.mpp_inline.specs.inner.Growth.{Stage, Opened, Merged, SameBut, over_judged, calls}
use Rattle.mpp_inline.specs.inner.Work.{under, Point, point, Whole, does, does_one, adds_one, done, finish, ahead, block_ahead, IsBit, Guarding, Kept, Standing}
use Rattle.mpp_inline.specs.inner.Work.{Moves, Step}
use Rattle.mpp_inline.proofs.ListLemmas.{all-more, all-append, all-picked, all-written, all-blanked, picked-map, written-map, blanked-map, restored, same-none}
use Rattle.mpp_inline.proofs.ListLemmas.{same-back, same-blanked, with-received, without-blanked}
use Rattle.mpp_inline.proofs.UsableLemmas.{usable-on}
use Rattle.mpp_inline.proofs.GrowthLemmas.{longer-none, longer-then, known-on, denoted-on, faces-on}
use Rattle.mpp_inline.proofs.OutcomeLemmas.{goes-last, then-then, set-goes, wrap}
use Rattle.mpp_inline.proofs.StageLemmas.{set-stage, del-stage}
use Rattle.mpp_inline.proofs.BranchStages.{rules-stage, truth-cases, both-zero, chosen-first, chosen-second, known-received}
use Rattle.mpp_inline.proofs.BranchStages.{denoted-received}

-- a guard of 0 or 1
pub under-none : (v : Value) (o : RunState) → under v o (λ e. goes [] e) ≡ o
under-none v o = elim (is_one v) as (λ b. cond b (then_do o (λ e. goes [] e)) o ≡ o) [ true ↦ goes-last o | false ↦ refl ]

pub under-under : (v : Value) (o : RunState) (f g : Env → RunState) → under v (under v o f) g ≡ under v o (λ e. then_do (f e) g)
under-under v o f g = elim (is_one v) as (λ b. cond b (then_do (cond b (then_do o f) o) g) (cond b (then_do o f) o) ≡ cond b (then_do o (λ e. then_do (f e) g))
    o) [ true ↦ then-then o f g | false ↦ refl ]

pub bit-of : {v w : Value} → v ≡ w → IsBit w → IsBit v
bit-of e b = subst IsBit (sym e) b

pub bit-chosen : (t x y : Value) → IsBit t → IsBit x → IsBit y → IsBit (chosen t x y)
bit-chosen t x y b p q = ⊎_elim
    (λ (h : t ≡ Num (pos 0)). bit-of (ap (λ v. chosen v x y) h) q)
    (λ (h : t ≡ Num (pos 1000000)). bit-of (ap (λ v. chosen v x y) h) p)
    b

-- writes that take effect only if the guard is 1
pub step-written : {b d f : Builder} {env env1 env2 : List ℕ} {g : ℕ} {next : Env → RunState} (given : List (ℕ × ℕ)) → Placed b env g
    → Stage b d g env env1 (λ e. goes [] e) next → {more : Labelling → Labelling} → labelling_by d ≡ more (labelling_by b) → env1 ≡ written given env
    → Merged d f g [] given env env2 → Step b f g env env2 next more
step-written {b} {d} {f} {env} {env1} {env2} {g} {next} given r s labels is m =
    let there : (inputs : List Value) → at d inputs g ≡ at b inputs g = λ inputs. s.base.keeps inputs g r.guard in
    record {
      base = longer-then s.base m.grows.base;
      labelling = m.grows.labelling ∙ labels;
      known = m.known;
      moved = λ inputs bit. ⊎_elim
          (λ (h : at b inputs g ≡ Num (pos 0)).
          (λ i. outcome_of ((m.grows.reported inputs ∙ s.idle inputs h) i) ((m.second inputs (there inputs ∙ h) ∙ denoted-on inputs s.base r.known) i))
          ∙ sym (ap (λ v. under v (run b inputs env) next) h))
          (λ (h : at b inputs g ≡ Num (pos 1000000)).
          (λ i. outcome_of (m.grows.reported inputs i) ((m.first inputs (there inputs ∙ h) ∙ sym (written-map (at d inputs) given env)
          ∙ ap (denoted d inputs) (sym is)) i))
          ∙ sym (goes-last (run d inputs env1)) ∙ s.taken inputs h
          ∙ sym (ap (λ v. under v (run b inputs env) next) h))
          bit;
    }

-- one write, and the rules
pub held-picked : {b : Builder} (xs env : List ℕ) → Sane b → Known b env → Held b (picked 0 xs env)
held-picked {b} xs env s k = record { all = all-picked (IsUsable b) 0 xs env (s.literal 0 (omega arith)) k.all }

pub set-step : {b c d : Builder} {env env' : List ℕ} {g k : ℕ} (t : Environment → Value) (x : ℕ) → (Sane b → Known b env → TermStep b c env t k)
    → (Placed c env g → IsUsable c k → Merged c d g [] ((x, k) ∷ []) env env') → Placed b env g
    → Step b d g env env' (λ e. goes [] (set e x (t (environment e)))) (λ labels. labels)
set-step {b} {c} {d} {env} {env'} {g} {k} t x term write r =
    let t' = term r.sane r.known in
    let l = t'.grows.base in
    step-written ((x, k) ∷ []) r (set-stage t x term r) t'.grows.labelling refl
    (write (record { sane = l.sane; known = known-on l r.known; guard = usable-on l r.guard })
    t'.within)

pub del-step : {b d : Builder} {env env' : List ℕ} {g : ℕ} (x : ℕ) → (Placed b env g → IsUsable b 0 → Merged b d g [] ((x, 0) ∷ []) env env') → Placed b env g
    → Step b d g env env' (λ e. goes [] (set e x Undef)) (λ labels. labels)
del-step {b} {d} {env} {env'} {g} x write r = step-written ((x, 0) ∷ []) r (del-stage x r) refl refl (write r (r.sane.literal 0 (omega arith)))

-- a choice for each of these cells, from which some cells are then copied
merged-received : {d f : Builder} {env env1 env2 : List ℕ} {g : ℕ} (xs ds : List ℕ) → Placed d env g → SameBut ds env env1
    → Merged d f g [] (picked 0 ds env1) env env2 → Merged d f g [] (picked 0 xs env1) env (received 0 xs env2 env)
merged-received {d} {f} {env} {env1} {env2} {g} xs ds r frame m =
    let l = m.grows.base in
    let last : (inputs : List Value) → denoted f inputs (received 0 xs env2 env) ≡ with_values xs (environment (denoted f inputs env2)) (denoted d inputs env) =
    λ inputs. denoted-received inputs xs env2 env l.sane ∙ ap (with_values xs (environment (denoted f inputs env2))) (denoted-on inputs l r.known) in
    let all : received 0 ds env1 env ≡ env1 = restored ds env1 env (same-back ds env env1 frame) in
    record {
      grows = m.grows;
      known = known-received xs env2 env l.sane m.known (known-on l r.known);
      first = λ inputs h.
          last inputs
          ∙ ap (λ e. with_values xs (environment e) (denoted d inputs env)) (m.first inputs h ∙ sym (written-map (at d inputs) (picked 0 ds env1) env)
          ∙ ap (denoted d inputs) all)
          ∙ sym (denoted-received inputs xs env1 env r.sane)
          ∙ written-map (at d inputs) (picked 0 xs env1) env;
      second = λ inputs h.
          last inputs
          ∙ ap (λ e. with_values xs (environment e) (denoted d inputs env)) (m.second inputs h)
          ∙ sym (denoted-received inputs xs env env r.sane)
          ∙ ap (denoted d inputs) (restored xs env env (same-none xs env));
    }

-- the rules, with choices for the received cells, and with choices for all defined cells
pub rules-step : {labels : List Label} {b c d f : Builder} {env env1 env2 : List ℕ} {g : ℕ} {checks' : Env → RunState} {first : Env → Env} (xs : List ℕ)
    → (Sane b → Known b env → Computed b c env env1 (λ e. e) first) → (Ready labels c env1 g → Stage c d g env1 env1 (λ e. goes [] e) checks')
    → {more : Labelling → Labelling} → (Ready labels c env1 g → labelling_by d ≡ more (labelling_by c))
    → (Placed d env g → Held d (picked 0 xs env1) → Merged d f g [] (picked 0 xs env1) env env2) → Ready labels b env g
    → Step b f g env env2 (λ e. then_do (checks' (first e)) (λ h. goes [] (with_values xs (environment h) e))) more
rules-step {labels} {b} {c} {d} {f} {env} {env1} {env2} {g} xs defs checks {more} added write r =
    let k = defs r.placed.sane r.placed.known in
    let l1 = k.grows.base in
    let ready : Ready labels c env1 g = record {
      placed = record { sane = l1.sane; known = k.known; guard = usable-on l1 r.placed.guard };
      labelled = faces-on l1 r.labelled;
    } in
    let s = checks ready in
    let l = longer-then l1 s.base in
    step-written (picked 0 xs env1) r.placed (rules-stage xs defs checks r) (added ready ∙ ap more k.grows.labelling) refl
    (write (record { sane = l.sane; known = known-on l r.placed.known; guard = usable-on l r.placed.guard }) (held-picked xs env1 l.sane s.known))

pub rules-step-all : {labels : List Label} {b c d f : Builder} {env env1 env2 : List ℕ} {g : ℕ} {checks' : Env → RunState} {first : Env → Env} (xs ds : List ℕ)
    → SameBut ds env env1 → (Sane b → Known b env → Computed b c env env1 (λ e. e) first)
    → (Ready labels c env1 g → Stage c d g env1 env1 (λ e. goes [] e) checks')
    → {more : Labelling → Labelling} → (Ready labels c env1 g → labelling_by d ≡ more (labelling_by c))
    → (Placed d env g → Held d (picked 0 ds env1) → Merged d f g [] (picked 0 ds env1) env env2) → Ready labels b env g
    → Step b f g env (received 0 xs env2 env) (λ e. then_do (checks' (first e)) (λ h. goes [] (with_values xs (environment h) e))) more
rules-step-all {labels} {b} {c} {d} {f} {env} {env1} {env2} {g} xs ds frame defs checks {more} added write r =
    let k = defs r.placed.sane r.placed.known in
    let l1 = k.grows.base in
    let ready : Ready labels c env1 g = record {
      placed = record { sane = l1.sane; known = k.known; guard = usable-on l1 r.placed.guard };
      labelled = faces-on l1 r.labelled;
    } in
    let s = checks ready in
    let l = longer-then l1 s.base in
    let p : Placed d env g = record { sane = l.sane; known = known-on l r.placed.known; guard = usable-on l r.placed.guard } in
    step-written (picked 0 xs env1) r.placed (rules-stage xs defs checks r) (added ready ∙ ap more k.grows.labelling) refl
    (merged-received xs ds p frame (write p (held-picked ds env1 l.sane s.known)))

-- the work list as the program grows
pub entries-on : {b c : Builder} (inputs : List Value) (ps : List (ℕ × ℕ)) → Longer b c → AllByRecursion (λ p. IsUsable b p.1) ps
    → entries c inputs ps ≡ entries b inputs ps
entries-on inputs [] l a = refl
entries-on inputs (p ∷ ps) l a = λ i. (p.0, l.keeps inputs p.1 a.0 i) ∷ entries-on inputs ps l a.1 i

pub done-on : {b c : Builder} (whole : Whole) (inputs : List Value) (w : Work) (p : Point) → Longer b c → Kept b w
    → done whole c inputs w p ≡ done whole b inputs w p
done-on whole inputs (Run depth block) p l k = refl
done-on whole inputs (Under g) p l k = λ i. record { guard = l.keeps inputs g k.within i; far = p.far; labelling = p.labelling }
done-on whole inputs (Restore before) p l
    k = λ i. record { guard = p.guard; far = then_do p.far (λ e. goes [] (written (entries-on inputs before.items l k.all i) e)); labelling = p.labelling }
done-on whole inputs (Return cells outer) p l
    k = λ i. record {
      guard = p.guard;
      far = then_do p.far (λ e. goes [] (with_values cells.now (environment e) (denoted-on inputs l k i)));
      labelling = p.labelling;
    }

pub finish-on : {b c : Builder} (whole : Whole) (inputs : List Value) (ws : List Work) (p : Point) → Longer b c → AllByRecursion (Kept b) ws
    → finish whole c inputs ws p ≡ finish whole b inputs ws p
finish-on whole inputs [] p l a = refl
finish-on {b} {c} whole inputs (w ∷ ws) p l a = done-on whole inputs w (finish whole c inputs ws p) l a.0
    ∙ ap (done whole b inputs w) (finish-on whole inputs ws p l a.1)

pub finish-last : (whole : Whole) (b : Builder) (inputs : List Value) (ws : List Work) (w : Work) (p : Point)
    → finish whole b inputs (ws ++ w ∷ []) p ≡ finish whole b inputs ws (done whole b inputs w p)
finish-last whole b inputs [] w p = refl
finish-last whole b inputs (v ∷ ws) w p = ap (done whole b inputs v) (finish-last whole b inputs ws w p)

pub guarding-on : {b c : Builder} {k : ℕ} → Longer b c → Guarding b k → Guarding c k
guarding-on {b} {c} {k} l g = record { within = usable-on l g.within; bit = λ inputs. bit-of (l.keeps inputs k g.within) (g.bit inputs) }

pub held-on : {b c : Builder} {ps : List (ℕ × ℕ)} → Longer b c → Held b ps → Held c ps
held-on {b} {c} {ps} l h = record { all = all-more (λ p. IsUsable b p.1) (λ p. IsUsable c p.1) (λ p k. usable-on l k) ps h.all }

pub kept-on : {b c : Builder} (w : Work) → Longer b c → Kept b w → Kept c w
kept-on (Run depth block) l k = tt
kept-on (Under g) l k = guarding-on l k
kept-on (Restore before) l k = held-on l k
kept-on (Return cells outer) l k = known-on l k

pub left-on : {b c : Builder} (ws : List Work) → Longer b c → AllByRecursion (Kept b) ws → AllByRecursion (Kept c) ws
left-on {b} {c} ws l a = all-more (Kept b) (Kept c) (λ w k. kept-on w l k) ws a

pub left-more : (b : Builder) (ws : List Work) (w : Work) → AllByRecursion (Kept b) ws → Kept b w → AllByRecursion (Kept b) (ws ++ w ∷ [])
left-more b ws w a k = all-append (Kept b) ws (w ∷ []) a (k, tt)

pub left-fewer : (b : Builder) (ws : List Work) (w : Work) → AllByRecursion (Kept b) (ws ++ w ∷ []) → AllByRecursion (Kept b) ws × Kept b w
left-fewer b [] w a = (tt, a.0)
left-fewer b (v ∷ ws) w a = let r = left-fewer b ws w a.1 in ((a.0, r.0), r.1)

-- what is unchanged when the program grows
pub standing-on : {whole : Whole} {b c : Builder} {env env' : List ℕ} {g : ℕ} {ws : List Work} → Longer b c → Known c env' → Standing whole b env g ws
    → Standing whole c env' g ws
standing-on {whole} {b} {c} {env} {env'} {g} {ws} l kn s = record {
  ready = record {
    placed = record { sane = l.sane; known = kn; guard = usable-on l s.ready.placed.guard };
    labelled = faces-on l s.ready.labelled;
  };
  bit = λ inputs. bit-of (l.keeps inputs g s.ready.placed.guard) (s.bit inputs);
  left = left-on ws l s.left;
}

pub standing-more : {whole : Whole} {b : Builder} {env : List ℕ} {g : ℕ} {ws : List Work} (w : Work) → Kept b w → Standing whole b env g ws
    → Standing whole b env g (ws ++ w ∷ [])
standing-more {whole} {b} {env} {g} {ws} w k s = record { ready = s.ready; bit = s.bit; left = left-more b ws w s.left k }

pub standing-guard : {whole : Whole} {b : Builder} {env : List ℕ} {g k : ℕ} {ws : List Work} → Guarding b k → Standing whole b env g ws
    → Standing whole b env k ws
standing-guard h s = record {
  ready = record { placed = record { sane = s.ready.placed.sane; known = s.ready.placed.known; guard = h.within }; labelled = s.ready.labelled };
  bit = h.bit;
  left = s.left;
}

pub own-guard : {whole : Whole} {b : Builder} {env : List ℕ} {g : ℕ} {ws : List Work} → Standing whole b env g ws → Guarding b g
own-guard s = record { within = s.ready.placed.guard; bit = s.bit }

-- a command that pushes no item
pub step-moves : {whole : Whole} {b c : Builder} {env env' : List ℕ} {g : ℕ} {ws : List Work} (depth : ℕ) (a : Action) → Standing whole b env g ws
    → Step b c g env env' (does_one whole depth a) (adds_one whole depth a) → Moves whole b c env' g ws ws (λ inputs. ahead whole b inputs env g depth a)
step-moves {whole} {b} {c} {env} {env'} {g} {ws} depth a s t = record {
  base = t.base;
  standing = standing-on t.base t.known s;
  same = λ inputs.
      (λ i. finish whole c inputs ws (record {
        guard = t.base.keeps inputs g s.ready.placed.guard i;
        far = t.moved inputs (s.bit inputs) i;
        labelling = t.labelling i;
      }))
      ∙ finish-on whole inputs ws (ahead whole b inputs env g depth a) t.base s.left;
}

-- rewriting of the target
pub step-moves-is : {whole : Whole} {b c : Builder} {env env' : List ℕ} {g : ℕ} {ws : List Work} {a a' : Action} (depth : ℕ) → a ≡ a'
    → Standing whole b env g ws → Step b c g env env' (does_one whole depth a) (adds_one whole depth a)
    → Moves whole b c env' g ws ws (λ inputs. ahead whole b inputs env g depth a')
step-moves-is {whole} {b} {c} {env} {env'} {g} {ws} {a} {a'} depth is s t = subst
    (λ x. Moves whole b c env' g ws ws (λ inputs. ahead whole b inputs env g depth x)) is (step-moves depth a s t)
