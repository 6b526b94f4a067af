use Rattle.std.proofs.Common.{Bor, ◌≡◌, ℕ, true, false, cond, List, [], ◌∷◌, ◌++◌, set, inl, inr, ⊎_elim, refl, sym, ap, ◌∙◌, subst, arith, pos}
use Rattle.std.specs.List.{AllByRecursion}
use Rattle.std.specs.declared.vec.Vec.{Vec}
use Rattle.std.specs.declared.alloc.Global.{Global}
use Rattle.m_fixed.specs.declared.amount.Value.{Value}
use Rattle.m_fixed.specs.declared.amount.Value.TheVariants.{Undef, Num}
use Rattle.m_fixed.specs.Operators.{truth_of, chosen}
use Rattle.m_places.specs.declared.verification.Label.{Label}
use Rattle.micro_m.specs.Values.{Environment, environment, term_value}
use Rattle.flat_code.specs.Runs.{is_one}
use Rattle.driver_core.specs.Actions.{Action, branch, partition, call}
use Rattle.driver_core.specs.ActionView.{block_of}
use Rattle.micro_m.specs.Trees.{Tree}
use Rattle.driver_core.specs.Meaning.{Env, RunState, goes, then_do, chosen_block, with_values, without}
use Rattle.mpp_inline.specs.declared.builder.Builder.{Builder}
use Rattle.mpp_inline.specs.declared.branches.Branches.{Branches}
use Rattle.mpp_inline.specs.declared.work.Work.{Work}
use Rattle.mpp_inline.specs.declared.work.Work.TheVariants.{Run, Under, Restore, Return}
use Rattle.mpp_inline.specs.Labelling.{Labelling, with_body}
use Rattle.mpp_inline.specs.inner.Cells.{picked, written, received, blanked}
use Rattle.mpp_inline.specs.inner.Labels.{labelling_by}
use Rattle.mpp_inline.specs.inner.Growth.{IsUsable, at, so_far, denoted, outcome_of, run, entries, Sane, Known, Held, Placed, Ready, Longer, TermStep, Computed}
use Rattle.mpp_inline.specs.inner.Growth.{Stage, Opened, Merged, SameBut, over_judged, calls}
use Rattle.mpp_inline.specs.inner.Work.{under, Point, point, Whole, does, does_one, adds, adds_one, done, finish}
use Rattle.mpp_inline.specs.inner.Work.{ahead, block_ahead, IsBit, Guarding, Kept, Standing, Moves, Step}
use Rattle.mpp_inline.proofs.ListLemmas.{all-more, all-append, all-picked, all-written, all-blanked, picked-map, written-map, blanked-map, restored, same-none}
use Rattle.mpp_inline.proofs.ListLemmas.{same-back, same-blanked, with-received, without-blanked}
use Rattle.mpp_inline.proofs.UsableLemmas.{usable-on}
use Rattle.mpp_inline.proofs.GrowthLemmas.{longer-none, longer-then, known-on, denoted-on, faces-on}
use Rattle.mpp_inline.proofs.OutcomeLemmas.{goes-last, then-then, set-goes, wrap}
use Rattle.mpp_inline.proofs.StageLemmas.{set-stage, del-stage}
use Rattle.mpp_inline.proofs.BranchStages.{rules-stage, truth-cases, both-zero, chosen-first, chosen-second, known-received}
use Rattle.mpp_inline.proofs.BranchStages.{denoted-received}
use Rattle.mpp_inline.proofs.WorkLemmas.{under-none, under-under, bit-of, bit-chosen, held-picked, finish-on, finish-last, left-fewer, standing-on}
use Rattle.mpp_inline.proofs.WorkLemmas.{standing-more, standing-guard, own-guard}

-- an `if`
pub guards-apart : {b d : Builder} {env : List ℕ} {g line : ℕ} {t : Environment → Value} {r : Branches} → Placed b env g
    → (inputs : List Value) (one two : Env → RunState) → IsBit (at b inputs g) → Opened b d env g line t r
    → under (at d inputs r.second) (under (at d inputs r.first) (run d inputs env) one) two ≡ under (at b inputs g) (run b inputs env)
    (λ e. chosen_block line (t (environment e)) (one e) (two e))
guards-apart {b} {d} {env} {g} {line} {t} {r} p inputs one two bit o =
    let e = denoted b inputs env in
    let v = t (environment e) in
    let all : Env → RunState = λ x. chosen_block line (t (environment x)) (one x) (two x) in
    ⊎_elim
    (λ (h : at b inputs g ≡ Num (pos 0)).
    let off1 : at d inputs r.first ≡ Num (pos 0) = o.first inputs ∙ (λ i. chosen (o.truth inputs i) (h i) (Num (pos 0))) ∙ both-zero v in
    let off2 : at d inputs r.second ≡ Num (pos 0) = o.second inputs ∙ (λ i. chosen (o.truth inputs i) (Num (pos 0)) (h i)) ∙ both-zero v in
    (λ i. under (off2 i) (under (off1 i) (run d inputs env) one) two)
    ∙ (λ i. outcome_of (o.stage.idle inputs h i) (denoted-on inputs o.stage.base p.known i))
    ∙ sym (ap (λ x. under x (run b inputs env) all) h))
    (λ (h : at b inputs g ≡ Num (pos 1000000)).
    let opened : run d inputs env ≡ then_do (run b inputs env) (λ x. over_judged line (t (environment x)) x) = sym (goes-last (run d inputs env))
    ∙ o.stage.taken inputs h in
    ⊎_elim
    (λ (f : truth_of v ≡ Num (pos 0)).
    let off : at d inputs r.first ≡ Num (pos 0) = o.first inputs ∙ ap (λ x. chosen x (at b inputs g) (Num (pos 0))) (o.truth inputs ∙ f) in
    let on : at d inputs r.second ≡ Num (pos 1000000) = o.second inputs ∙ (λ i. chosen ((o.truth inputs ∙ f) i) (Num (pos 0)) (h i)) in
    (λ i. under (on i) (under (off i) (run d inputs env) one) two)
    ∙ ap (λ x. then_do x two) opened
    ∙ chosen-second (so_far b inputs) e line t one two f
    ∙ sym (ap (λ x. under x (run b inputs env) all) h))
    (λ (f : truth_of v ≡ Num (pos 1000000)).
    let on : at d inputs r.first ≡ Num (pos 1000000) = o.first inputs ∙ (λ i. chosen ((o.truth inputs ∙ f) i) (h i) (Num (pos 0))) in
    let off : at d inputs r.second ≡ Num (pos 0) = o.second inputs ∙ ap (λ x. chosen x (Num (pos 0)) (at b inputs g)) (o.truth inputs ∙ f) in
    (λ i. under (off i) (under (on i) (run d inputs env) one) two)
    ∙ ap (λ x. then_do x one) opened
    ∙ chosen-first (so_far b inputs) e line t one two f
    ∙ sym (ap (λ x. under x (run b inputs env) all) h))
    (truth-cases v))
    bit

pub if-moves : {whole : Whole} {b d : Builder} {env : List ℕ} {g line : ℕ} {r : Branches} {ws : List Work} (t' : Tree) (depth : ℕ)
    (first second : Bor (List Action)) → (Placed b env g → Opened b d env g line (λ e. term_value e t') r) → Standing whole b env g ws
    → Moves whole b d env r.first ws ((((ws ++ Under g ∷ []) ++ Run depth second ∷ []) ++ Under r.second ∷ []) ++ Run depth first ∷ [])
    (λ inputs. ahead whole b inputs env g depth (branch line t' (block_of first.now) (block_of second.now)))
if-moves {whole} {b} {d} {env} {g} {line} {r} {ws} t' depth first second opens s =
    let o = opens s.ready.placed in
    let l = o.stage.base in
    let one = does whole depth first.now in
    let two = does whole depth second.now in
    let ws1 = ws ++ Under g ∷ [] in
    let ws2 = ws1 ++ Run depth second ∷ [] in
    let ws3 = ws2 ++ Under r.second ∷ [] in
    let moved = standing-on l o.stage.known s in
    let truth : (inputs : List Value) → IsBit (at d inputs r.truth) = λ inputs. bit-of (o.truth inputs)
    (truth-cases (term_value (environment (denoted b inputs env)) t')) in
    let guard1 : Guarding d r.first = record {
      within = o.first_within;
      bit = λ inputs. bit-of (o.first inputs)
          (bit-chosen (at d inputs r.truth) (at b inputs g) (Num (pos 0)) (truth inputs) (s.bit inputs) (inl refl));
    } in
    let guard2 : Guarding d r.second = record {
      within = o.second_within;
      bit = λ inputs. bit-of (o.second inputs)
          (bit-chosen (at d inputs r.truth) (Num (pos 0)) (at b inputs g) (truth inputs) (inl refl) (s.bit inputs));
    } in
    record {
      base = l;
      standing = standing-more (Run depth first) tt
          (standing-more (Under r.second) guard2 (standing-more (Run depth second) tt
          (standing-more (Under g) (own-guard moved) (standing-guard guard1 moved))));
      same = λ inputs.
          finish-last whole d inputs ws3 (Run depth first) _
          ∙ finish-last whole d inputs ws2 (Under r.second) _
          ∙ finish-last whole d inputs ws1 (Run depth second) _
          ∙ finish-last whole d inputs ws (Under g) _
          ∙ (λ i. finish whole d inputs ws (record {
            guard = l.keeps inputs g s.ready.placed.guard i;
            far = guards-apart s.ready.placed inputs one two
                (s.bit inputs) o i;
            labelling = adds whole depth second.now (adds whole depth first.now (o.labelling i));
          }))
          ∙ finish-on whole inputs ws _ l s.left;
    }

-- a partition
known-blanked : {b : Builder} (xs env : List ℕ) → Sane b → Known b env → Known b (blanked 0 xs env)
known-blanked {b} xs env s k = record { all = all-blanked (IsUsable b) 0 xs env (s.literal 0 (omega arith)) k.all }

entries-picked : {b : Builder} (inputs : List Value) (xs env : List ℕ) → Sane b → entries b inputs (picked 0 xs env) ≡ picked Undef xs (denoted b inputs env)
entries-picked {b} inputs xs env s = picked-map (at b inputs) 0 xs env ∙ ap (λ v. picked v xs (denoted b inputs env)) (s.undef inputs)

around-part : (b : Builder) (env : List ℕ) (g : ℕ) (inputs : List Value) (xs : List ℕ) (next : Env → RunState) → Sane b → IsBit (at b inputs g)
    → then_do (under (at b inputs g) (run b inputs (blanked 0 xs env)) next) (λ e. goes [] (written (entries b inputs (picked 0 xs env)) e)) ≡ under
    (at b inputs g) (run b inputs env) (λ e. then_do (next (without xs e)) (λ f. goes [] (with_values xs (environment e) f)))
around-part b env g inputs xs next s bit =
    let e = denoted b inputs env in
    let v = at b inputs g in
    let ps = picked 0 xs env in
    let before = blanked 0 xs env in
    let after : Env → RunState = λ f. goes [] (written (entries b inputs ps) f) in
    let all : Env → RunState = λ x. then_do (next (without xs x)) (λ f. goes [] (with_values xs (environment x) f)) in
    let written-same : (f : Env) → written (entries b inputs ps) f ≡ with_values xs (environment e) f = λ f. ap (λ qs. written qs f)
    (entries-picked inputs xs env s) ∙ sym (with-received xs e f) in
    let blank-same : denoted b inputs before ≡ without xs e = blanked-map (at b inputs) 0 xs env ∙ ap (λ x. blanked x xs e) (s.undef inputs)
    ∙ sym (without-blanked xs e) in
    ⊎_elim
    (λ (h : v ≡ Num (pos 0)).
    ap (λ x. then_do (under x (run b inputs before) next) after) h
    ∙ sym (set-goes (so_far b inputs) (denoted b inputs before) (written (entries b inputs ps)))
    ∙ ap (outcome_of (so_far b inputs)) (sym (written-map (at b inputs) ps before) ∙ ap (denoted b inputs) (restored xs env before (same-blanked xs env)))
    ∙ sym (ap (λ x. under x (run b inputs env) all) h))
    (λ (h : v ≡ Num (pos 1000000)).
    ap (λ x. then_do (under x (run b inputs before) next) after) h
    ∙ (λ i. then_do (then_do (outcome_of (so_far b inputs) (blank-same i)) next) (λ f. goes [] (written-same f i)))
    ∙ wrap (so_far b inputs) e (without xs) next (λ x f. with_values xs (environment x) f)
    ∙ sym (ap (λ x. under x (run b inputs env) all) h))
    bit

pub part-moves : {whole : Whole} {b : Builder} {env : List ℕ} {g : ℕ} {ws : List Work} (depth line : ℕ) (before : Vec (ℕ × ℕ) Global) (xs : List ℕ)
    (block : Bor (List Action)) → before.items ≡ picked 0 xs env → Standing whole b env g ws
    → Moves whole b b (blanked 0 xs env) g ws ((ws ++ Restore before ∷ []) ++ Run depth block ∷ [])
    (λ inputs. ahead whole b inputs env g depth (partition line xs (block_of block.now)))
part-moves {whole} {b} {env} {g} {ws} depth line before xs block is s =
    let sane = s.ready.placed.sane in
    let l = longer-none sane in
    let ws1 = ws ++ Restore before ∷ [] in
    let next = does whole depth block.now in
    record {
      base = l;
      standing = standing-more (Run depth block) tt (standing-more (Restore before) (subst (Held b) (sym is) (held-picked xs env sane s.ready.placed.known))
          (standing-on l (known-blanked xs env sane s.ready.placed.known) s));
      same = λ inputs.
          finish-last whole b inputs ws1 (Run depth block) _
          ∙ finish-last whole b inputs ws (Restore before) _
          ∙ (λ i. finish whole b inputs ws (record {
            guard = at b inputs g;
            far = then_do (under (at b inputs g) (run b inputs (blanked 0 xs env)) next)
                (λ e. goes [] (written (entries b inputs (is i)) e));
            labelling = adds whole depth block.now (labelling_by b);
          }))
          ∙ (λ i. finish whole b inputs ws (record {
            guard = at b inputs g;
            far = around-part b env g inputs xs next sane (s.bit inputs) i;
            labelling = adds whole depth block.now (labelling_by b);
          }));
    }

-- a call
around-call : (b : Builder) (env : List ℕ) (g : ℕ) (inputs : List Value) (xs : List ℕ) (next : Env → RunState) → Sane b → IsBit (at b inputs g)
    → then_do (under (at b inputs g) (run b inputs env) next) (λ e. goes [] (with_values xs (environment e) (denoted b inputs env))) ≡ under (at b inputs g)
    (run b inputs env) (λ e. then_do (next e) (λ f. goes [] (with_values xs (environment f) e)))
around-call b env g inputs xs next s bit =
    let e = denoted b inputs env in
    let v = at b inputs g in
    let after : Env → RunState = λ f. goes [] (with_values xs (environment f) e) in
    let all : Env → RunState = λ x. then_do (next x) (λ f. goes [] (with_values xs (environment f) x)) in
    ⊎_elim
    (λ (h : v ≡ Num (pos 0)).
    ap (λ x. then_do (under x (run b inputs env) next) after) h
    ∙ sym (set-goes (so_far b inputs) e (λ f. with_values xs (environment f) e))
    ∙ ap (outcome_of (so_far b inputs)) (sym (denoted-received inputs xs env env s) ∙ ap (denoted b inputs) (restored xs env env (same-none xs env)))
    ∙ sym (ap (λ x. under x (run b inputs env) all) h))
    (λ (h : v ≡ Num (pos 1000000)).
    ap (λ x. then_do (under x (run b inputs env) next) after) h
    ∙ wrap (so_far b inputs) e (λ x. x) next (λ x f. with_values xs (environment f) x)
    ∙ sym (ap (λ x. under x (run b inputs env) all) h))
    bit

pub call-moves : {whole : Whole} {b : Builder} {env : List ℕ} {g : ℕ} {ws : List Work} (depth line names deep f : ℕ) (cells : Bor (List ℕ))
    (outer : Vec ℕ Global) (block : Bor (List Action)) → outer.items ≡ env
    → does whole deep block.now ≡ calls whole.core whole.ordered.base whole.ordered.sequence depth f
    → ((l : Labelling) → adds whole deep block.now l ≡ with_body whole.ordered.base whole.core.bodies depth f l) → Standing whole b env g ws
    → Moves whole b b env g ws ((ws ++ Return cells outer ∷ []) ++ Run deep block ∷ [])
    (λ inputs. ahead whole b inputs env g depth (call line names cells.now f))
call-moves {whole} {b} {env} {g} {ws} depth line names deep f cells outer block is body labels s =
    let sane = s.ready.placed.sane in
    let ws1 = ws ++ Return cells outer ∷ [] in
    record {
      base = longer-none sane;
      standing = standing-more (Run deep block) tt (standing-more (Return cells outer) (subst (Known b) (sym is) s.ready.placed.known) s);
      same = λ inputs.
          finish-last whole b inputs ws1 (Run deep block) _
          ∙ finish-last whole b inputs ws (Return cells outer) _
          ∙ (λ i. finish whole b inputs ws (record {
            guard = at b inputs g;
            far = then_do (under (at b inputs g) (run b inputs env) (body i))
                (λ e. goes [] (with_values cells.now (environment e) (denoted b inputs (is i))));
            labelling = labels (labelling_by b) i;
          }))
          ∙ (λ i. finish whole b inputs ws (record {
            guard = at b inputs g;
            far = around-call b env g inputs cells.now (calls whole.core whole.ordered.base whole.ordered.sequence depth f) sane
                (s.bit inputs) i;
            labelling = with_body whole.ordered.base whole.core.bodies depth f (labelling_by b);
          }));
    }

-- the last item
pub none-moves : {whole : Whole} {b : Builder} {env : List ℕ} {g : ℕ} {ws : List Work} (depth : ℕ) (block : List Action) → block ≡ []
    → Standing whole b env g ws → Moves whole b b env g ws ws (λ inputs. block_ahead whole b inputs env g depth block)
none-moves {whole} {b} {env} {g} {ws} depth block is s = record {
  base = longer-none s.ready.placed.sane;
  standing = s;
  same = λ inputs. sym
      ((λ i. finish whole b inputs ws (block_ahead whole b inputs env g depth (is i)))
      ∙ (λ i. finish whole b inputs ws (record {
        guard = at b inputs g;
        far = under-none (at b inputs g) (run b inputs env) i;
        labelling = labelling_by b;
      })));
}

pub first-moves : {whole : Whole} {b c : Builder} {env env' : List ℕ} {g g' : ℕ} {ws ws' : List Work} (depth : ℕ) (a : Action) (block : List Action)
    (rest : Bor (List Action)) → block ≡ a ∷ rest.now → Standing whole b env g ws
    → (Standing whole b env g (ws ++ Run depth rest ∷ [])
    → Moves whole b c env' g' (ws ++ Run depth rest ∷ []) ws' (λ inputs. ahead whole b inputs env g depth a))
    → Moves whole b c env' g' ws ws' (λ inputs. block_ahead whole b inputs env g depth block)
first-moves {whole} {b} {c} {env} {env'} {g} {g'} {ws} {ws'} depth a block rest is s step =
    let m = step (standing-more (Run depth rest) tt s) in
    record {
      base = m.base;
      standing = m.standing;
      same = λ inputs.
          m.same inputs
          ∙ finish-last whole b inputs ws (Run depth rest) _
          ∙ (λ i. finish whole b inputs ws (record {
            guard = at b inputs g;
            far = under-under (at b inputs g) (run b inputs env) (does_one whole depth a)
                (does whole depth rest.now) i;
            labelling = adds whole depth rest.now (adds_one whole depth a (labelling_by b));
          }))
          ∙ (λ i. finish whole b inputs ws (block_ahead whole b inputs env g depth (sym is i)));
    }

pub restore-moves : {whole : Whole} {b : Builder} {env : List ℕ} {g : ℕ} {ws : List Work} (before : Vec (ℕ × ℕ) Global) → Held b before.items
    → Standing whole b env g ws → Moves whole b b (written before.items env) g ws ws (λ inputs. done whole b inputs (Restore before) (point b inputs env g))
restore-moves {whole} {b} {env} {g} {ws} before h s =
    let l = longer-none s.ready.placed.sane in
    record {
      base = l;
      standing = standing-on l (record { all = all-written (IsUsable b) before.items env h.all s.ready.placed.known.all }) s;
      same = λ inputs.
          (λ i. finish whole b inputs ws (record {
            guard = at b inputs g;
            far = (ap (outcome_of (so_far b inputs)) (written-map (at b inputs) before.items env)
                ∙ set-goes (so_far b inputs) (denoted b inputs env) (written (entries b inputs before.items))) i;
            labelling = labelling_by b;
          }));
    }

pub return-moves : {whole : Whole} {b : Builder} {env : List ℕ} {g : ℕ} {ws : List Work} (cells : Bor (List ℕ)) (outer : Vec ℕ Global) → Known b outer.items
    → Standing whole b env g ws → Moves whole b b (received 0 cells.now env outer.items) g ws ws
    (λ inputs. done whole b inputs (Return cells outer) (point b inputs env g))
return-moves {whole} {b} {env} {g} {ws} cells outer k s =
    let sane = s.ready.placed.sane in
    let l = longer-none sane in
    record {
      base = l;
      standing = standing-on l (known-received cells.now env outer.items sane s.ready.placed.known k) s;
      same = λ inputs.
          (λ i. finish whole b inputs ws (record {
            guard = at b inputs g;
            far = (ap (outcome_of (so_far b inputs)) (denoted-received inputs cells.now env outer.items sane)
                ∙ set-goes (so_far b inputs) (denoted b inputs env) (λ e. with_values cells.now (environment e) (denoted b inputs outer.items))) i;
            labelling = labelling_by b;
          }));
    }

-- the loop
abbrev pub main-point : Builder → List ℕ → (Env → RunState) → (Labelling → Labelling) → List Value → Point
main-point b env next more inputs = record { guard = at b inputs 2; far = under (at b inputs 2) (run b inputs env) next; labelling = more (labelling_by b) }

pub main-first : {whole : Whole} {b : Builder} {env : List ℕ} (depth : ℕ) (block : Bor (List Action)) (next : Env → RunState) (more : Labelling → Labelling)
    → does whole depth block.now ≡ next → ((l : Labelling) → adds whole depth block.now l ≡ more l) → Ready whole.ordered.base.labels b env 2
    → Moves whole b b env 2 [] (Run depth block ∷ []) (main-point b env next more)
main-first {whole} {b} {env} depth block next more is labels r = record {
  base = longer-none r.placed.sane;
  standing = record { ready = r; bit = λ inputs. inr (r.placed.sane.one inputs); left = (tt, tt) };
  same = λ inputs. λ i. record {
    guard = at b inputs 2;
    far = under (at b inputs 2) (run b inputs env) (is i);
    labelling = labels (labelling_by b) i;
  };
}

pub main-last : {whole : Whole} {b c : Builder} {env env' : List ℕ} {g : ℕ} {ws : List Work} {next : Env → RunState} {more : Labelling → Labelling} → ws ≡ []
    → Moves whole b c env' g [] ws (main-point b env next more) → Step b c 2 env env' next more
main-last {whole} {b} {c} {env} {env'} {g} {ws} {next} {more} is m =
    let end : (inputs : List Value) → point c inputs env' g ≡ main-point b env next more inputs = λ inputs. sym
    (ap (λ l. finish whole c inputs l (point c inputs env' g)) is) ∙ m.same inputs in
    record {
      base = m.base;
      labelling = ap (λ (p : Point). p.labelling) (end []);
      known = m.standing.ready.placed.known;
      moved = λ inputs bit. ap (λ (p : Point). p.far) (end inputs);
    }

pub moves-then : {whole : Whole} {a b c : Builder} {env env' : List ℕ} {g g' : ℕ} {ws' : List Work} {target : List Value → Point} (ws : List Work) (w : Work)
    → Moves whole a b env g [] (ws ++ w ∷ []) target
    → (Standing whole b env g ws → Kept b w → Moves whole b c env' g' ws ws' (λ inputs. done whole b inputs w (point b inputs env g)))
    → Moves whole a c env' g' [] ws' target
moves-then {whole} {a} {b} ws w m step =
    let all = left-fewer b ws w m.standing.left in
    let n = step (record { ready = m.standing.ready; bit = m.standing.bit; left = all.0 }) all.1 in
    record {
      base = longer-then m.base n.base;
      standing = n.standing;
      same = λ inputs. n.same inputs ∙ sym (finish-last whole b inputs ws w _) ∙ m.same inputs;
    }
