use Rattle.std.proofs.Common.{◌≡◌, ℕ, zero, suc, ◌+◌, ◌<◌, ◌≤◌, Bool, true, false, nat_lt, List, [], ◌∷◌, ◌++◌, length, get_or, set, None, refl, sym, ap, ◌∙◌}
use Rattle.std.proofs.Common.{subst, ⊎_elim, arith, length-append}
use Rattle.std.specs.List.{AllByRecursion, cons_option}
use Rattle.std.proofs.Math.ListN.{get_or-map, get_or-append}
use Rattle.std.proofs.Math.Seq.{get_or-append_seam}
use Rattle.std.proofs.lemmas.List.{map-set, get_or_past}
use Rattle.std.proofs.lemmas.Bool.{ltb-true, ltb-false}
use Rattle.std.specs.Option.{option_or}
use Rattle.m_fixed.specs.declared.amount.Value.{Value}
use Rattle.m_fixed.specs.declared.amount.Value.TheVariants.{Undef}
use Rattle.m_places.specs.declared.verification.Label.{Label}
use Rattle.flat_code.specs.declared.program.Node.{Node}
use Rattle.flat_code.specs.declared.program.Node.TheVariants.{Lit, Do}
use Rattle.flat_code.specs.declared.program.Check.{Check}
use Rattle.observables.specs.declared.face.FaceLabel.{FaceLabel}
use Rattle.observables.specs.declared.face.FaceLabel.TheVariants.{Verif, DriverLine}
use Rattle.flat_code.specs.Entries.{node_at}
use Rattle.flat_code.specs.Runs.{IsNode, AreNodes, entry_of, values_for, node_values, first_stop}
use Rattle.flat_code.specs.Tidy.{Reads}
use Rattle.mpp_inline.specs.declared.builder.Builder.{Builder}
use Rattle.mpp_inline.specs.inner.Growth.{count, faces, face, node_of, at, stop_of, stop_read, note_read, notes_read, so_far, observed_more, denoted}
use Rattle.mpp_inline.specs.inner.Growth.{outcome_of, run, IsVerif, IsCheckWithin, IsNoteWithin, IsUsable, MayStand, Sane, Known, Pushed, Checked, CheckedRule}
use Rattle.mpp_inline.specs.inner.Growth.{CheckedLine, NotedAt, HasFaces, Longer, Grows, Gives, TermStep}
use Rattle.m_fixed.specs.declared.operator.Op.TheVariants.{And}
use Rattle.mpp_inline.specs.Inlined.{IsDriverLine, IsTruthInput}
use Rattle.mpp_inline.specs.inner.Sizes.{load}
use Rattle.mpp_inline.proofs.ListLemmas.{all-get, all-set, all-more, all-append, map-same}
use Rattle.mpp_inline.proofs.RunLemmas.{value-kept, value-new, stop-kept, stop-push, read-or, face_fired, read-fired, read-kept, notes-kept, notes-push}
use Rattle.mpp_inline.proofs.RunLemmas.{notes-within}
use Rattle.mpp_inline.proofs.OutcomeLemmas.{append-none, or-none}
use Rattle.mpp_inline.proofs.UsableLemmas.{usable-kept, usable-on, checks-kept, notes-fenced, reads-older, reads-node, IsWithinCount, may-stand, last-or}
use Rattle.mpp_inline.proofs.UsableLemmas.{read-as-before}
use Rattle.mpp_inline.proofs.GrowthLemmas.{past-line, grows-none, grows-then, denoted-on, known-get, denoted-get, pushed-count, pushed-within, pushed-value}
use Rattle.mpp_inline.proofs.GrowthLemmas.{pushed-grows, Faced}

checked-keeps : {b c : Builder} {g k l : ℕ} {only : Bool} → Checked b c g k only l → (inputs : List Value) (j : ℕ) → at c inputs j ≡ at b inputs j
checked-keeps p inputs j = ap (λ ns. get_or (node_values inputs ns) j Undef) p.nodes

pub checked-longer : {b c : Builder} {g k l : ℕ} {only : Bool} {f : FaceLabel} → Checked b c g k only l → Faced b c l f → IsUsable b g → IsUsable b k → Sane b
    → Longer b c
checked-longer {b} {c} {g} {k} {l} {only} {f} p q hg hk s =
    let same : count c ≡ count b = ap length p.nodes in
    let older : (j : ℕ) → node_of c j ≡ node_of b j = λ j. ap (λ ns. node_at ns j) p.nodes in
    let on : (j : ℕ) → IsUsable b j → IsUsable c j = λ j h. usable-kept p.inputs (omega (arith, same)) (λ i lt. older i) h in
    let Own : Check → Type 0 = λ d. IsUsable c d.guard × IsUsable c d.condition in
    let Within : Check → Type 0 = λ d. IsCheckWithin (count c) (faces c) d in
    record {
      sane = record {
        nodes = subst (λ ks. AreNodes (length ks) 0 c.nodes.items) (sym p.inputs) (subst (AreNodes (length b.inputs) 0) (sym p.nodes) s.nodes);
        fenced = record {
          nodes = λ j x h. read-as-before b.inputs c.inputs (node_of b j) (node_of c j) (node_of b x) (node_of c x) x p.inputs (older j) (older x)
              (s.fenced.nodes j x (omega (arith, h, same)));
          checks = subst (AllByRecursion Own) (sym p.checks) (all-append Own b.checks.items _ (checks-kept on b.checks.items s.fenced.checks)
              ((on g hg, on k hk), tt));
          notes = subst (AllByRecursion (λ d. IsUsable c d.0)) (sym p.notes) (notes-fenced on b.notes.items s.fenced.notes);
        };
        checks = subst (AllByRecursion Within) (sym p.checks)
            (all-append Within b.checks.items _
            (all-more (λ d. IsCheckWithin (count b) (faces b) d) Within
            (λ d h. record { guard = omega (arith, h.guard, same); condition = omega (arith, h.condition, same); label = omega (arith, h.label, q.more) })
            b.checks.items s.checks)
            (record { guard = omega (arith, hg.there, same); condition = omega (arith, hk.there, same); label = q.within }, tt));
        notes = subst (AllByRecursion (λ d. IsNoteWithin (count c) c.labels.items d)) (sym p.notes)
            (notes-within b.labels.items c.labels.items (count b) (count c) b.notes.items (omega (arith, same)) q.more q.keeps s.notes);
        three = omega (arith, s.three, same);
        literal = λ j h. on j (s.literal j h);
        undef = λ inputs. checked-keeps p inputs 0 ∙ s.undef inputs;
        zero = λ inputs. checked-keeps p inputs 1 ∙ s.zero inputs;
        one = λ inputs. checked-keeps p inputs 2 ∙ s.one inputs;
      };
      inputs = p.inputs;
      longer = omega (arith, same);
      keeps_node = λ j h. older j;
      keeps = λ inputs j h. checked-keeps p inputs j;
      more_faces = q.more;
      keeps_face = q.keeps;
      new_faces = q.further;
    }

checked-stop : {b c : Builder} {g k l : ℕ} {only : Bool} {f : FaceLabel} → Checked b c g k only l → Faced b c l f → Sane b → (inputs : List Value)
    → stop_of c inputs ≡ option_or (stop_of b inputs) (face_fired (at b inputs g) only f (at b inputs k))
checked-stop {b} {c} {g} {k} {l} {only} {f} p q s inputs =
    let vs = node_values inputs b.nodes.items in
    let d : Check = record { guard = g; condition = k; over_only = only; label = l } in
    (λ i. stop_read c.labels.items (first_stop (node_values inputs (p.nodes i)) (p.checks i)))
    ∙ ap (stop_read c.labels.items) (stop-push vs b.checks.items d)
    ∙ read-or c.labels.items (first_stop vs b.checks.items) _
    ∙ (λ i. option_or (read-kept b.labels.items c.labels.items q.keeps vs (count b) b.checks.items s.checks i)
    ((read-fired c.labels.items (at b inputs g) only l (at b inputs k)
    ∙ ap (λ h. face_fired (at b inputs g) only h (at b inputs k)) q.is) i))

pub checked-reported : {b c : Builder} {g k l : ℕ} {only : Bool} {f : FaceLabel} → Checked b c g k only l → Faced b c l f → Sane b → (inputs : List Value)
    → so_far c inputs ≡ observed_more (so_far b inputs) (face_fired (at b inputs g) only f (at b inputs k)) []
checked-reported {b} {c} {g} {k} {l} {only} {f} p q s inputs =
    let stop = checked-stop p q s inputs in
    let notes : notes_read c.labels.items (at c inputs) c.notes.items ≡ notes_read b.labels.items (at b inputs) b.notes.items ++ [] =
    ap (notes_read c.labels.items (at c inputs)) p.notes
    ∙ notes-kept b.labels.items c.labels.items (at b inputs) (at c inputs) (count b) b.notes.items q.keeps (λ j h. checked-keeps p inputs j) s.notes
    ∙ sym (append-none _) in
    λ i. record { stop = stop i; notes = notes i }

-- one note more
noted-keeps : {b c : Builder} {k l : ℕ} → NotedAt b c k l → (inputs : List Value) (j : ℕ) → at c inputs j ≡ at b inputs j
noted-keeps p inputs j = ap (λ ns. get_or (node_values inputs ns) j Undef) p.nodes

pub noted-longer : {b c : Builder} {k l : ℕ} → NotedAt b c k l → IsUsable b k → l < faces b → IsVerif (face b l) → Sane b → Longer b c
noted-longer {b} {c} {k} {l} p hk hl v s =
    let same : count c ≡ count b = ap length p.nodes in
    let wide : faces c ≡ faces b = ap length p.labels in
    let older : (j : ℕ) → node_of c j ≡ node_of b j = λ j. ap (λ ns. node_at ns j) p.nodes in
    let on : (j : ℕ) → IsUsable b j → IsUsable c j = λ j h. usable-kept p.inputs (omega (arith, same)) (λ i lt. older i) h in
    let Own : ℕ × ℕ → Type 0 = λ d. IsUsable c d.0 in
    let Within : ℕ × ℕ → Type 0 = λ d. IsNoteWithin (count c) c.labels.items d in
    let old : (j : ℕ) → j < faces b → face c j ≡ face b j = λ j h. ap (λ ls. get_or ls j (DriverLine 0)) p.labels in
    record {
      sane = record {
        nodes = subst (λ ks. AreNodes (length ks) 0 c.nodes.items) (sym p.inputs) (subst (AreNodes (length b.inputs) 0) (sym p.nodes) s.nodes);
        fenced = record {
          nodes = λ j x h. read-as-before b.inputs c.inputs (node_of b j) (node_of c j) (node_of b x) (node_of c x) x p.inputs (older j) (older x)
              (s.fenced.nodes j x (omega (arith, h, same)));
          checks = subst (AllByRecursion (λ d. IsUsable c d.guard × IsUsable c d.condition)) (sym p.checks) (checks-kept on b.checks.items s.fenced.checks);
          notes = subst (AllByRecursion Own) (sym p.notes) (all-append Own b.notes.items _ (notes-fenced on b.notes.items s.fenced.notes) (on k hk, tt));
        };
        checks = subst (AllByRecursion (λ d. IsCheckWithin (count c) (faces c) d)) (sym p.checks)
            (all-more (λ d. IsCheckWithin (count b) (faces b) d) (λ d. IsCheckWithin (count c) (faces c) d)
            (λ d h. record { guard = omega (arith, h.guard, same); condition = omega (arith, h.condition, same); label = omega (arith, h.label, wide) })
            b.checks.items s.checks);
        notes = subst (AllByRecursion Within) (sym p.notes)
            (all-append Within b.notes.items _
            (notes-within b.labels.items c.labels.items (count b) (count c) b.notes.items (omega (arith, same)) (omega (arith, wide)) old s.notes)
            (record { node = omega (arith, hk.there, same); label = omega (arith, hl, wide); verif = subst IsVerif (sym (old l hl)) v }, tt));
        three = omega (arith, s.three, same);
        literal = λ j h. on j (s.literal j h);
        undef = λ inputs. noted-keeps p inputs 0 ∙ s.undef inputs;
        zero = λ inputs. noted-keeps p inputs 1 ∙ s.zero inputs;
        one = λ inputs. noted-keeps p inputs 2 ∙ s.one inputs;
      };
      inputs = p.inputs;
      longer = omega (arith, same);
      keeps_node = λ j h. older j;
      keeps = λ inputs j h. noted-keeps p inputs j;
      more_faces = omega (arith, wide);
      keeps_face = old;
      new_faces = λ j h. subst (λ ls. IsDriverLine (get_or ls j (DriverLine 0))) (sym p.labels) (past-line b.labels.items j h);
    }

pub noted-reported : {b c : Builder} {k l : ℕ} → NotedAt b c k l → (inputs : List Value)
    → so_far c inputs ≡ observed_more (so_far b inputs) None (cons_option (note_read (face b l) (at b inputs k)) [])
noted-reported {b} {c} {k} {l} p inputs =
    let stop : stop_of c inputs ≡ option_or (stop_of b inputs) None =
    (λ i. stop_read (p.labels i) (first_stop (node_values inputs (p.nodes i)) (p.checks i))) ∙ sym (or-none _) in
    let notes : notes_read c.labels.items (at c inputs) c.notes.items ≡ notes_read b.labels.items (at b inputs) b.notes.items
    ++ cons_option (note_read (face b l) (at b inputs k)) [] =
    (λ i. notes_read (p.labels i) (λ j. get_or (node_values inputs (p.nodes i)) j Undef) (p.notes i))
    ∙ notes-push b.labels.items (at b inputs) b.notes.items (k, l) in
    λ i. record { stop = stop i; notes = notes i }

-- nodes with a value
pub gives-pushed : {b c : Builder} {n : Node} {k : ℕ} (value : List Value → Value) → Pushed b c n k → MayStand b n → (IsTruthInput b.inputs n → ⊥) → Sane b
    → ((inputs : List Value) → entry_of (values_for inputs) (node_values inputs b.nodes.items) n ≡ value inputs) → Gives b c value k
gives-pushed value p w other s e = record { grows = pushed-grows p w s; within = pushed-within p other; value = λ inputs. pushed-value p inputs ∙ e inputs }

pub gives-lit : {b c : Builder} {k : ℕ} (v : Value) → Pushed b c (Lit v) k → Sane b → Gives b c (λ inputs. v) k
gives-lit v p s = gives-pushed (λ inputs. v) p tt (λ t. t) s (λ inputs. refl)

-- a node that exists
pub gives-old : {b : Builder} (k : ℕ) → Sane b → IsUsable b k → Gives b b (λ inputs. at b inputs k) k
gives-old k s h = record { grows = grows-none s; within = h; value = λ inputs. refl }

-- rewriting of the value
pub gives-same : {b c : Builder} {k : ℕ} {v w : List Value → Value} → ((inputs : List Value) → v inputs ≡ w inputs) → Gives b c v k → Gives b c w k
gives-same e g = record { grows = g.grows; within = g.within; value = λ inputs. g.value inputs ∙ e inputs }

-- a node that is made after others
pub gives-behind : {a b c : Builder} {k : ℕ} {v : List Value → Value} → Grows a b → Gives b c v k → Gives a c v k
gives-behind g h = record { grows = grows-then g h.grows; within = h.within; value = h.value }

pub cell-step : {b : Builder} {env : List ℕ} (x : ℕ) → Sane b → Known b env → TermStep b b env (λ e. e x) (get_or env x 0)
cell-step {b} {env} x s k = record {
  grows = grows-none s;
  within = known-get x s k;
  value = λ inputs. sym (denoted-get inputs env x s);
}

-- an entry of an environment is written
pub denoted-set : {b c : Builder} {env : List ℕ} (inputs : List Value) (x k : ℕ) (v : Value) → Longer b c → Known b env → at c inputs k ≡ v
    → denoted c inputs (set env x k) ≡ set (denoted b inputs env) x v
denoted-set {b} {c} {env} inputs x k v l kn e =
    map-set (at c inputs) env x k ∙ (λ i. set (denoted-on inputs l kn i) x (e i))

-- how much the program grows
pub pushed-load : {b c : Builder} {n : Node} {k : ℕ} → Pushed b c n k → load c ≡ load b + 1
pushed-load p = omega (arith, pushed-count p, ap length p.checks, ap length p.labels, ap length p.notes)

checked-more : {b c : Builder} {g k l : ℕ} {o : Bool} → Checked b c g k o l → length c.checks.items ≡ length b.checks.items + 1
checked-more {b} {c} {g} {k} {l} {o} p = ap length p.checks ∙ length-append b.checks.items (record { guard = g; condition = k; over_only = o; label = l } ∷ [])

pub line-load : {b c : Builder} {g k line : ℕ} → CheckedLine b c g k line → load c ≡ load b + 2
line-load {b} {c} {g} {k} {line} p = omega (
  arith,
  ap length p.base.nodes,
  checked-more p.base,
  ap length p.labels,
  ap length p.base.notes,
  length-append
      b.labels.items (DriverLine line ∷ []),
)

pub rule-load : {b c : Builder} {g k l : ℕ} {o : Bool} → CheckedRule b c g k o l → load c ≡ load b + 1
rule-load p = omega (arith, ap length p.base.nodes, checked-more p.base, ap length p.labels, ap length p.base.notes)

pub noted-load : {b c : Builder} {k l : ℕ} → NotedAt b c k l → load c ≡ load b + 1
noted-load {b} {c} {k} {l} p = omega (
  arith,
  ap length p.nodes,
  ap length p.checks,
  ap length p.labels,
  ap length p.notes,
  length-append b.notes.items
      ((k, l) ∷ []),
)
