-- The program under construction: what is kept, and what a node or a check adds.
use Rattle.std.proofs.Common.{◌≡◌, ℕ, zero, suc, ◌+◌, ◌<◌, ◌≤◌, Bool, true, false, nat_lt, List, [], ◌∷◌, ◌++◌, length, get_or, set, None, refl, sym, ap, ◌∙◌}
use Rattle.std.proofs.Common.{subst, ⊎_elim, arith, length-append}
use Rattle.std.specs.List.{AllByRecursion, cons_option}
use Rattle.std.proofs.Math.ListN.{get_or-map, get_or-append}
use Rattle.std.proofs.Math.Seq.{get_or-append_seam}
use Rattle.std.proofs.lemmas.List.{map-set, get_or_past}
use Rattle.std.proofs.lemmas.Bool.{ltb-true, ltb-false}
use Rattle.std.specs.Option.{option_or}
use Rattle.m_fixed.specs.declared.amount.Value.{Value}
use Rattle.m_fixed.specs.declared.amount.Value.TheVariants.{Undef}
use Rattle.m_places.specs.declared.verification.Label.{Label}
use Rattle.flat_code.specs.declared.program.Node.{Node}
use Rattle.flat_code.specs.declared.program.Node.TheVariants.{Lit, Do}
use Rattle.flat_code.specs.declared.program.Check.{Check}
use Rattle.observables.specs.declared.face.FaceLabel.{FaceLabel}
use Rattle.observables.specs.declared.face.FaceLabel.TheVariants.{Verif, DriverLine}
use Rattle.flat_code.specs.Entries.{node_at}
use Rattle.flat_code.specs.Runs.{IsNode, AreNodes, entry_of, values_for, node_values, first_stop}
use Rattle.flat_code.specs.Tidy.{Reads}
use Rattle.mpp_inline.specs.declared.builder.Builder.{Builder}
use Rattle.mpp_inline.specs.inner.Growth.{count, faces, face, node_of, at, stop_of, stop_read, note_read, notes_read, so_far, observed_more, denoted}
use Rattle.mpp_inline.specs.inner.Growth.{outcome_of, run, IsVerif, IsCheckWithin, IsNoteWithin, IsUsable, MayStand, Sane, Known, Pushed, Checked, CheckedRule}
use Rattle.mpp_inline.specs.inner.Growth.{CheckedLine, NotedAt, HasFaces, Longer, Grows, Gives, TermStep}
use Rattle.m_fixed.specs.declared.operator.Op.TheVariants.{And}
use Rattle.mpp_inline.specs.Inlined.{IsDriverLine, IsTruthInput}
use Rattle.mpp_inline.specs.inner.Sizes.{load}
use Rattle.mpp_inline.proofs.ListLemmas.{all-get, all-set, all-more, all-append, map-same}
use Rattle.mpp_inline.proofs.RunLemmas.{value-kept, value-new, stop-kept, stop-push, read-or, face_fired, read-fired, read-kept, notes-kept, notes-push}
use Rattle.mpp_inline.proofs.RunLemmas.{notes-within}
use Rattle.mpp_inline.proofs.OutcomeLemmas.{append-none, or-none}
use Rattle.mpp_inline.proofs.LabelLemmas.{pushed-labelling}
use Rattle.mpp_inline.proofs.UsableLemmas.{usable-kept, usable-on, checks-kept, notes-fenced, reads-older, reads-node, IsWithinCount, may-stand, last-or}
use Rattle.mpp_inline.proofs.UsableLemmas.{read-as-before}

-- ---- labels

-- a label that doesn't exist reads as a driver line
pub past-line : (labels : List FaceLabel) (l : ℕ) → length labels ≤ l → IsDriverLine (get_or labels l (DriverLine 0))
past-line labels l h = subst IsDriverLine (sym (get_or_past labels l (DriverLine 0) h)) tt

-- past the old labels, to which a driver line was appended, every label reads as a driver line
line-last : (labels more : List FaceLabel) (line l : ℕ) → more ≡ labels ++ DriverLine line ∷ [] → length labels ≤ l
    → IsDriverLine (get_or more l (DriverLine 0))
line-last [] more line zero e h = subst (λ ls. IsDriverLine (get_or ls 0 (DriverLine 0))) (sym e) tt
line-last [] more line (suc l) e h = subst (λ ls. IsDriverLine (get_or ls (suc l) (DriverLine 0))) (sym e) tt
line-last (f ∷ labels) more line zero e h = absurd (omega (arith, h))
line-last (f ∷ labels) more line (suc l) e h = subst (λ ls. IsDriverLine (get_or ls (suc l) (DriverLine 0))) (sym e)
    (line-last labels (labels ++ DriverLine line ∷ []) line l refl (omega (arith, h)))

-- a label past the old ones, after two extensions: the first or the second added it
new-then : (m l : ℕ) (first second : FaceLabel) → (b : Bool) → nat_lt l m ≡ b → (l < m → second ≡ first) → IsDriverLine first → (m ≤ l → IsDriverLine second)
    → IsDriverLine second
new-then m l first second true e kept old new = subst IsDriverLine (sym (kept (ltb-true l m e))) old
new-then m l first second false e kept old new = new (ltb-false l m e)

-- ---- longer programs

pub longer-none : {b : Builder} → Sane b → Longer b b
longer-none {b} s = record {
  sane = s;
  inputs = refl;
  longer = omega arith;
  keeps_node = λ k h. refl;
  keeps = λ inputs k h. refl;
  more_faces = omega arith;
  keeps_face = λ l h. refl;
  new_faces = past-line b.labels.items;
}

pub longer-then : {a b c : Builder} → Longer a b → Longer b c → Longer a c
longer-then {a} {b} {c} p q = record {
  sane = q.sane;
  inputs = q.inputs ∙ p.inputs;
  longer = omega (arith, p.longer, q.longer);
  keeps_node = λ k h. q.keeps_node k (omega (arith, p.longer, h)) ∙ p.keeps_node k h;
  keeps = λ inputs k h. q.keeps inputs k (usable-on p h) ∙ p.keeps inputs k h;
  more_faces = omega (arith, p.more_faces, q.more_faces);
  keeps_face = λ l h. q.keeps_face l (omega (arith, p.more_faces, h)) ∙ p.keeps_face l h;
  new_faces = λ l h. new-then (faces b) l (face b l) (face c l) (nat_lt l (faces b)) refl (q.keeps_face l) (p.new_faces l h) (q.new_faces l);
}

pub grows-none : {b : Builder} → Sane b → Grows b b
grows-none s = record { base = longer-none s; labelling = refl; reported = λ inputs. refl }

pub grows-then : {a b c : Builder} → Grows a b → Grows b c → Grows a c
grows-then p q = record { base = longer-then p.base q.base; labelling = q.labelling ∙ p.labelling; reported = λ inputs. q.reported inputs ∙ p.reported inputs }

pub known-on : {b c : Builder} {env : List ℕ} → Longer b c → Known b env → Known c env
known-on {b} {c} {env} l k = record { all = all-more (IsUsable b) (IsUsable c) (λ n h. usable-on l h) env k.all }

pub denoted-on : {b c : Builder} {env : List ℕ} (inputs : List Value) → Longer b c → Known b env → denoted c inputs env ≡ denoted b inputs env
denoted-on {b} {c} {env} inputs l k = map-same (IsUsable b) (at c inputs) (at b inputs) (l.keeps inputs) env k.all

pub run-on : {b c : Builder} {env : List ℕ} (inputs : List Value) → Grows b c → Known b env → run c inputs env ≡ run b inputs env
run-on inputs g k = λ i. outcome_of (g.reported inputs i) (denoted-on inputs g.base k i)

pub known-get : {b : Builder} {env : List ℕ} (x : ℕ) → Sane b → Known b env → IsUsable b (get_or env x 0)
known-get {b} {env} x s k = all-get (IsUsable b) env x 0 (s.literal 0 (omega arith)) k.all

pub known-set : {b : Builder} {env : List ℕ} (x n : ℕ) → IsUsable b n → Known b env → Known b (set env x n)
known-set {b} {env} x n h k = record { all = all-set (IsUsable b) env x n h k.all }

-- the value of a cell
pub denoted-get : {b : Builder} (inputs : List Value) (env : List ℕ) (x : ℕ) → Sane b → get_or (denoted b inputs env) x Undef ≡ at b inputs (get_or env x 0)
denoted-get {b} inputs env x s =
    ap (λ d. get_or (denoted b inputs env) x d) (sym (s.undef inputs)) ∙ get_or-map (at b inputs) env x 0

-- one node more
nodes-push : (inputs m : ℕ) (ns : List Node) (n : Node) (k : ℕ) → k ≡ m + length ns → AreNodes inputs m ns → IsNode inputs k n
    → AreNodes inputs m (ns ++ n ∷ [])
nodes-push inputs m [] n k e a h = let f : k ≡ m = omega (arith, e) in (subst (λ j. IsNode inputs j n) f h, tt)
nodes-push inputs m (d ∷ ns) n k e a h = (a.0, nodes-push inputs (m + 1) ns n k (omega (arith, e)) a.1 h)

pub pushed-count : {b c : Builder} {n : Node} {k : ℕ} → Pushed b c n k → count c ≡ count b + 1
pushed-count {b} {c} {n} p = ap length p.nodes ∙ length-append b.nodes.items (n ∷ [])

pub pushed-there : {b c : Builder} {n : Node} {k : ℕ} → Pushed b c n k → k < count c
pushed-there p = omega (arith, p.number, pushed-count p)

pushed-node : {b c : Builder} {n : Node} {k : ℕ} → Pushed b c n k → node_of c (count b) ≡ n
pushed-node {b} {c} {n} p = ap (λ ns. node_at ns (count b)) p.nodes ∙ get_or-append_seam b.nodes.items n [] (Lit Undef)

pushed-older : {b c : Builder} {n : Node} {k : ℕ} → Pushed b c n k → (j : ℕ) → j < count b → node_of c j ≡ node_of b j
pushed-older {b} {c} {n} p j h = ap (λ ns. node_at ns j) p.nodes ∙ get_or-append b.nodes.items (n ∷ []) (Lit Undef) j h

-- a new node that isn't an input of type `Truth` is usable
pub pushed-within : {b c : Builder} {n : Node} {k : ℕ} → Pushed b c n k → (IsTruthInput b.inputs n → ⊥) → IsUsable c k
pushed-within {b} {c} {n} {k} p other = record {
  there = pushed-there p;
  own = λ t. other (subst (λ m. IsTruthInput b.inputs m) (ap (node_of c) p.number ∙ pushed-node p) (subst (λ ks. IsTruthInput ks (node_of c k)) p.inputs t));
}

pub pushed-value : {b c : Builder} {n : Node} {k : ℕ} → Pushed b c n k → (inputs : List Value)
    → at c inputs k ≡ entry_of (values_for inputs) (node_values inputs b.nodes.items) n
pushed-value {b} {c} {n} {k} p inputs =
    (λ i. get_or (node_values inputs (p.nodes i)) (p.number i) Undef) ∙ value-new inputs b.nodes.items n

pushed-keeps : {b c : Builder} {n : Node} {k : ℕ} → Pushed b c n k → (inputs : List Value) (j : ℕ) → j < count b → at c inputs j ≡ at b inputs j
pushed-keeps {b} {c} {n} p inputs j h =
    ap (λ ns. get_or (node_values inputs ns) j Undef) p.nodes ∙ value-kept inputs b.nodes.items n j h

-- a new node reads usable nodes
pushed-nodes : {b c : Builder} {n : Node} {k : ℕ} → Pushed b c n k → IsWithinCount b n → Sane b → (q x : ℕ) → q < count c → Reads (node_of c q) x
    → IsTruthInput c.inputs (node_of c x) → node_of c q ≡ Do And x x x
pushed-nodes {b} {c} {n} p w s q x h = ⊎_elim
    (λ (lt : q < count b).
    λ r. read-as-before b.inputs c.inputs (node_of b q) (node_of c q) (node_of b x) (node_of c x) x p.inputs (pushed-older p q lt)
    (pushed-older p x (let low : x < 0 + q = reads-older (length b.inputs) 0 b.nodes.items q x s.nodes lt (subst (λ y. Reads y x) (pushed-older p q lt) r) in
    omega (arith, low, lt)))
    (s.fenced.nodes q x lt) r)
    (λ (e : q ≡ count b).
    let is : node_of c q ≡ n = ap (node_of c) e ∙ pushed-node p in
    λ r. read-as-before b.inputs c.inputs n (node_of c q) (node_of b x) (node_of c x) x p.inputs is
    (pushed-older p x (reads-node (length b.inputs) (count b) n x w.node (subst (λ y. Reads y x) is r)))
    (w.read x) r)
    (last-or (count b) q (omega (arith, h, pushed-count p)))

pub stood-grows : {b c : Builder} {n : Node} {k : ℕ} → Pushed b c n k → IsWithinCount b n → Sane b → Grows b c
stood-grows {b} {c} {n} p w s =
    let more : count c ≡ count b + 1 = pushed-count p in
    let on : (j : ℕ) → IsUsable b j → IsUsable c j = λ j h. usable-kept p.inputs (omega (arith, more)) (pushed-older p) h in
    let l = length b.labels.items in
    let old : (j : ℕ) → j < l → get_or c.labels.items j (DriverLine 0) ≡ get_or b.labels.items j (DriverLine 0) = λ j h. ap (λ ls. get_or ls j (DriverLine 0))
    p.labels in
    record {
      base = record {
        sane = record {
          nodes = subst (λ ks. AreNodes (length ks) 0 c.nodes.items) (sym p.inputs)
              (subst (AreNodes (length b.inputs) 0) (sym p.nodes) (nodes-push (length b.inputs) 0 b.nodes.items n (count b) (omega arith) s.nodes w.node));
          fenced = record {
            nodes = pushed-nodes p w s;
            checks = subst (AllByRecursion (λ d. IsUsable c d.guard × IsUsable c d.condition)) (sym p.checks) (checks-kept on b.checks.items s.fenced.checks);
            notes = subst (AllByRecursion (λ d. IsUsable c d.0)) (sym p.notes) (notes-fenced on b.notes.items s.fenced.notes);
          };
          checks = subst (λ cs. AllByRecursion (λ d. IsCheckWithin (count c) (length c.labels.items) d) cs) (sym p.checks)
              (all-more (λ d. IsCheckWithin (count b) l d) (λ d. IsCheckWithin (count c) (length c.labels.items) d)
              (λ d h. record {
                guard = omega (arith, h.guard, more);
                condition = omega (arith, h.condition, more);
                label = omega
                    (arith, h.label, ap length p.labels);
              })
              b.checks.items s.checks);
          notes = subst (AllByRecursion (λ d. IsNoteWithin (count c) c.labels.items d)) (sym p.notes)
              (notes-within b.labels.items c.labels.items (count b) (count c) b.notes.items (omega (arith, more)) (omega (arith, ap length p.labels)) old
              s.notes);
          three = omega (arith, s.three, more);
          literal = λ k h. on k (s.literal k h);
          undef = λ inputs. pushed-keeps p inputs 0 (omega (arith, s.three)) ∙ s.undef inputs;
          zero = λ inputs. pushed-keeps p inputs 1 (omega (arith, s.three)) ∙ s.zero inputs;
          one = λ inputs. pushed-keeps p inputs 2 (omega (arith, s.three)) ∙ s.one inputs;
        };
        inputs = p.inputs;
        longer = omega (arith, more);
        keeps_node = pushed-older p;
        keeps = λ inputs j h. pushed-keeps p inputs j h.there;
        more_faces = omega (arith, ap length p.labels);
        keeps_face = old;
        new_faces = λ j h. subst (λ ls. IsDriverLine (get_or ls j (DriverLine 0))) (sym p.labels) (past-line b.labels.items j h);
      };
      labelling = pushed-labelling p;
      reported = λ inputs.
          let stop : stop_of c inputs ≡ stop_of b inputs =
          (λ i. stop_read (p.labels i) (first_stop (node_values inputs c.nodes.items) (p.checks i)))
          ∙ ap (stop_read b.labels.items) (stop-kept (node_values inputs b.nodes.items) (node_values inputs c.nodes.items) (count b) l b.checks.items
          (pushed-keeps p inputs) s.checks) in
          let notes : notes_read c.labels.items (at c inputs) c.notes.items ≡ notes_read b.labels.items (at b inputs) b.notes.items =
          ap (notes_read c.labels.items (at c inputs)) p.notes
          ∙ notes-kept b.labels.items c.labels.items (at b inputs) (at c inputs) (count b) b.notes.items old (pushed-keeps p inputs) s.notes in
          λ i. record { stop = stop i; notes = notes i };
    }

pub pushed-grows : {b c : Builder} {n : Node} {k : ℕ} → Pushed b c n k → MayStand b n → Sane b → Grows b c
pushed-grows {b} {c} {n} p w s = stood-grows p (may-stand n w) s

-- one check more
pub faces-on : {labels : List Label} {b c : Builder} → Longer b c → HasFaces labels b → HasFaces labels c
faces-on {labels} {b} {c} l f = record {
  within = omega (arith, f.within, l.more_faces);
  same = λ i d h. l.keeps_face i (omega (arith, f.within, h)) ∙ f.same i d h;
  others = λ k h. new-then (faces b) k (face b k) (face c k) (nat_lt k (faces b)) refl (l.keeps_face k) (f.others k h) (l.new_faces k);
}

-- the label of a check; old labels are unchanged, and new ones are driver lines
pub record Faced (b c : Builder) (l : ℕ) (f : FaceLabel) : Type 0 where
  pub more : faces b ≤ faces c
  pub keeps : (j : ℕ) → j < faces b → face c j ≡ face b j
  pub further : (j : ℕ) → faces b ≤ j → IsDriverLine (face c j)
  pub within : l < faces c
  pub is : face c l ≡ f

pub faced-line : {b c : Builder} {g k line : ℕ} → CheckedLine b c g k line → Faced b c (faces b) (DriverLine line)
faced-line {b} {c} {g} {k} {line} p =
    let more : faces c ≡ faces b + 1 = ap length p.labels ∙ length-append b.labels.items (DriverLine line ∷ []) in
    record {
      more = omega (arith, more);
      keeps = λ j h. ap (λ ls. get_or ls j (DriverLine 0)) p.labels ∙ get_or-append b.labels.items (DriverLine line ∷ []) (DriverLine 0) j h;
      further = λ j h. line-last b.labels.items c.labels.items line j p.labels h;
      within = omega (arith, more);
      is = ap (λ ls. get_or ls (faces b) (DriverLine 0)) p.labels ∙ get_or-append_seam b.labels.items (DriverLine line) [] (DriverLine 0);
    }

pub faced-rule : {labels : List Label} {b c : Builder} {g k : ℕ} {only : Bool} (i : ℕ) (d : Label) → HasFaces labels b → i < length labels
    → CheckedRule b c g k only i → Faced b c i (Verif (get_or labels i d))
faced-rule {labels} {b} {c} i d h lt p = record {
  more = omega (arith, ap length p.labels);
  keeps = λ j k. ap (λ ls. get_or ls j (DriverLine 0)) p.labels;
  further = λ j k. subst (λ ls. IsDriverLine (get_or ls j (DriverLine 0))) (sym p.labels) (past-line b.labels.items j k);
  within = omega (arith, ap length p.labels, h.within, lt);
  is = ap (λ ls. get_or ls i (DriverLine 0)) p.labels ∙ h.same i d lt;
}
