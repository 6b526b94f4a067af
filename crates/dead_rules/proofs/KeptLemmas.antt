-- The kept nodes under their new numbers.
use Rattle.std.proofs.Common.{◌≡◌, ℕ, zero, suc, ◌+◌, ◌<◌, ◌≤◌, Bool, true, false, List, [], ◌∷◌, ◌++◌, length, take, set, map, refl, ap, sym, ◌∙◌, subst, inl}
use Rattle.std.proofs.Common.{inr, ⊎_elim, arith}
use Rattle.std.specs.Prelude.{if◌then◌else◌}
use Rattle.std.proofs.lemmas.Bool.{cases_lt, true≢false}
use Rattle.std.proofs.lemmas.List.{get_or_append_left, get_or_push, length_push, length-map, get_or-map, length-take-le, length-set, get_or-set_other}
use Rattle.std.proofs.Math.Seq.{take-suc-set}
use Rattle.m_fixed.specs.declared.amount.Value.TheVariants.{Undef}
use Rattle.flat_code.specs.declared.program.Node.{Node}
use Rattle.flat_code.specs.declared.program.Node.TheVariants.{Input, Lit, Do}
use Rattle.flat_code.specs.declared.program.Check.{Check}
use Rattle.flat_code.specs.declared.program.Flat.{Flat}
use Rattle.flat_code.specs.Runs.{values_for, IsFlat}
use Rattle.flat_code.specs.Entries.{node_at, entry_at}
use Rattle.flat_code.specs.Tidy.{Reads, IsRoot, IsReached, root, argument, IsFolded}
use Rattle.flat_code.specs.Passes.{Becomes}
use Rattle.flat_code.specs.inner.Renumber.{renamed, moved, IsPart}
use Rattle.flat_code.proofs.ReadLemmas.{are-valid}
use Rattle.flat_code.proofs.PartLemmas.{valid-new, part-at, folded-part}
use Rattle.dead_rules.specs.inner.Firsts.{IsPruned}
use Rattle.dead_rules.specs.inner.Steps.{ReadsBelow, look, with_nodes, rank, Kept, IsLive}
use Rattle.dead_rules.proofs.MoveLemmas.{becomes-moved, root-within, check-moved}
use Rattle.dead_rules.proofs.MarkLemmas.{live-reached}

-- ---- ranks

rank-kept : (kept : ℕ → Bool) (p : ℕ) → kept p ≡ true → rank kept (suc p) ≡ suc (rank kept p)
rank-kept kept p e = ap (λ b. if b then suc (rank kept p) else rank kept p) e

rank-left : (kept : ℕ → Bool) (p : ℕ) → kept p ≡ false → rank kept (suc p) ≡ rank kept p
rank-left kept p e = ap (λ b. if b then suc (rank kept p) else rank kept p) e

rank-grows : (kept : ℕ → Bool) (p : ℕ) → (rank kept p ≤ rank kept (suc p)) × (rank kept (suc p) ≤ suc (rank kept p))
rank-grows kept p = go (kept p)
  where
    go : (b : Bool) → (rank kept p ≤ (if b then suc (rank kept p) else rank kept p)) × ((if b then suc (rank kept p) else rank kept p) ≤ suc (rank kept p))
    go true = (omega arith, omega arith)
    go false = (omega arith, omega arith)

pub rank-le : (kept : ℕ → Bool) (p : ℕ) → rank kept p ≤ p
rank-le kept zero = omega arith
rank-le kept (suc p) = let g = rank-grows kept p in omega (arith, rank-le kept p, g.1)

rank-less : (kept : ℕ → Bool) (p q : ℕ) → p < q → kept p ≡ true → rank kept p < rank kept q
rank-less kept p zero lt k = absurd (omega arith)
rank-less kept p (suc q) lt k =
    let g = rank-grows kept q in
    ⊎_elim
    (λ (l : p < q). omega (arith, rank-less kept p q l k, g.0))
    (λ (g : q ≤ p). let e : p ≡ q = omega arith in subst (λ p. kept p ≡ true → rank kept p < rank kept (suc q)) (sym e) (λ k. omega (arith, rank-kept kept q k))
    k)
    (cases_lt p q)

-- ---- the loop

kept-start : (nodes : List Node) (kept : ℕ → Bool) → Kept nodes kept 0 [] []
kept-start nodes kept = record {
  size = refl;
  count = refl;
  number = λ q lt. absurd (omega arith);
  node = λ q lt. absurd (omega arith);
  from = λ k lt. absurd
      (omega arith);
}

renamed-same : (m m' : ℕ → ℕ) (p : ℕ) (node : Node) → ReadsBelow p node → ((q : ℕ) → q < p → m q ≡ m' q) → renamed m node ≡ renamed m' node
renamed-same m m' p (Input n) h same = refl
renamed-same m m' p (Lit v) h same = refl
renamed-same m m' p (Do op a b c) h same =
    let x = same a h.0 in
    let y = same b h.1 in
    let z = same c h.2 in
    cc

abbrev Numbered : (ℕ → Bool) → ℕ → List ℕ → Type 0
Numbered kept i numbers = (q : ℕ) → q < i → look numbers q ≡ rank kept q

numbered-push : (kept : ℕ → Bool) (i : ℕ) (numbers : List ℕ) (k : ℕ) → length numbers ≡ i → k ≡ rank kept i → Numbered kept i numbers
    → Numbered kept (i + 1) (numbers ++ k ∷ [])
numbered-push kept i numbers k size e h q lt =
    ⊎_elim
    (λ (l : q < i). get_or_append_left numbers (k ∷ []) 0 q (omega arith) ∙ h q l)
    (λ (g : i ≤ q). let d : q ≡ i = omega arith in get_or_push numbers k 0 q (omega arith) ∙ e ∙ ap (rank kept) (sym d))
    (cases_lt q i)

kept-skip : (nodes new : List Node) (kept : ℕ → Bool) (i : ℕ) (numbers : List ℕ) (k : ℕ) → Kept nodes kept i new numbers → k ≡ length new → kept i ≡ false
    → Kept nodes kept (i + 1) new (numbers ++ k ∷ [])
kept-skip nodes new kept i numbers k h e left =
    let size : length numbers ≡ i = h.size in
    let s : i + 1 ≡ suc i = omega arith in
    record {
      size = omega (arith, length_push numbers k);
      count = h.count ∙ sym (ap (rank kept) s ∙ rank-left kept i left);
      number = numbered-push kept i numbers k h.size (e ∙ h.count) h.number;
      node = λ q lt l. ⊎_elim (λ (m : q < i). h.node q m l) (λ (g : i ≤ q). let d : q ≡ i = omega arith in absurd (true≢false (sym l ∙ ap kept d ∙ left)))
          (cases_lt q i);
      from = λ j lt. let f = h.from j lt in (f.0, omega (arith, f.1), f.2, f.3);
    }

kept-push : (nodes new : List Node) (kept : ℕ → Bool) (i : ℕ) (numbers : List ℕ) (k : ℕ) (node : Node) → ReadsBelow i (node_at nodes i) → i < length nodes
    → Kept nodes kept i new numbers → k ≡ length new → kept i ≡ true → node ≡ renamed (look numbers) (node_at nodes i)
    → Kept nodes kept (i + 1) (new ++ node ∷ []) (numbers ++ k ∷ [])
kept-push nodes new kept i numbers k node valid within h e live is =
    let size : length numbers ≡ i = h.size in
    let count : length new ≡ rank kept i = h.count in
    let s : i + 1 ≡ suc i = omega arith in
    let here : node ≡ renamed (rank kept) (node_at nodes i) = is ∙ renamed-same (look numbers) (rank kept) i (node_at nodes i) valid h.number in
    record {
      size = omega (arith, length_push numbers k);
      count = let z = ap (rank kept) s ∙ rank-kept kept i live in omega (arith, length_push new node);
      number = numbered-push kept i numbers k h.size (e ∙ h.count) h.number;
      node = λ q lt l. ⊎_elim
          (λ (m : q < i). let r = rank-less kept q i m l in get_or_append_left new (node ∷ []) (Lit Undef) (rank kept q) (omega arith) ∙ h.node q m l)
          (λ (g : i ≤ q). let d : q ≡ i = omega arith in subst (λ q. node_at (new ++ node ∷ []) (rank kept q) ≡ renamed (rank kept) (node_at nodes q)) (sym d)
          (get_or_push new node (Lit Undef) (rank kept i) count ∙ here))
          (cases_lt q i);
      from = λ j lt. ⊎_elim
          (λ (m : j < length new). let f = h.from j m in (f.0, omega (arith, f.1), f.2, f.3))
          (λ (g : length new ≤ j). (i, omega arith, live, omega (arith, length_push new node)))
          (cases_lt j (length new));
    }

-- The first i nodes are gathered: k of them are kept, at the start of the list, renumbered.
pub record IsGathered (old nodes : List Node) (kept : ℕ → Bool) (i k : ℕ) (numbers : List ℕ) : Type 0 where
  pub size : length nodes ≡ length old
  pub few : k ≤ i
  pub rest : (q : ℕ) → i ≤ q → node_at nodes q ≡ node_at old q
  pub done : Kept old kept i (take k nodes) numbers

pub gathered-start : (old : List Node) (kept : ℕ → Bool) → IsGathered old old kept 0 0 []
gathered-start old kept = record { size = refl; few = omega arith; rest = λ q le. refl; done = kept-start old kept }

pub gathered-step : (old nodes nodes' : List Node) (kept : ℕ → Bool) (i k k' : ℕ) (numbers : List ℕ) (node : Node) (live : Bool) → ReadsBelow i (node_at old i)
    → i < length old → IsGathered old nodes kept i k numbers → kept i ≡ live → node ≡ renamed (look numbers) (node_at old i)
    → nodes' ≡ (if live then set nodes k node else nodes) → k' ≡ (if live then k + 1 else k) → IsGathered old nodes' kept (i + 1) k' (numbers ++ k ∷ [])
gathered-step old nodes nodes' kept i k k' numbers node true valid lt h here is put more =
    let size : length nodes ≡ length old = h.size in
    let le : k ≤ i = h.few in
    let within : k < length nodes = omega arith in
    let s : k + 1 ≡ suc k = omega arith in
    let count : length (take k nodes) ≡ k = length-take-le k nodes (omega arith) in
    let front : take k' nodes' ≡ take k nodes ++ node ∷ [] = ap (take k') put ∙ ap (λ n. take n (set nodes k node)) (more ∙ s)
    ∙ take-suc-set nodes k node within in
    record {
      size = ap length put ∙ length-set nodes k node ∙ size;
      few = omega arith;
      rest = λ q from. ap (λ xs. node_at xs q) put ∙ get_or-set_other nodes k q node (Lit Undef) (λ (e : q ≡ k). absurd (omega arith)) ∙ h.rest q (omega arith);
      done = subst (λ xs. Kept old kept (i + 1) xs (numbers ++ k ∷ [])) (sym front)
          (kept-push old (take k nodes) kept i numbers k node valid lt h.done (sym count) here is);
    }
gathered-step old nodes nodes' kept i k k' numbers node false valid lt h here is put more =
    let size : length nodes ≡ length old = h.size in
    let le : k ≤ i = h.few in
    let count : length (take k nodes) ≡ k = length-take-le k nodes (omega arith) in
    let front : take k' nodes' ≡ take k nodes = ap (take k') put ∙ ap (λ n. take n nodes) more in
    record {
      size = ap length put ∙ size;
      few = omega arith;
      rest = λ q from. ap (λ xs. node_at xs q) put ∙ h.rest q (omega arith);
      done = subst (λ xs. Kept old kept (i + 1) xs (numbers ++ k ∷ [])) (sym front) (kept-skip old (take k nodes) kept i numbers k h.done (sym count) here);
    }

-- ---- the result

part-of : (flat : Flat) (live : ℕ → Bool) (new : List Node) (numbers : List ℕ) → IsLive flat live → Kept flat.nodes live (length flat.nodes) new numbers
    → IsPart flat.nodes new live (rank live)
part-of flat live new numbers l h = record {
  within = λ p lt k. omega (arith, rank-less live p (length flat.nodes) lt k, h.count);
  node = λ p lt k. h.node p lt k;
  order = λ p q lt kp kq less. rank-less live p q less kp;
  from = h.from;
  closed = λ p x lt k r. l.closed p x lt k r;
}

pub becomes-kept : (flat : Flat) (live : ℕ → Bool) (new : List Node) (numbers : List ℕ) → IsFlat flat → IsLive flat live
    → Kept flat.nodes live (length flat.nodes) new numbers → Becomes flat (with_nodes flat new (look numbers))
becomes-kept flat live new numbers program l h =
    let part = part-of flat live new numbers l h in
    let valid = are-valid flat.inputs flat.nodes program.nodes in
    becomes-moved flat new (look numbers) (valid-new flat.inputs flat.nodes new live (rank live) part valid)
    (omega (arith, rank-le live (length flat.nodes), h.count))
    (λ x r. let lt = root-within flat x program r in subst (λ k. k < length new) (sym (h.number x lt)) (part.within x lt (l.roots x r)))
    (λ x r inputs plain. let lt = root-within flat x program r in ap (entry_at (values_for inputs) new) (h.number x lt)
    ∙ part-at (values_for inputs) flat.inputs flat.nodes new live (rank live) part valid x lt (l.roots x r))

reads-renamed : (m : ℕ → ℕ) (node : Node) (x : ℕ) → Reads node x → Reads (renamed m node) (m x)
reads-renamed m (Input n) x r = r
reads-renamed m (Lit v) x r = r
reads-renamed m (Do op a b c) x r = ⊎_elim (λ e. inl (ap m e)) (λ s. inr (⊎_elim (λ e. inl (ap m e)) (λ e. inr (ap m e)) s)) r

-- a root of the program is one of the result, under its new number
root-moved : (flat : Flat) (new : List Node) (m : ℕ → ℕ) (x : ℕ) → IsRoot flat x → IsRoot (with_nodes flat new m) (m x)
root-moved flat new m x r =
    let checks : length (map (moved m) flat.checks) ≡ length flat.checks = length-map flat.checks (moved m) in
    let outputs : length (map m flat.outputs) ≡ length flat.outputs = length-map flat.outputs m in
    ⊎_elim
    (λ o. let lt : o.0 < length flat.outputs = o.1 in
    inl (o.0, omega arith, ap m o.2 ∙ sym (get_or-map m flat.outputs o.0 0 0 lt)))
    (λ k. let lt : k.0 < length flat.checks = k.1 in
    let e = check-moved m flat.checks k.0 lt in
    inr (k.0, omega arith, ⊎_elim (λ g. inl (ap m g ∙ sym (ap (λ (c : Check). c.guard) e))) (λ g. inr (ap m g ∙ sym (ap (λ (c : Check). c.condition) e))) k.2))
    r

reached-moved : (flat : Flat) (live : ℕ → Bool) (new : List Node) (numbers : List ℕ) → IsFlat flat → IsLive flat live
    → Kept flat.nodes live (length flat.nodes) new numbers → {x : ℕ} → IsReached flat x → IsReached (with_nodes flat new (look numbers)) (rank live x)
reached-moved flat live new numbers program l h {x} (root r) = subst (IsReached (with_nodes flat new (look numbers)))
    (h.number x (root-within flat x program r)) (root (root-moved flat new (look numbers) x r))
reached-moved flat live new numbers program l h {x} (argument {p} before lt r) =
    let part = part-of flat live new numbers l h in
    let k = live-reached flat live l before in
    argument (reached-moved flat live new numbers program l h before) (part.within p lt k)
    (subst (λ n. Reads n (rank live x)) (sym (part.node p lt k)) (reads-renamed (rank live) (node_at flat.nodes p) x r))

pub pruned-kept : (flat : Flat) (live : ℕ → Bool) (new : List Node) (numbers : List ℕ) → IsFlat flat → IsFolded flat.nodes → IsLive flat live
    → Kept flat.nodes live (length flat.nodes) new numbers → IsPruned (with_nodes flat new (look numbers))
pruned-kept flat live new numbers program folded l h =
    let part = part-of flat live new numbers l h in
    record {
      folded = folded-part flat.inputs flat.nodes new live (rank live) part (are-valid flat.inputs flat.nodes program.nodes) folded;
      reached = λ k lt.
          let f = h.from k lt in
          subst (IsReached (with_nodes flat new (look numbers))) f.3 (reached-moved flat live new numbers program l h (l.reached f.0 f.2));
    }
