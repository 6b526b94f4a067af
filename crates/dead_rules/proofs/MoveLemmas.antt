-- Renumbered programs, and the loop that pushes nodes.
use Rattle.std.proofs.Common.{◌≡◌, ℕ, suc, false, ◌+◌, ◌<◌, ◌≤◌, List, [], ◌∷◌, ◌++◌, length, get_or, map, refl, ap, sym, ◌∙◌, subst, inl, inr, ⊎_elim, arith}
use Rattle.std.specs.Prelude.{if◌then◌else◌, Result, Ok, Err, IfOk, None}
use Rattle.std.specs.List.{AllByRecursion}
use Rattle.std.specs.Option.{option_or, option_map_or}
use Rattle.std.proofs.lemmas.Bool.{cases_lt}
use Rattle.std.proofs.lemmas.List.{get_or_append_left, get_or_push, length_push, length-map, get_or-map}
use Rattle.std.proofs.lemmas.Option.{slice_get-get_or}
use Rattle.m_fixed.specs.declared.amount.Value.{Value}
use Rattle.observables.specs.declared.answer.Answer.TheVariants.{Values, Stopped}
use Rattle.flat_code.specs.declared.program.Node.{Node}
use Rattle.flat_code.specs.declared.program.Node.TheVariants.{Input, Lit, Do}
use Rattle.flat_code.specs.declared.program.Check.{Check}
use Rattle.flat_code.specs.declared.program.Flat.{Flat}
use Rattle.flat_code.specs.Runs.{values_for, node_values, value_at, is_one, stop_of, check_stop, first_stop, flat_run, IsNode, IsCheck, IsFlat}
use Rattle.flat_code.specs.Entries.{node_at, entry_at}
use Rattle.flat_code.specs.Facts.{ArePlain}
use Rattle.flat_code.specs.Tidy.{IsRoot, check_at}
use Rattle.flat_code.specs.Passes.{HaveLabelsOf, Becomes}
use Rattle.flat_code.specs.inner.Renumber.{AreValid, renamed, moved}
use Rattle.flat_code.proofs.RunLemmas.{one_of_all}
use Rattle.flat_code.proofs.ReadLemmas.{entry-at, entry-by, at-push, are-nodes}
use Rattle.flat_code.proofs.PartLemmas.{reads-node, entry-renamed}
use Rattle.fold_terms.specs.Drafts.{Draft, Grows, Denotes}
use Rattle.dead_rules.specs.inner.Steps.{look, with_nodes, IsCarried}

pub ok-then : {X E : Type 0} (r : Result X E) (P Q : X → Type 0) → ((x : X) → P x → Q x) → IfOk r P → IfOk r Q
ok-then (Ok x) P Q f p = f x p
ok-then (Err e) P Q f p = tt

-- a program of these parts
abbrev pub flat-of : ℕ → List Node → List Check → List ℕ → Flat
flat-of inputs nodes checks outputs = record { inputs = inputs; nodes = nodes; checks = checks; outputs = outputs }

-- ---- the run

stop-moved : (vs vs' : List Value) (m : ℕ → ℕ) (check : Check) → value_at vs' (m check.guard) ≡ value_at vs check.guard
    → value_at vs' (m check.condition) ≡ value_at vs check.condition → check_stop vs' (moved m check) ≡ check_stop vs check
stop-moved vs vs' m check g c =
    ap (λ v. if is_one v then stop_of check.over_only check.label (value_at vs' (m check.condition)) else None) g
    ∙ ap (λ v. if is_one (value_at vs check.guard) then stop_of check.over_only check.label v else None) c

first-moved : (vs vs' : List Value) (m : ℕ → ℕ) (checks : List Check)
    → ((j : ℕ) → j < length checks → (value_at vs' (m (check_at checks j).guard) ≡ value_at vs (check_at checks j).guard)
    × (value_at vs' (m (check_at checks j).condition) ≡ value_at vs (check_at checks j).condition))
    → first_stop vs' (map (moved m) checks) ≡ first_stop vs checks
first-moved vs vs' m [] h = refl
first-moved vs vs' m (check ∷ checks) h =
    let here = h 0 (omega arith) in
    ap (λ s. option_or s (first_stop vs' (map (moved m) checks))) (stop-moved vs vs' m check here.0 here.1)
    ∙ ap (option_or (check_stop vs check)) (first-moved vs vs' m checks (λ j lt. h (suc j) (omega arith)))

outputs-moved : (vs vs' : List Value) (m : ℕ → ℕ) (outputs : List ℕ)
    → ((j : ℕ) → j < length outputs → value_at vs' (m (get_or outputs j 0)) ≡ value_at vs (get_or outputs j 0))
    → map (value_at vs') (map m outputs) ≡ map (value_at vs) outputs
outputs-moved vs vs' m [] h = refl
outputs-moved vs vs' m (x ∷ outputs) h =
    ap (λ v. v ∷ map (value_at vs') (map m outputs)) (h 0 (omega arith))
    ∙ ap (λ ys. value_at vs x ∷ ys) (outputs-moved vs vs' m outputs (λ j lt. h (suc j) (omega arith)))

-- two programs have the same answer if the nodes that their checks and outputs read have the same
-- values
pub run-moved : (flat : Flat) (nodes : List Node) (m : ℕ → ℕ) (inputs : List Value)
    → ((x : ℕ) → IsRoot flat x → entry_at (values_for inputs) nodes (m x) ≡ entry_at (values_for inputs) flat.nodes x)
    → flat_run (with_nodes flat nodes m) inputs ≡ flat_run flat inputs
run-moved flat nodes m inputs same =
    let vs = node_values inputs flat.nodes in
    let vs' = node_values inputs nodes in
    ap (λ found. option_map_or Stopped found (Values (map (value_at vs') (map m flat.outputs))))
    (first-moved vs vs' m flat.checks (λ j lt. (
      same (check_at flat.checks j).guard (inr (j, lt, inl refl)),
      same (check_at flat.checks j).condition
          (inr (j, lt, inr refl)),
    )))
    ∙ ap (λ given. option_map_or Stopped (first_stop vs flat.checks) (Values given))
    (outputs-moved vs vs' m flat.outputs (λ j lt. same (get_or flat.outputs j 0) (inl (j, lt, refl))))

-- ---- what checks and outputs read

pub all-from : {X : Type 0} (P : X → Type 0) (d : X) (xs : List X) → ((j : ℕ) → j < length xs → P (get_or xs j d)) → AllByRecursion P xs
all-from P d [] h = tt
all-from P d (x ∷ xs) h = (h 0 (omega arith), all-from P d xs (λ j lt. h (suc j) (omega arith)))

all-moved : {X Y : Type 0} (P : X → Type 0) (Q : Y → Type 0) (f : X → Y) (xs : List X) → ((x : X) → P x → Q (f x)) → AllByRecursion P xs
    → AllByRecursion Q (map f xs)
all-moved P Q f [] h all = tt
all-moved P Q f (x ∷ xs) h all = (h x all.0, all-moved P Q f xs h all.1)

pub checks-moved : (m : ℕ → ℕ) (k n : ℕ) (checks : List Check) → ((q : ℕ) → q < k → m q < n) → AllByRecursion (IsCheck k) checks
    → AllByRecursion (IsCheck n) (map (moved m) checks)
checks-moved m k n checks h all = all-moved (IsCheck k) (IsCheck n) (moved m) checks (λ check p. (h check.guard p.0, h check.condition p.1)) all

pub outputs-within : (m : ℕ → ℕ) (k n : ℕ) (outputs : List ℕ) → ((q : ℕ) → q < k → m q < n) → AllByRecursion (λ output. output < k) outputs
    → AllByRecursion (λ output. output < n) (map m outputs)
outputs-within m k n outputs h all = all-moved (λ output. output < k) (λ output. output < n) m outputs h all

-- checks and outputs of a program read nodes that exist
pub root-within : (flat : Flat) (x : ℕ) → IsFlat flat → IsRoot flat x → x < length flat.nodes
root-within flat x h r = ⊎_elim
    (λ o. subst (λ x. x < length flat.nodes) (sym o.2) (one_of_all (λ output. output < length flat.nodes) flat.outputs o.0 (get_or flat.outputs o.0 0) h.outputs
    (slice_get-get_or flat.outputs o.0 0 o.1)))
    (λ k. let c = one_of_all (IsCheck (length flat.nodes)) flat.checks k.0 (check_at flat.checks k.0) h.checks (slice_get-get_or flat.checks k.0 _ k.1) in
    ⊎_elim (λ e. subst (λ x. x < length flat.nodes) (sym e) c.0) (λ e. subst (λ x. x < length flat.nodes) (sym e) c.1) k.2)
    r

pub check-moved : (m : ℕ → ℕ) (checks : List Check) (j : ℕ) → j < length checks → check_at (map (moved m) checks) j ≡ moved m (check_at checks j)
check-moved m checks j lt = get_or-map (moved m) checks j (record { guard = 0; condition = 0; over_only = false; label = 0 })
    (record { guard = 0; condition = 0; over_only = false; label = 0 }) lt

labels-moved : (m : ℕ → ℕ) (checks : List Check) → HaveLabelsOf checks (map (moved m) checks)
labels-moved m checks j lt =
    let same : length (map (moved m) checks) ≡ length checks = length-map checks (moved m) in
    let l : j < length checks = omega arith in
    (j, l, ap (λ (check : Check). check.label) (check-moved m checks j l))

-- A renumbered program is valid, and has the same answer.
pub becomes-moved : (flat : Flat) (nodes : List Node) (m : ℕ → ℕ) → AreValid flat.inputs nodes → length nodes ≤ length flat.nodes
    → ((x : ℕ) → IsRoot flat x → m x < length nodes)
    → ((x : ℕ) → IsRoot flat x → (inputs : List Value) → ArePlain inputs → entry_at (values_for inputs) nodes (m x) ≡ entry_at (values_for inputs) flat.nodes x)
    → Becomes flat (with_nodes flat nodes m)
becomes-moved flat nodes m valid few within same =
    let checks : length (map (moved m) flat.checks) ≡ length flat.checks = length-map flat.checks (moved m) in
    record {
      valid = record {
        nodes = are-nodes flat.inputs nodes valid;
        checks = all-from (IsCheck (length nodes)) (record { guard = 0; condition = 0; over_only = false; label = 0 }) (map (moved m) flat.checks) (λ j lt.
            let l : j < length flat.checks = omega arith in
            subst (IsCheck (length nodes)) (sym (check-moved m flat.checks j l))
            (within (check_at flat.checks j).guard (inr (j, l, inl refl)), within (check_at flat.checks j).condition (inr (j, l, inr refl))));
        outputs = all-from (λ output. output < length nodes) 0 (map m flat.outputs) (λ j lt.
            let size : length (map m flat.outputs) ≡ length flat.outputs = length-map flat.outputs m in
            let l : j < length flat.outputs = omega arith in
            subst (λ output. output < length nodes) (sym (get_or-map m flat.outputs j 0 0 l)) (within (get_or flat.outputs j 0) (inl (j, l, refl))));
      };
      inputs = refl;
      outputs = length-map flat.outputs m;
      nodes = few;
      checks = omega arith;
      labels = labels-moved m flat.checks;
      answer = λ inputs plain. run-moved flat nodes m inputs (λ x r. same x r inputs plain);
    }

-- ---- pushing all nodes

pub carried-start : (nodes built : List Node) (numbers : List ℕ) → built ≡ [] → numbers ≡ [] → IsCarried nodes 0 built numbers
carried-start nodes built numbers e d = record {
  size = ap length d;
  few = let z : length built ≡ 0 = ap length e in omega arith;
  within = λ q lt. absurd (omega arith);
  value = λ q lt. absurd (omega arith);
}

-- an early node under the numbers so far
pub renamed-node : (m : ℕ → ℕ) (inputs i n : ℕ) (node : Node) → IsNode inputs i node → ((q : ℕ) → q < i → m q < n) → IsNode inputs n (renamed m node)
renamed-node m inputs i n (Input k) h within = h
renamed-node m inputs i n (Lit v) h within = tt
renamed-node m inputs i n (Do op a b c) h within = (within a h.0, within b h.1, within c h.2)

look-push : (numbers : List ℕ) (k q : ℕ) → q < length numbers → look (numbers ++ k ∷ []) q ≡ look numbers q
look-push numbers k q lt = get_or_append_left numbers (k ∷ []) 0 q lt

grown : (xs ys : Draft) → Grows xs ys → (length xs.nodes ≤ length ys.nodes) × (length ys.nodes ≤ length xs.nodes + 1)
grown xs ys g = ⊎_elim (λ e. let z : length ys.nodes ≡ length xs.nodes = ap (λ (d : Draft). length d.nodes) e in (omega arith, omega arith))
    (λ n. let z : length ys.nodes ≡ length xs.nodes + 1 = ap (λ (d : Draft). length d.nodes) n.1 ∙ length_push xs.nodes n.0 in (omega arith, omega arith)) g

draft-grows : (inputs : List Value) (xs ys : Draft) → Grows xs ys → (p : ℕ) → p < length xs.nodes
    → entry_at (values_for inputs) ys.nodes p ≡ entry_at (values_for inputs) xs.nodes p
draft-grows inputs xs ys g p lt = ⊎_elim (λ e. ap (λ (d : Draft). entry_at (values_for inputs) d.nodes p) e)
    (λ n. ap (λ (d : Draft). entry_at (values_for inputs) d.nodes p) n.1 ∙ at-push (values_for inputs) xs.nodes n.0 p lt) g

pub carried-step : (count : ℕ) (nodes : List Node) (i : ℕ) (old new : Draft) (numbers : List ℕ) (k : ℕ) → AreValid count nodes → i < length nodes
    → IsCarried nodes i old.nodes numbers → Grows old new → Denotes new.nodes (renamed (look numbers) (node_at nodes i)) k
    → IsCarried nodes (i + 1) new.nodes (numbers ++ k ∷ [])
carried-step count nodes i old new numbers k valid lt h grows stands =
    let size : length numbers ≡ i = h.size in
    let few : length old.nodes ≤ i = h.few in
    let more = grown old new grows in
    record {
      size = omega (arith, length_push numbers k);
      few = omega (arith, more);
      within = λ q l. ⊎_elim
          (λ (e : q < i). let w = h.within q e in let z = look-push numbers k q (omega arith) in omega (arith, more))
          (λ (g : i ≤ q). let e : length numbers ≡ q = omega arith in let z = get_or_push numbers k 0 q e in let w = stands.within in omega arith)
          (cases_lt q i);
      value = λ q l inputs plain. ⊎_elim
          (λ (e : q < i). earlier q e inputs plain)
          (λ (g : i ≤ q). let e : q ≡ i = omega arith in subst (λ q. entry_at (values_for inputs) new.nodes (look (numbers ++ k ∷ []) q) ≡ entry_at
          (values_for inputs) nodes q) (sym e) (last inputs plain))
          (cases_lt q i);
    }
  where
    before : (q : ℕ) → q < i → (inputs : List Value) → ArePlain inputs → entry_at (values_for inputs) new.nodes (look numbers q) ≡ entry_at (values_for inputs)
        nodes q
    before q e inputs plain = draft-grows inputs old new grows (look numbers q) (h.within q e) ∙ h.value q e inputs plain

    earlier : (q : ℕ) → q < i → (inputs : List Value) → ArePlain inputs → entry_at (values_for inputs) new.nodes (look (numbers ++ k ∷ []) q) ≡ entry_at
        (values_for inputs) nodes q
    earlier q e inputs plain = ap (entry_at (values_for inputs) new.nodes) (look-push numbers k q (omega (arith, h.size))) ∙ before q e inputs plain

    last : (inputs : List Value) → ArePlain inputs → entry_at (values_for inputs) new.nodes (look (numbers ++ k ∷ []) i) ≡ entry_at (values_for inputs) nodes i
    last inputs plain =
        ap (entry_at (values_for inputs) new.nodes) (get_or_push numbers k 0 i h.size)
        ∙ stands.value inputs plain
        ∙ entry-by (values_for inputs) (node_values inputs new.nodes) (renamed (look numbers) (node_at nodes i))
        ∙ entry-renamed (values_for inputs) (look numbers) (entry_at (values_for inputs) new.nodes) (entry_at (values_for inputs) nodes) (node_at nodes i)
        (λ x r. before x (reads-node count i x (node_at nodes i) (valid i lt) r) inputs plain)
        ∙ sym (entry-at (values_for inputs) count nodes i valid lt)

-- a push doesn't change the number of inputs
pub grows-inputs : (old new : Draft) → Grows old new → new.inputs ≡ old.inputs
grows-inputs old new g = ⊎_elim (λ e. ap (λ (d : Draft). d.inputs) e) (λ n. ap (λ (d : Draft). d.inputs) n.1) g

pub same-flat : (i i' : ℕ) (nodes nodes' : List Node) (checks checks' : List Check) (outputs outputs' : List ℕ) → i ≡ i' → nodes ≡ nodes' → checks ≡ checks'
    → outputs ≡ outputs' → flat-of i nodes checks outputs ≡ flat-of i' nodes' checks' outputs'
same-flat i i' nodes nodes' checks checks' outputs outputs' p q r s = cc
