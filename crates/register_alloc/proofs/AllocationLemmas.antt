-- The allocator's invariant at the start and at the end.
use Rattle.std.proofs.Common.{◌≡◌, ℕ, zero, suc, ◌+◌, ◌<◌, ◌≤◌, Bool, true, false, List, [], ◌∷◌, length, get_or, take, replicate, eqb, ltb, Option, None, Some}
use Rattle.std.proofs.Common.{refl, ap, sym, ◌∙◌, subst, inl, ⊎_elim, arith, All}
use Rattle.std.specs.Prelude.{if◌then◌else◌}
use Rattle.std.specs.Option.{option_and_then, option_map, option_map_or, is_none}
use Rattle.std.specs.List.{sum_by, AllByRecursion}
use Rattle.std.proofs.lemmas.Bool.{cases_lt, lt-ltb, le-ltb, le-leb, or_left, or_right, or_cases, eqb-true, eq-eqb}
use Rattle.std.proofs.lemmas.List.{take_all}
use Rattle.m_fixed.specs.declared.amount.Value.TheVariants.{Undef}
use Rattle.flat_code.specs.declared.program.Node.{Node}
use Rattle.flat_code.specs.declared.program.Node.TheVariants.{Input, Lit as Number, Do as Work}
use Rattle.flat_code.specs.declared.program.Check.{Check}
use Rattle.flat_code.specs.declared.program.Flat.{Flat}
use Rattle.flat_code.specs.Runs.{IsNode, AreNodes, IsCheck, IsFlat}
use Rattle.flat_code.specs.Tidy.{IsNormal, IsTidy}
use Rattle.reg_machine.specs.declared.instr.TheConstants.{REGISTERS}
use Rattle.reg_machine.specs.declared.wrong.CodeWrong.TheVariants.{NoOutput}
use Rattle.reg_machine.specs.Flow.{Counts, Listing, State, start, all_given, spelled, with_slots, code_fault, reading, stores_of, loads_of}
use Rattle.reg_machine.proofs.BuilderLemmas.{code-fault}
use Rattle.register_alloc.specs.Width.{reads, check_reads, later, moment_from, reads_by, tests_by, reads_of}
use Rattle.register_alloc.specs.Allocation.{IsSmall, IsAllocation}
use Rattle.register_alloc.specs.inner.Tables.{look}
use Rattle.register_alloc.specs.inner.Valid.{IsInput, IsValid}
use Rattle.register_alloc.specs.inner.Sound.{Sound, Counted, given_before, nodes_read, checks_read}
use Rattle.register_alloc.proofs.LiveLemmas.{live-parts}
use Rattle.register_alloc.proofs.TableLemmas.{none≢some}
use Rattle.register_alloc.proofs.SoundLemmas.{slots-fit}

-- ---- valid programs, place by place

nodes-at : (inputs k : ℕ) (nodes : List Node) (p : ℕ) (d : Node) → p < length nodes → AreNodes inputs k nodes → IsNode inputs (k + p) (get_or nodes p d)
nodes-at inputs k [] p d lt h = absurd (omega arith)
nodes-at inputs k (node ∷ nodes) zero d lt h = subst (λ m. IsNode inputs m node) (let e : k ≡ k + 0 = omega arith in e) h.0
nodes-at inputs k (node ∷ nodes) (suc p) d lt h = subst (λ m. IsNode inputs m (get_or nodes p d)) (let e : k + 1 + p ≡ k + suc p = omega arith in e)
    (nodes-at inputs (k + 1) nodes p d (omega arith) h.1)

node-at : (inputs : ℕ) (nodes : List Node) (p : ℕ) (d : Node) → p < length nodes → AreNodes inputs 0 nodes → IsNode inputs p (get_or nodes p d)
node-at inputs nodes p d lt h = subst (λ m. IsNode inputs m (get_or nodes p d)) (let e : 0 + p ≡ p = omega arith in e) (nodes-at inputs 0 nodes p d lt h)

all-at : {X : Type 0} (P : X → Type 0) (xs : List X) (k : ℕ) (d : X) → k < length xs → AllByRecursion P xs → P (get_or xs k d)
all-at P [] k d lt h = absurd (omega arith)
all-at P (x ∷ xs) zero d lt h = h.0
all-at P (x ∷ xs) (suc k) d lt h = all-at P xs k d (omega arith) h.1

reads-below : (inputs k x : ℕ) (node : Node) → IsNode inputs k node → reads x node ≡ true → x < k
reads-below inputs k x (Input n) h e = absurd (cc)
reads-below inputs k x (Number v) h e = absurd (cc)
reads-below inputs k x (Work op a b c) h e =
    ⊎_elim
    (λ f. let is : a ≡ x = eqb-true a x f in omega (arith, h.0))
    (λ g. ⊎_elim
    (λ f. let is : b ≡ x = eqb-true b x f in omega (arith, h.1))
    (λ f. let is : c ≡ x = eqb-true c x f in omega (arith, h.2))
    (or_cases (eqb b x) (eqb c x) g))
    (or_cases (eqb a x) _ e)

tests-below : (count x : ℕ) (check : Check) → IsCheck count check → check_reads x check ≡ true → x < count
tests-below count x check h e =
    ⊎_elim
    (λ f. let is : check.guard ≡ x = eqb-true check.guard x f in omega (arith, h.0))
    (λ f. let is : check.condition ≡ x = eqb-true check.condition x f in omega (arith, h.1))
    (or_cases (eqb check.guard x) (eqb check.condition x) e)

input-of : (inputs k : ℕ) (node : Node) → IsNode inputs k node → IsInput inputs node
input-of inputs k (Input n) h = h
input-of inputs k (Number v) h = tt
input-of inputs k (Work op a b c) h = tt

get-default : {X : Type 0} (xs : List X) (k : ℕ) (c d : X) → k < length xs → get_or xs k c ≡ get_or xs k d
get-default [] k c d lt = absurd (omega arith)
get-default (x ∷ xs) zero c d lt = refl
get-default (x ∷ xs) (suc k) c d lt = get-default xs k c d (omega arith)

-- a program in the tidy form satisfies the allocator's requirements
pub valid-from : (flat : Flat) (labels : ℕ) → IsFlat flat → IsTidy flat → IsSmall flat labels → IsValid flat
valid-from flat labels valid tidy small = record {
  nodes = λ p x node lt e. reads-below flat.inputs p x (get_or flat.nodes p node) (node-at flat.inputs flat.nodes p node lt valid.nodes) e;
  inputs = λ p node lt. input-of flat.inputs p (get_or flat.nodes p node) (node-at flat.inputs flat.nodes p node lt valid.nodes);
  tidy = λ p node lt. subst IsNormal (get-default flat.nodes p (Number Undef) node lt) (tidy.folded.normal p lt);
  checks = λ j x check lt e. tests-below (length flat.nodes) x (get_or flat.checks j check)
      (all-at (IsCheck (length flat.nodes)) flat.checks j check lt valid.checks) e;
  outputs = λ j lt. all-at (λ x. x < length flat.nodes) flat.outputs j 0 lt valid.outputs;
  few_nodes = small.nodes;
  few_checks = small.checks;
  few_outputs = small.outputs;
}

-- ---- the start

look-empty : (n k : ℕ) → look (replicate n None) k ≡ None
look-empty zero k = refl
look-empty (suc n) zero = refl
look-empty (suc n) (suc k) = look-empty n k

given-none : (outputs : List ℕ) → replicate (length outputs) None ≡ given_before 0 outputs
given-none [] = refl
given-none (x ∷ outputs) =
    ap (λ (b : Bool). (if b then Some x else None) ∷ replicate (length outputs) None) (sym (le-ltb x 0 (omega arith)))
    ∙ ap (λ os. (if ltb x 0 then Some x else None) ∷ os) (given-none outputs)

-- no node is made, and the tables are empty
pub sound-start : (flat : Flat) (labels : ℕ) (counts : Counts) → IsValid flat → IsSmall flat labels
    → counts ≡ record { inputs = flat.inputs; slots = 4294967295; labels = labels; outputs = length flat.outputs }
    → Sound flat 0 0 0 (given_before 0 flat.outputs) (record { counts = counts; instrs = [] }) (look (replicate REGISTERS None)) (look []) 0
sound-start flat labels counts valid small is =
    let n = length flat.outputs in
    let empty : (k x : ℕ) → look (replicate REGISTERS None) k ≡ Some x → ⊥ = λ k x e. none≢some x (sym (look-empty REGISTERS k) ∙ e) in
    let bare : (k x : ℕ) → look [] k ≡ Some x → ⊥ = λ k x e. none≢some x e in
    let blank : (k : ℕ) → None ≡ look (replicate REGISTERS None) k = λ k. sym (look-empty REGISTERS k) in
    let inputs : counts.inputs ≡ flat.inputs = ap (λ (c : Counts). c.inputs) is in
    let labelled : counts.labels ≡ labels = ap (λ (c : Counts). c.labels) is in
    let outputs : counts.outputs ≡ n = ap (λ (c : Counts). c.outputs) is in
    record {
      order = record {
        few_nodes = valid.few_nodes;
        few_checks = valid.few_checks;
        few_outputs = valid.few_outputs;
        made_read = omega arith;
        read_within = omega
            arith;
        checked_within = omega arith;
        late = λ lt. omega arith;
      };
      tables = record {
        earlier = λ k x e. absurd (empty k x e);
        one_register = λ i j x a b. absurd (empty i x a);
        one_slot = λ i j x a b. absurd (bare i x a);
        owned = λ k x e. absurd (bare k x e);
        placed = λ x l. let p = live-parts flat 0 0 0 x l in absurd (omega arith);
      };
      spelled = record {
        state = start n;
        counted = record {
          inputs = inputs;
          slots = ap (λ (c : Counts). c.slots) is;
          outputs = outputs;
          takes = λ p node lt. subst (λ m. IsInput m (get_or flat.nodes p node)) (sym inputs) (valid.inputs p node lt);
          labels = λ j check lt. omega (arith, small.labelled j check lt);
        };
        read = λ m le. ap (λ n. Some (start n)) outputs;
        registers = λ i. λ k. blank k i;
        slots = λ k x e. absurd (bare k x e);
        within = λ k x e. absurd (bare k x e);
        used = λ k lt. absurd (omega arith);
        nodes = refl;
        checks = refl;
        outputs = given-none flat.outputs;
        stored = λ x. inl refl;
      };
      few = record { within = omega arith; direct = λ _. (refl, refl) };
    }

given-all : (n : ℕ) (outputs : List ℕ) → ((k : ℕ) → k < length outputs → get_or outputs k 0 < n) → all_given (given_before n outputs) ≡ Some outputs
given-all n [] each = refl
given-all n (x ∷ outputs) each =
    let lt : x < n = each 0 (omega arith) in
    ap (λ (b : Bool). all_given ((if b then Some x else None) ∷ given_before n outputs)) (lt-ltb x n lt)
    ∙ ap (option_map (λ xs. x ∷ xs)) (given-all n outputs (λ k l. each (suc k) (omega arith)))

-- the moments of checks on nodes are nodes
moment-below : (m n : ℕ) (checks : List Check) (j : ℕ) → m < n → ((k x : ℕ) (check : Check) → k < length checks → check_reads x (get_or checks k check) ≡ true
    → x < n) → moment_from m checks j < n
moment-below m n [] j lt each = lt
moment-below m n (check ∷ checks) zero lt each =
    let guard : check.guard < n = each 0 check.guard check (omega arith) (or_left (eqb check.guard check.guard) (eqb check.condition check.guard)
    (eq-eqb check.guard check.guard refl)) in
    let condition : check.condition < n = each 0 check.condition check (omega arith)
    (or_right (eqb check.guard check.condition) (eqb check.condition check.condition) (eq-eqb check.condition check.condition refl)) in
    omega arith
moment-below m n (check ∷ checks) (suc j) lt each =
    let guard : check.guard < n = each 0 check.guard check (omega arith) (or_left (eqb check.guard check.guard) (eqb check.condition check.guard)
    (eq-eqb check.guard check.guard refl)) in
    let condition : check.condition < n = each 0 check.condition check (omega arith)
    (or_right (eqb check.guard check.condition) (eqb check.condition check.condition) (eq-eqb check.condition check.condition refl)) in
    moment-below (later m check) n checks j (omega arith) (λ k x d l e. each (suc k) x d (omega arith) e)

-- all checks are done where all nodes are made
checks-done : (flat : Flat) (checked : ℕ) → IsValid flat → checked ≤ length flat.checks
    → (checked < length flat.checks → length flat.nodes ≤ moment_from 0 flat.checks checked) → checked ≡ length flat.checks
checks-done flat checked valid within settled =
    ⊎_elim
    (λ (lt : checked < length flat.checks).
    let d : Check = record { guard = 0; condition = 0; over_only = false; label = 0 } in
    let guard = valid.checks checked (get_or flat.checks checked d).guard d lt
    (or_left (eqb (get_or flat.checks checked d).guard (get_or flat.checks checked d).guard) _ (eq-eqb (get_or flat.checks checked d).guard _ refl)) in
    let some : 0 < length flat.nodes = omega arith in
    let below = moment-below 0 (length flat.nodes) flat.checks checked some valid.checks in
    let late = settled lt in
    absurd (omega arith))
    (λ (le : length flat.checks ≤ checked). let e : checked ≡ length flat.checks = omega arith in e)
    (cases_lt checked (length flat.checks))

-- ---- the end

-- What the code so far denotes once all nodes are made, with the slots that exist.
pub record Whole (flat : Flat) (code : Listing) : Type 0 where
  pub state : State
  pub read : reading code ≡ Some state
  pub given : all_given state.outputs ≡ Some flat.outputs
  pub spells : spelled code.counts.inputs state ≡ Some flat

whole-from : {flat : Flat} {made read checked : ℕ} {code : Listing} {r s : ℕ → Option ℕ} {n : ℕ} → IsValid flat
    → Sound flat made read checked (given_before made flat.outputs) code r s n → length flat.nodes ≤ made
    → (checked < length flat.checks → made ≤ moment_from 0 flat.checks checked) → Whole flat (with_slots code n)
whole-from {flat} {made} {read} {checked} {code} {r} {s} {n} valid h all settled =
    let t = h.spelled.state in
    let made_read : made ≤ read = h.order.made_read in
    let within : read ≤ length flat.nodes = h.order.read_within in
    let done : checked ≡ length flat.checks = checks-done flat checked valid h.order.checked_within (λ lt. omega (arith, settled lt)) in
    let nodes : t.nodes ≡ flat.nodes = h.spelled.nodes ∙ take_all made flat.nodes (omega arith) in
    let checks : t.checks ≡ flat.checks = h.spelled.checks ∙ take_all checked flat.checks (omega arith) in
    let outputs : all_given t.outputs ≡ Some flat.outputs = ap all_given h.spelled.outputs
    ∙ given-all made flat.outputs (λ k lt. omega (arith, valid.outputs k lt)) in
    let inputs : code.counts.inputs ≡ flat.inputs = h.spelled.counted.inputs in
    record {
      state = t;
      read = h.spelled.read n (omega arith);
      given = outputs;
      spells = ap (option_map (λ os. record { inputs = code.counts.inputs; nodes = t.nodes; checks = t.checks; outputs = os })) outputs
          ∙ (λ i. Some (record { inputs = inputs i; nodes = nodes i; checks = checks i; outputs = flat.outputs }));
    }

-- the code is valid once all nodes are made
pub sealed-from : {flat : Flat} {made read checked : ℕ} {code : Listing} {r s : ℕ → Option ℕ} {n : ℕ} → IsValid flat
    → Sound flat made read checked (given_before made flat.outputs) code r s n → length flat.nodes ≤ made
    → (checked < length flat.checks → made ≤ moment_from 0 flat.checks checked) → code_fault (with_slots code n) ≡ None
sealed-from {flat} {made} {read} {checked} {code} {r} {s} {n} valid h all settled =
    let w = whole-from valid h all settled in
    code-fault (with_slots code n) w.state w.read ∙ ap (λ (o : Option (List ℕ)). if is_none o then Some NoOutput else None) w.given

-- the code so far is the allocation once all nodes are made
pub allocation-from : {flat : Flat} {made read checked : ℕ} {code : Listing} {r s : ℕ → Option ℕ} {n : ℕ} (labels : ℕ) → IsValid flat
    → Sound flat made read checked (given_before made flat.outputs) code r s n → length flat.nodes ≤ made
    → (checked < length flat.checks → made ≤ moment_from 0 flat.checks checked) → code.counts.labels ≡ labels
    → ((y : ℕ) → loads_of y code ≤ nodes_read flat made y + checks_read flat checked y) → IsAllocation flat labels (with_slots code n)
allocation-from {flat} {made} {read} {checked} {code} {r} {s} {n} labels valid h all settled labelled few_loads =
    let w = whole-from valid h all settled in
    let t = h.spelled.state in
    let made_read : made ≤ read = h.order.made_read in
    let within : read ≤ length flat.nodes = h.order.read_within in
    let done : checked ≡ length flat.checks = checks-done flat checked valid h.order.checked_within (λ lt. omega (arith, settled lt)) in
    let fits = slots-fit h n h.few.within in
    record {
      flow = ap (option_and_then (spelled code.counts.inputs)) w.read ∙ w.spells;
      labelled = labelled;
      slots = h.few.within;
      used = h.spelled.used;
      direct = λ z. (h.few.direct z).1;
      stores = λ x.
          let same : stores_of x (with_slots code n) ≡ t.stored x = ap (λ (o : Option State). option_map_or (λ (s : State). s.stored x) o 0)
          (h.spelled.read n (omega arith)) in
          ⊎_elim (λ e. omega (arith, same, e)) (λ p. omega (arith, same, p.0)) (h.spelled.stored x);
      loads = λ x.
          let same : loads_of x (with_slots code n) ≡ t.loaded x = ap (λ (o : Option State). option_map_or (λ (s : State). s.loaded x) o 0)
          (h.spelled.read n (omega arith)) in
          let known : loads_of x code ≡ t.loaded x = ap (λ (o : Option State). option_map_or (λ (s : State). s.loaded x) o 0)
          (h.spelled.read code.counts.slots fits) in
          let nodes : nodes_read flat made x ≡ sum_by (reads_by x) flat.nodes = ap (sum_by (reads_by x)) (take_all made flat.nodes (omega arith)) in
          let checks : checks_read flat checked x ≡ sum_by (tests_by x) flat.checks = ap (sum_by (tests_by x)) (take_all checked flat.checks (omega arith)) in
          omega (arith, few_loads x);
    }
