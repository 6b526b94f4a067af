-- The loop of a settle, from one node to the next.
use Rattle.std.proofs.Common.{◌≡◌, ◌≢◌, ℕ, zero, suc, ◌+◌, ◌<◌, ◌≤◌, Bool, true, false, ◌||◌, ◌&&◌, eqb, List, [], length, get_or, set, take, replicate, refl}
use Rattle.std.proofs.Common.{sym, ◌∙◌, ap, subst, ⊎_elim, arith}
use Rattle.std.specs.Prelude.{count_by}
use Rattle.std.proofs.lemmas.Bool.{cases_eq, cases_lt, cases_Bool, or_parts, eq-eqb, ne_eqb, eqb-true, false≢true, and_right, false_from_ne_true}
use Rattle.std.proofs.lemmas.List.{get_or-set_same, get_or-set_other, get_or_past, get_or-replicate, length-set, length-replicate, take_all, ext_get_or}
use Rattle.std.proofs.lemmas.List.Sums.{count_by_more_yes, count_by_more_no}
use Rattle.dirty_set.specs.Members.{is_member}
use Rattle.m_fixed.specs.declared.amount.Value.{Value}
use Rattle.m_fixed.specs.declared.amount.Value.TheVariants.{Undef}
use Rattle.flat_code.specs.declared.program.Node.{Node}
use Rattle.flat_code.specs.declared.program.Node.TheVariants.{Input, Lit, Do}
use Rattle.flat_code.specs.Touched.{differs}
use Rattle.flat_code.specs.Runs.{IsNode, AreNodes, entry_of, values_for, node_values, value_at}
use Rattle.flat_code.specs.Touched.{some_argument, of_put, is_touched}
use Rattle.flat_code.proofs.RunLemmas.{length-node_values}
use Rattle.flat_code.proofs.FixedLemmas.{node_or, entry_below, values_fixed}
use Rattle.flat_code.proofs.TouchedLemmas.{entry_same, some_argument_below, some_argument_none, touched_set, touched_below, touched_same}
use Rattle.value_sheet.specs.inner.Readers.{node_at as at_place, has, is_of, IsInputRows}
use Rattle.value_sheet.specs.inner.Sound.{IsSettling}

-- the precondition of a settle: each node has its value by the old values of its arguments, unless
-- it is an input that was set
abbrev pub IsRight : List Node → List Value → List Bool → List Value → Type 0
IsRight nodes now put old = (k : ℕ) → k < length nodes → of_put put (at_place nodes k) ≡ false
    → value_at old k ≡ entry_of (values_for now) old (at_place nodes k)

pub node_here : (m : ℕ) (nodes : List Node) (k : ℕ) → AreNodes m 0 nodes → k < length nodes → IsNode m k (at_place nodes k)
node_here m nodes k all h =
    let place : 0 + k ≡ k = omega arith in
    subst (λ i. IsNode m i (at_place nodes k)) place (node_or m 0 nodes k (Lit Undef) all h)

-- no node reads one at or above its own place
reads_none : (m k p : ℕ) (node : Node) → IsNode m k node → k ≤ p → some_argument (λ i. eqb i p) node ≡ false
reads_none m k p node h le =
    some_argument_below m k (λ i. eqb i p) (λ i. false) node h (λ i below. ne_eqb i p (λ is. absurd (omega arith))) ∙ some_argument_none node

-- the new value of a node whose predecessors have theirs
new_value : (m : ℕ) (nodes : List Node) (now kept : List Value) (p : ℕ) → AreNodes m 0 nodes → p < length nodes
    → ((k : ℕ) → k < p → value_at kept k ≡ value_at (node_values now nodes) k)
    → entry_of (values_for now) kept (at_place nodes p) ≡ value_at (node_values now nodes) p
new_value m nodes now kept p all lt below =
    entry_below now m p kept (node_values now nodes) (at_place nodes p) (node_here m nodes p all lt) below
    ∙ sym (values_fixed now m nodes p (Lit Undef) all lt)

-- ---- a node that isn't marked

pub settling_past : (m : ℕ) (nodes : List Node) (now : List Value) (put : List Bool) (old kept : List Value) (marks : List Bool) (p begun steps : ℕ)
    → AreNodes m 0 nodes → IsRight nodes now put old → p < length nodes → is_member marks p ≡ false
    → IsSettling nodes put old (node_values now nodes) kept marks p begun steps → IsSettling nodes put old (node_values now nodes) kept marks (p + 1) begun
    steps
settling_past m nodes now put old kept marks p begun steps all right lt none h =
    let new = node_values now nodes in
    let node = at_place nodes p in
    let untouched : is_touched put old kept node ≡ false = sym (h.marked p (omega arith)) ∙ none in
    let unput : of_put put node ≡ false = (or_parts (of_put put node) (some_argument (λ k. differs (value_at old k) (value_at kept k)) node) untouched).0 in
    let stays : value_at old p ≡ value_at new p =
    right p lt unput ∙ entry_same now now put old kept node (λ n e. refl) untouched ∙ new_value m nodes now kept p all lt h.new_below in
    let uncounted : is_touched put old new node ≡ false = sym (touched_below m p put old kept new node (node_here m nodes p all lt) h.new_below) ∙ untouched in
    record {
      so_many = h.so_many;
      room = h.room;
      new_below = λ k below.
          ⊎_elim
          (λ (is : k ≡ p). subst (λ i. value_at kept i ≡ value_at new i) (sym is) (h.old_above p (omega arith) ∙ stays))
          (λ (ne : k ≢ p). let lower : k < p = omega arith in h.new_below k lower)
          (cases_eq k p);
      old_above = λ k above. h.old_above k (omega arith);
      unmarked = λ k below.
          ⊎_elim
          (λ (is : k ≡ p). ap (is_member marks) is ∙ none)
          (λ (ne : k ≢ p). let lower : k < p = omega arith in h.unmarked k lower)
          (cases_eq k p);
      marked = λ k above. h.marked k (omega arith);
      cost = h.cost ∙ ap (λ n. begun + n) (sym (count_by_more_no (is_touched put old new) nodes p (Lit Undef) lt uncounted));
    }

-- up to the next marked node
pub settling_skip : (m : ℕ) (nodes : List Node) (now : List Value) (put : List Bool) (old kept : List Value) (marks : List Bool) (d p q begun steps : ℕ)
    → AreNodes m 0 nodes → IsRight nodes now put old → p + d ≡ q → q ≤ length nodes → ((k : ℕ) → p ≤ k → k < q → is_member marks k ≡ false)
    → IsSettling nodes put old (node_values now nodes) kept marks p begun steps → IsSettling nodes put old (node_values now nodes) kept marks q begun steps
settling_skip m nodes now put old kept marks zero p q begun steps all right e le none h =
    subst (λ i. IsSettling nodes put old (node_values now nodes) kept marks i begun steps) (let z : p ≡ q = omega arith in z) h
settling_skip m nodes now put old kept marks (suc d) p q begun steps all right e le none h =
    settling_skip m nodes now put old kept marks d (p + 1) q begun steps all right (omega arith) le (λ k above below. none k (omega arith) below)
    (settling_past m nodes now put old kept marks p begun steps all right (omega arith) (none p (omega arith) (omega arith)) h)

-- ---- a node that is marked

pub settling_turn : (m : ℕ) (nodes : List Node) (now : List Value) (put : List Bool) (old kept after : List Value) (marks marks' : List Bool)
    (p begun steps : ℕ)
    → AreNodes m 0 nodes → p < length nodes → is_member marks p ≡ true
    → after ≡ set kept p (entry_of (values_for now) kept (at_place nodes p))
    → ((j : ℕ) → is_member marks' j ≡ (is_member (set marks p false) j || (differs (value_at kept p) (entry_of (values_for now) kept (at_place nodes p)) &&
    some_argument (λ i. eqb i p) (at_place nodes j))))
    → length marks' ≡ length marks
    → IsSettling nodes put old (node_values now nodes) kept marks p begun steps → IsSettling nodes put old (node_values now nodes) after marks' (p + 1) begun
    (steps + 1)
settling_turn m nodes now put old kept after marks marks' p begun steps all lt some written marked many h =
    let new = node_values now nodes in
    let node = at_place nodes p in
    let value = entry_of (values_for now) kept node in
    let room : p < length kept = omega (arith, h.so_many) in
    let places : p < length marks = omega (arith, h.room) in
    let before : value_at kept p ≡ value_at old p = h.old_above p (omega arith) in
    let here : value_at after p ≡ value = ap (λ vs. value_at vs p) written ∙ get_or-set_same kept p value Undef room in
    let elsewhere : (k : ℕ) → k ≢ p → value_at after k ≡ value_at kept k = λ k ne. ap (λ vs. value_at vs k) written
    ∙ get_or-set_other kept p k value Undef ne in
    let counted : is_touched put old new node ≡ true =
    sym (touched_below m p put old kept new node (node_here m nodes p all lt) h.new_below) ∙ sym (h.marked p (omega arith)) ∙ some in
    let unread : (j : ℕ) → j ≤ p → some_argument (λ i. eqb i p) (at_place nodes j) ≡ false = λ j le.
    reads_none m j p (at_place nodes j) (node_here m nodes j all (omega arith)) le in
    let old_mark : (j : ℕ) → j ≤ p → is_member (set marks p false) j ≡ false = λ j le.
    ⊎_elim
    (λ (is : j ≡ p). ap (is_member (set marks p false)) is ∙ get_or-set_same marks p false false places)
    (λ (ne : j ≢ p). let lower : j < p = omega arith in get_or-set_other marks p j false false ne ∙ h.unmarked j lower)
    (cases_eq j p) in
    record {
      so_many = ap length written ∙ length-set kept p value ∙ h.so_many;
      room = many ∙ h.room;
      new_below = λ k below.
          ⊎_elim
          (λ (is : k ≡ p). subst (λ i. value_at after i ≡ value_at new i) (sym is) (here ∙ new_value m nodes now kept p all lt h.new_below))
          (λ (ne : k ≢ p). let lower : k < p = omega arith in elsewhere k ne ∙ h.new_below k lower)
          (cases_eq k p);
      old_above = λ k above. let ne : k ≢ p = λ is. absurd (omega arith) in elsewhere k ne ∙ h.old_above k (omega arith);
      unmarked = λ j below.
          marked j
          ∙ ap (λ b. b || (differs (value_at kept p) value && some_argument (λ i. eqb i p) (at_place nodes j))) (old_mark j (omega arith))
          ∙ and_right (differs (value_at kept p) value) (some_argument (λ i. eqb i p) (at_place nodes j)) (unread j (omega arith));
      marked = λ j above.
          let ne : j ≢ p = λ is. absurd (omega arith) in
          marked j
          ∙ ap (λ b. b || (differs (value_at kept p) value && some_argument (λ i. eqb i p) (at_place nodes j))) (get_or-set_other marks p j false false ne
          ∙ h.marked j (omega arith))
          ∙ ap (λ v. is_touched put old kept (at_place nodes j) || (differs v value && some_argument (λ i. eqb i p) (at_place nodes j))) before
          ∙ sym (touched_set put old kept p value (at_place nodes j) room before)
          ∙ ap (λ vs. is_touched put old vs (at_place nodes j)) (sym written);
      cost =
          ap (λ n. n + 1) h.cost
          ∙ (let z : begun + count_by (is_touched put old new) (take p nodes) + 1 ≡ begun + count_by (is_touched put old new) (take (p + 1) nodes) =
          omega (arith, count_by_more_yes (is_touched put old new) nodes p (Lit Undef) lt counted) in z);
    }

-- ---- the beginning and the end

-- the nodes of inputs that were set are marked, and no others
pub settling_first : (nodes : List Node) (now : List Value) (put : List Bool) (old : List Value) (marks : List Bool) (begun : ℕ)
    → length old ≡ length nodes → length marks ≡ length nodes → ((k : ℕ) → is_member marks k ≡ of_put put (at_place nodes k))
    → IsSettling nodes put old (node_values now nodes) old marks 0 begun begun
settling_first nodes now put old marks begun so_many room marked = record {
  so_many = so_many;
  room = room;
  new_below = λ k below. absurd (omega arith);
  old_above = λ k above. refl;
  unmarked = λ k below. absurd (omega arith);
  marked = λ k above. marked k ∙ sym (touched_same put old (at_place nodes k));
  cost = let z : begun ≡ begun + 0 = omega arith in z;
}

pub settled_values : (nodes : List Node) (now : List Value) (put : List Bool) (old kept : List Value) (marks : List Bool) (begun steps : ℕ)
    → IsSettling nodes put old (node_values now nodes) kept marks (length nodes) begun steps → kept ≡ node_values now nodes
settled_values nodes now put old kept marks begun steps h =
    ext_get_or Undef kept (node_values now nodes) (h.so_many ∙ sym (length-node_values now nodes)) (λ i lt. h.new_below i (omega (arith, h.so_many)))

pub settled_marks : (nodes : List Node) (now : List Value) (put : List Bool) (old kept : List Value) (marks : List Bool) (begun steps : ℕ)
    → IsSettling nodes put old (node_values now nodes) kept marks (length nodes) begun steps → marks ≡ replicate (length nodes) false
settled_marks nodes now put old kept marks begun steps h =
    ext_get_or false marks (replicate (length nodes) false) (h.room ∙ sym (length-replicate (length nodes) false))
    (λ i lt. let below : i < length nodes = omega (arith, h.room) in h.unmarked i below ∙ sym (get_or-replicate (length nodes) i false false below))

pub settled_cost : (nodes : List Node) (now : List Value) (put : List Bool) (old kept : List Value) (marks : List Bool) (begun steps : ℕ)
    → IsSettling nodes put old (node_values now nodes) kept marks (length nodes) begun steps
    → steps ≡ begun + count_by (is_touched put old (node_values now nodes)) nodes
settled_cost nodes now put old kept marks begun steps h =
    h.cost ∙ ap (λ ns. begun + count_by (is_touched put old (node_values now nodes)) ns) (take_all (length nodes) nodes (omega arith))

-- the marks after the inputs that were set are marked
pub marked_first : (nodes : List Node) (put : List Bool) (rows : List (List ℕ)) (marks : List Bool) (inputs : ℕ) → IsInputRows rows nodes inputs
    → length put ≡ inputs
    → AreNodes inputs 0 nodes
    → ((k : ℕ) → is_member marks k ≡ true → (p : ℕ) × (p < length put) × (is_member put p ≡ true) × (has (get_or rows p []) k ≡ true))
    → ((p k : ℕ) → is_member put p ≡ true → has (get_or rows p []) k ≡ true → is_member marks k ≡ true)
    → (k : ℕ) → is_member marks k ≡ of_put put (at_place nodes k)
marked_first nodes put rows marks inputs h so_many all sound complete k =
    ⊎_elim
    (λ (yes : is_member marks k ≡ true).
    let w = sound k yes in
    let p = w.0 in
    let lt : p < inputs = omega (arith, w.1, so_many) in
    let of : is_of p (at_place nodes k) ≡ true = sym (h.row p k lt) ∙ w.3 in
    yes ∙ sym (put_of put p (at_place nodes k) w.2 of))
    (λ (no : is_member marks k ≡ false).
    no ∙ sym (false_from_ne_true (of_put put (at_place nodes k)) (λ some.
    let w = of_some put (at_place nodes k) some in
    let lt : w.0 < inputs = within w.0 w.1 in
    false≢true (sym no ∙ complete w.0 k w.1 (h.row w.0 k lt ∙ w.2)))))
    (cases_Bool (is_member marks k))
  where
    put_of : (put : List Bool) (p : ℕ) (node : Node) → is_member put p ≡ true → is_of p node ≡ true → of_put put node ≡ true
    put_of put p (Input n) given of = ap (is_member put) (eqb-true n p of) ∙ given
    put_of put p (Lit v) given of = absurd (false≢true of)
    put_of put p (Do op a b c) given of = absurd (false≢true of)

    of_some : (put : List Bool) (node : Node) → of_put put node ≡ true → (p : ℕ) × (is_member put p ≡ true) × (is_of p node ≡ true)
    of_some put (Input n) some = (n, some, eq-eqb n n refl)
    of_some put (Lit v) some = absurd (false≢true some)
    of_some put (Do op a b c) some = absurd (false≢true some)

    within : (p : ℕ) → is_member put p ≡ true → p < inputs
    within p given = ⊎_elim (λ lt. lt) (λ ge. absurd (false≢true (sym (get_or_past put p false (omega (arith, so_many))) ∙ given))) (cases_lt p inputs)

-- the old values are those for other inputs, which equal the current ones unless they were set
pub right_from : (m : ℕ) (nodes : List Node) (before now : List Value) (put : List Bool) (old : List Value) → AreNodes m 0 nodes
    → old ≡ node_values before nodes
    → ((n : ℕ) → is_member put n ≡ false → value_at before n ≡ value_at now n) → IsRight nodes now put old
right_from m nodes before now put old all is same k lt unput =
    subst (λ vs. value_at vs k ≡ entry_of (values_for now) vs (at_place nodes k)) (sym is)
    (values_fixed before m nodes k (Lit Undef) all lt
    ∙ entry_same before now put (node_values before nodes) (node_values before nodes) (at_place nodes k) same
    (touched_same put (node_values before nodes) (at_place nodes k) ∙ unput))

-- ---- nothing put

pub unput_same : (inputs : ℕ) (settled now : List Value) (put : List Bool) → length settled ≡ inputs → length now ≡ inputs
    → ((n : ℕ) → is_member put n ≡ false → value_at settled n ≡ value_at now n) → ((n : ℕ) → is_member put n ≡ false) → settled ≡ now
unput_same inputs settled now put before given same none =
    ext_get_or Undef settled now (before ∙ sym given) (λ i lt. same i (none i))
