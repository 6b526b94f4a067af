-- If two lists of inputs agree on those on which a node may depend, the node has the same value for
-- both.
use Rattle.std.proofs.Common.{◌≡◌, ℕ, ◌<◌, ◌≤◌, Bool, true, false, List, length, Option, None, Some, refl, ap, sym, ◌∙◌, subst, inl, inr, ⊎_elim, arith}
use Rattle.std.specs.Prelude.{ℤ, nat_lt, is_none, if◌then◌else◌}
use Rattle.std.proofs.lemmas.Bool.{cases_lt, lt-ltb}
use Rattle.m_fixed.specs.declared.amount.Value.{Value}
use Rattle.m_fixed.specs.declared.amount.Value.TheVariants.{Undef, Num, Over}
use Rattle.m_fixed.specs.declared.operator.Op.{Op}
use Rattle.m_fixed.specs.declared.operator.Op.TheVariants.{Choose}
use Rattle.m_fixed.specs.Operators.{arity_of, is_zero, op_value, chosen}
use Rattle.m_fixed.proofs.Values.{second_is_ignored, third_is_ignored}
use Rattle.definedness.specs.Facts.{Possible, Holds, one_value}
use Rattle.definedness.specs.Ranges.{InSome, may_be_zero, may_be_other}
use Rattle.definedness.proofs.ExactFacts.{one_value_is}
use Rattle.definedness.proofs.Holding.{zero_in, other_in}
use Rattle.flat_code.specs.declared.program.Node.{Node}
use Rattle.flat_code.specs.declared.program.Node.TheVariants.{Input, Lit, Do}
use Rattle.flat_code.specs.Runs.{IsNode, AreNodes, values_for, entry_of, node_values, value_at}
use Rattle.flat_code.specs.Entries.{node_at}
use Rattle.flat_code.proofs.ReadLemmas.{strong, are-valid}
use Rattle.flat_code.proofs.RunLemmas.{length-node_values}
use Rattle.flat_code.proofs.FixedLemmas.{values_fixed}
use Rattle.input_reads.specs.Reads.{fact_at, is_open, looks_at_second, looks_at_third}
use Rattle.input_reads.specs.Steps.{LooksAt, Depends, AreHeld}
use Rattle.input_reads.specs.Steps.Depends.{input, argument}
use Rattle.input_reads.proofs.DependLemmas.{looks-below}

-- ---- a choice

zero-known : (r : Option (ℤ × ℤ)) (x : ℤ) → InSome r x → is_zero x ≡ true → may_be_zero r ≡ true
zero-known None x h e = absurd h
zero-known (Some r) x h e = zero_in r x h e

other-known : (r : Option (ℤ × ℤ)) (x : ℤ) → InSome r x → is_zero x ≡ false → may_be_other r ≡ true
other-known None x h e = absurd h
other-known (Some r) x h e = other_in r x h e

choice-same : (f : Possible) (v a b c d : Value) → Holds f v → (may_be_other f.range ≡ true → a ≡ c) → (may_be_zero f.range ≡ true → b ≡ d)
    → chosen v a b ≡ chosen v c d
choice-same f Undef a b c d h first second = refl
choice-same f Over a b c d h first second = refl
choice-same f (Num x) a b c d h first second = go (is_zero x) refl
  where
    go : (z : Bool) → is_zero x ≡ z → (if z then b else a) ≡ (if z then d else c)
    go true e = second (zero-known f.range x h e)
    go false e = first (other-known f.range x h e)

-- ---- an operator

some-arity : (op : Op) → 1 ≤ arity_of op
some-arity Choose = omega arith
some-arity _ = omega arith

-- an operator other than a choice
plain-same : (op : Op) (a b c x y z : Value) → arity_of op ≤ 2 → a ≡ x → (nat_lt 1 (arity_of op) ≡ true → b ≡ y) → op_value op a b c ≡ op_value op x y z
plain-same op a b c x y z few first second =
    ap (λ v. op_value op v b c) first
    ∙ ⊎_elim
    (λ (lt : 1 < arity_of op). ap (λ v. op_value op x v c) (second (lt-ltb 1 (arity_of op) lt)) ∙ third_is_ignored op x y c z few)
    (λ (ge : arity_of op ≤ 1). let one : arity_of op ≡ 1 = omega (arith, some-arity op, ge) in second_is_ignored op x b c y z one)
    (cases_lt 1 (arity_of op))

op-same : (op : Op) (f : Possible) (a b c x y z : Value) → Holds f a → a ≡ x → (looks_at_second op f ≡ true → b ≡ y) → (looks_at_third op f ≡ true → c ≡ z)
    → op_value op a b c ≡ op_value op x y z
unfolding op_value
op-same Choose f a b c x y z h first second third = choice-same f a b c y z h second third ∙ ap (λ v. chosen v y z) first
op-same op f a b c x y z h first second third = plain-same op a b c x y z (omega arith) first second

-- ---- all nodes

pub agree : (known : List Possible) (nodes : List Node) (inputs p : ℕ) (before now : List Value) → AreNodes inputs 0 nodes
    → AreHeld known (node_values before nodes) → AreHeld known (node_values now nodes) → p < length nodes
    → ((n : ℕ) → Depends known nodes n p → value_at before n ≡ value_at now n)
    → value_at (node_values before nodes) p ≡ value_at (node_values now nodes) p
agree known nodes inputs p before now valid held kept =
    strong (λ p. p < length nodes → ((n : ℕ) → Depends known nodes n p → value_at before n ≡ value_at now n)
    → value_at (node_values before nodes) p ≡ value_at (node_values now nodes) p) each p
  where
    holds : (p : ℕ) → p < length nodes → Holds (fact_at known p) (value_at (node_values before nodes) p)
    holds p lt = held p (omega (arith, length-node_values before nodes))

    holds-now : (p : ℕ) → p < length nodes → Holds (fact_at known p) (value_at (node_values now nodes) p)
    holds-now p lt = kept p (omega (arith, length-node_values now nodes))

    same-entry : (p : ℕ) → p < length nodes → is_open (fact_at known p) ≡ true
        → ((q : ℕ) → q < p → q < length nodes → ((n : ℕ) → Depends known nodes n q → value_at before n ≡ value_at now n)
        → value_at (node_values before nodes) q ≡ value_at (node_values now nodes) q)
        → ((n : ℕ) → Depends known nodes n p → value_at before n ≡ value_at now n) → (node : Node) → node_at nodes p ≡ node → IsNode inputs p node
        → entry_of (values_for before) (node_values before nodes) node ≡ entry_of (values_for now) (node_values now nodes) node
    same-entry p lt some all agreed (Input n) is h = agreed n (input (some, is))
    same-entry p lt some all agreed (Lit v) is h = refl
    same-entry p lt some all agreed (Do op a b c) is h =
        let low : (x : ℕ) → LooksAt known (Do op a b c) x → x < p = λ x l. looks-below known inputs p x (Do op a b c) h l in
        let below : (x : ℕ) → LooksAt known (Do op a b c) x → value_at (node_values before nodes) x ≡ value_at (node_values now nodes) x =
        λ x l. let lx : x < p = low x l in all x lx (omega arith) (λ n d. agreed n (argument (some, subst (λ node. LooksAt known node x) (sym is) l) d)) in
        let la : a < p = h.0 in
        op-same op (fact_at known a) (value_at (node_values before nodes) a) (value_at (node_values before nodes) b) (value_at (node_values before nodes) c)
        (value_at (node_values now nodes) a) (value_at (node_values now nodes) b) (value_at (node_values now nodes) c)
        (holds a (omega arith)) (below a (inl refl)) (λ e. below b (inr (inl (e, refl)))) (λ e. below c (inr (inr (e, refl))))

    each : (p : ℕ)
        → ((q : ℕ) → q < p → q < length nodes → ((n : ℕ) → Depends known nodes n q → value_at before n ≡ value_at now n)
        → value_at (node_values before nodes) q ≡ value_at (node_values now nodes) q)
        → p < length nodes → ((n : ℕ) → Depends known nodes n p → value_at before n ≡ value_at now n)
        → value_at (node_values before nodes) p ≡ value_at (node_values now nodes) p
    each p all lt agreed = by (one_value (fact_at known p)) refl
      where
        by : (one : Option Value) → one_value (fact_at known p) ≡ one → value_at (node_values before nodes) p ≡ value_at (node_values now nodes) p
        by (Some v) is =
            one_value_is (fact_at known p) (value_at (node_values before nodes) p) v (holds p lt) is
            ∙ sym (one_value_is (fact_at known p) (value_at (node_values now nodes) p) v (holds-now p lt) is)
        by None is =
            values_fixed before inputs nodes p (Lit Undef) valid lt
            ∙ same-entry p lt (ap is_none is) all agreed (node_at nodes p) refl (are-valid inputs nodes valid p lt)
            ∙ sym (values_fixed now inputs nodes p (Lit Undef) valid lt)
