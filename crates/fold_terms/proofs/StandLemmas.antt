-- Which node denotes a node that is folded.
use Rattle.std.proofs.Common.{◌≡◌, ◌≢◌, ℕ, ◌<◌, Bool, true, false, not, eqb, ◌⊎◌, List, length, Some, None, Option, ℤ, pos, refl, ap, sym, ◌∙◌, subst, inl, inr}
use Rattle.std.proofs.Common.{⊎_elim, arith}
use mathlib.Core.Bool.{◌&&◌, ◌||◌}
use Rattle.std.specs.Prelude.{Result, Ok, Err, IfOk, if◌then◌else◌, is_some, ◌≤ℤ◌, int_le, nat_lt}
use Rattle.std.proofs.lemmas.Bool.{eqb-true, true≢false, or_cases, lt-ltb, ltb-true}
use Rattle.std.proofs.lemmas.Int.{ints}
use Rattle.m_fixed.specs.declared.amount.Value.{Value}
use Rattle.m_fixed.specs.declared.amount.Value.TheVariants.{Undef, Num, Over}
use Rattle.m_fixed.specs.declared.operator.Op.{Op}
use Rattle.m_fixed.specs.declared.operator.Op.TheVariants.{Add, Sub, Mul, Neg, Truth, Choose}
use Rattle.m_fixed.specs.Operators.{op_value, is_zero, arity_of, chosen}
use Rattle.m_fixed.specs.Laws.{IsValue}
use Rattle.m_fixed.proofs.Values.{second_is_ignored, third_is_ignored}
use Rattle.definedness.specs.Ranges.{InSome, may_be_zero}
use Rattle.definedness.specs.Facts.{Possible, Holds, IsFact, one_value, is_number, lacks_zero}
use Rattle.definedness.proofs.ExactFacts.{one_value_is, held_is_value}
use Rattle.flat_code.specs.declared.program.Node.{Node}
use Rattle.flat_code.specs.declared.program.Node.TheVariants.{Input, Lit, Do}
use Rattle.flat_code.specs.Runs.{entry_of, entries_of, values_for, node_values, is_one, IsNode}
use Rattle.flat_code.specs.Entries.{node_at, entry_at}
use Rattle.flat_code.specs.Facts.{facts, ArePlain}
use Rattle.flat_code.specs.Tidy.{IsNormal, IsOpen, is_literal_of, is_null, is_test, is_made_by}
use Rattle.flat_code.specs.inner.Renumber.{entry_by, AreValid}
use Rattle.flat_code.proofs.ReadLemmas.{entry-by, entry-at, entry-same}
use Rattle.flat_code.proofs.FactLemmas.{step-holds, holds-at}
use Rattle.fold_terms.specs.Drafts.{Denotes}
use Rattle.fold_terms.specs.inner.Built.{Longer, normalised, IsOpposite, choice_of, is_decided}
use Rattle.fold_terms.proofs.GrowLemmas.{at-grows}
use Rattle.fold_terms.proofs.ValueLemmas.{null-value, one-value, same-sum, same-sum-left, same-difference, same-product, same-product-left, twice-opposite}
use Rattle.fold_terms.proofs.ValueLemmas.{truth-of-test, choice-is}

pub ok-both : {E : Type 0} (r : Result ℕ E) (P Q R : ℕ → Type 0) → ((k : ℕ) → P k → Q k → R k) → IfOk r P → IfOk r Q → IfOk r R
ok-both (Ok k) P Q R f p q = f k p q
ok-both (Err e) P Q R f p q = tt

-- a node denotes itself
pub denoted-node : (count : ℕ) (nodes : List Node) (node : Node) (k : ℕ) → AreValid count nodes → k < length nodes → node_at nodes k ≡ node
    → Denotes nodes node k
denoted-node count nodes node k valid lt e = record {
  within = lt;
  value = λ inputs plain. entry-at (values_for inputs) count nodes k valid lt ∙ ap (entry_by (values_for inputs) (entry_at (values_for inputs) nodes)) e
      ∙ sym (entry-by (values_for inputs) (node_values inputs nodes) node);
}

not-undef : (f : Possible) (v : Value) → Holds f v → f.undef ≡ false → v ≢ Undef
not-undef f v h e d = true≢false (sym (subst (Holds f) d h) ∙ e)

not-over : (f : Possible) (v : Value) → Holds f v → f.over ≡ false → v ≢ Over
not-over f v h e d = true≢false (sym (subst (Holds f) d h) ∙ e)

-- ---- values of nodes of a builder

-- the value of a node of a builder, for these inputs
abbrev value : List Node → List Value → ℕ → Value
value nodes inputs k = entry_at (values_for inputs) nodes k

null-step : (inputs : List Value) (before : ℕ → Value) (node : Node) → is_literal_of is_null node ≡ true
    → entry_by (values_for inputs) before node ≡ Num (pos 0)
null-step inputs before (Lit v) e = null-value v e
null-step inputs before (Input n) e = absurd (true≢false (sym e))
null-step inputs before (Do op a b c) e = absurd (true≢false (sym e))

one-step : (inputs : List Value) (before : ℕ → Value) (node : Node) → is_literal_of is_one node ≡ true
    → entry_by (values_for inputs) before node ≡ Num (pos 1_000_000)
one-step inputs before (Lit v) e = one-value v e
one-step inputs before (Input n) e = absurd (true≢false (sym e))
one-step inputs before (Do op a b c) e = absurd (true≢false (sym e))

null-at : (count : ℕ) (nodes : List Node) (inputs : List Value) (k : ℕ) → AreValid count nodes → k < length nodes
    → is_literal_of is_null (node_at nodes k) ≡ true → value nodes inputs k ≡ Num (pos 0)
null-at count nodes inputs k valid lt e = entry-at (values_for inputs) count nodes k valid lt ∙ null-step inputs (value nodes inputs) (node_at nodes k) e

one-at : (count : ℕ) (nodes : List Node) (inputs : List Value) (k : ℕ) → AreValid count nodes → k < length nodes → is_literal_of is_one (node_at nodes k) ≡ true
    → value nodes inputs k ≡ Num (pos 1_000_000)
one-at count nodes inputs k valid lt e = entry-at (values_for inputs) count nodes k valid lt ∙ one-step inputs (value nodes inputs) (node_at nodes k) e

value-is : (count : ℕ) (nodes : List Node) (inputs : List Value) (k : ℕ) → ArePlain inputs → AreValid count nodes → k < length nodes
    → IsFact (entry_at facts nodes k) → IsValue (value nodes inputs k)
value-is count nodes inputs k plain valid lt fact = held_is_value (entry_at facts nodes k) (value nodes inputs k) fact
    (holds-at inputs count nodes k plain valid lt)

-- ---- the forms

pub denoted-sum : (count : ℕ) (nodes : List Node) (a b c : ℕ) → AreValid count nodes → a < length nodes → b < length nodes
    → is_literal_of is_null (node_at nodes b) ≡ true → (entry_at facts nodes a).undef ≡ false → IsFact (entry_at facts nodes a) → Denotes nodes (Do Add a b c) a
denoted-sum count nodes a b c valid la lb null sure fact = record {
  within = la;
  value = λ inputs plain.
      let v = value nodes inputs in
      let h = holds-at inputs count nodes a plain valid la in
      sym (ap (λ x. op_value Add (v a) x (v c)) (null-at count nodes inputs b valid lb null)
      ∙ same-sum (v a) (v c) (value-is count nodes inputs a plain valid la fact) (not-undef (entry_at facts nodes a) (v a) h sure));
}

pub denoted-sum-right : (count : ℕ) (nodes : List Node) (a b c : ℕ) → AreValid count nodes → a < length nodes → b < length nodes
    → is_literal_of is_null (node_at nodes a) ≡ true → (entry_at facts nodes b).undef ≡ false → IsFact (entry_at facts nodes b) → Denotes nodes (Do Add a b c) b
denoted-sum-right count nodes a b c valid la lb null sure fact = record {
  within = lb;
  value = λ inputs plain.
      let v = value nodes inputs in
      let h = holds-at inputs count nodes b plain valid lb in
      sym (ap (λ x. op_value Add x (v b) (v c)) (null-at count nodes inputs a valid la null)
      ∙ same-sum-left (v b) (v c) (value-is count nodes inputs b plain valid lb fact) (not-undef (entry_at facts nodes b) (v b) h sure));
}

pub denoted-difference : (count : ℕ) (nodes : List Node) (a b c : ℕ) → AreValid count nodes → a < length nodes → b < length nodes
    → is_literal_of is_null (node_at nodes b) ≡ true → (entry_at facts nodes a).undef ≡ false → IsFact (entry_at facts nodes a) → Denotes nodes (Do Sub a b c) a
denoted-difference count nodes a b c valid la lb null sure fact = record {
  within = la;
  value = λ inputs plain.
      let v = value nodes inputs in
      let h = holds-at inputs count nodes a plain valid la in
      sym (ap (λ x. op_value Sub (v a) x (v c)) (null-at count nodes inputs b valid lb null)
      ∙ same-difference (v a) (v c) (value-is count nodes inputs a plain valid la fact) (not-undef (entry_at facts nodes a) (v a) h sure));
}

pub denoted-product : (count : ℕ) (nodes : List Node) (a b c : ℕ) → AreValid count nodes → a < length nodes → b < length nodes
    → is_literal_of is_one (node_at nodes b) ≡ true → IsFact (entry_at facts nodes a) → Denotes nodes (Do Mul a b c) a
denoted-product count nodes a b c valid la lb one fact = record {
  within = la;
  value = λ inputs plain.
      let v = value nodes inputs in
      sym (ap (λ x. op_value Mul (v a) x (v c)) (one-at count nodes inputs b valid lb one)
      ∙ same-product (v a) (v c) (value-is count nodes inputs a plain valid la fact));
}

pub denoted-product-right : (count : ℕ) (nodes : List Node) (a b c : ℕ) → AreValid count nodes → a < length nodes → b < length nodes
    → is_literal_of is_one (node_at nodes a) ≡ true → IsFact (entry_at facts nodes b) → Denotes nodes (Do Mul a b c) b
denoted-product-right count nodes a b c valid la lb one fact = record {
  within = lb;
  value = λ inputs plain.
      let v = value nodes inputs in
      sym (ap (λ x. op_value Mul x (v b) (v c)) (one-at count nodes inputs a valid la one)
      ∙ same-product-left (v b) (v c) (value-is count nodes inputs b plain valid lb fact));
}

-- the argument of an opposite is an earlier node
pub opposite-within : (count a x : ℕ) (node : Node) → IsNode count a node → IsOpposite node x → x < a
opposite-within count a x node h n = let early : IsNode count a (Do Neg x n.second n.third) = subst (IsNode count a) n.is h in early.0

pub denoted-opposite : (count : ℕ) (nodes : List Node) (a b c x : ℕ) → AreValid count nodes → a < length nodes → IsOpposite (node_at nodes a) x
    → ((k : ℕ) → k < length nodes → IsFact (entry_at facts nodes k)) → Denotes nodes (Do Neg a b c) x
denoted-opposite count nodes a b c x valid la n all =
    let early = opposite-within count a x (node_at nodes a) (valid a la) n in
    let lx : x < length nodes = omega arith in
    record {
      within = lx;
      value = λ inputs plain.
          let v = value nodes inputs in
          let z : v a ≡ op_value Neg (v x) (v n.second) (v n.third) = entry-at (values_for inputs) count nodes a valid la
          ∙ ap (entry_by (values_for inputs) v) n.is in
          sym (ap (λ w. op_value Neg w (v b) (v c)) z
          ∙ twice-opposite (v x) (v n.second) (v n.third) (v b) (v c) (value-is count nodes inputs x plain valid lx (all x lx)));
    }

number-undef : (u o : Bool) → (not u && not o) ≡ true → u ≡ false
number-undef true o e = absurd (true≢false (sym e))
number-undef false o e = refl

number-over : (u o : Bool) → (not u && not o) ≡ true → o ≡ false
number-over true o e = absurd (true≢false (sym e))
number-over false true e = absurd (true≢false (sym e))
number-over false false e = refl

test-step : (inputs : List Value) (before : ℕ → Value) (node : Node) (v d e : Value) → is_made_by is_test node ≡ true
    → v ≡ entry_by (values_for inputs) before node → v ≢ Undef → v ≢ Over → op_value Truth v d e ≡ v
test-step inputs before (Do op a b c) v d e t is u o = truth-of-test op (before a) (before b) (before c) v d e t is u o
test-step inputs before (Input n) v d e t is u o = absurd (true≢false (sym t))
test-step inputs before (Lit w) v d e t is u o = absurd (true≢false (sym t))

pub denoted-truth : (count : ℕ) (nodes : List Node) (a b c : ℕ) → AreValid count nodes → a < length nodes → is_made_by is_test (node_at nodes a) ≡ true
    → is_number (entry_at facts nodes a) ≡ true → Denotes nodes (Do Truth a b c) a
denoted-truth count nodes a b c valid la test sure =
    let f = entry_at facts nodes a in
    record {
      within = la;
      value = λ inputs plain.
          let v = value nodes inputs in
          let h = holds-at inputs count nodes a plain valid la in
          sym (test-step inputs v (node_at nodes a) (v a) (v b) (v c) test (entry-at (values_for inputs) count nodes a valid la)
          (not-undef f (v a) h (number-undef f.undef f.over sure)) (not-over f (v a) h (number-over f.undef f.over sure)));
    }

-- a choice whose condition is a literal
pub denoted-literal-choice : (count : ℕ) (nodes : List Node) (a b c : ℕ) (w : Value) → AreValid count nodes → a < length nodes → b < length nodes
    → c < length nodes → node_at nodes a ≡ Lit w → Denotes nodes (Do Choose a b c) (choice_of w a b c)
denoted-literal-choice count nodes a b c w valid la lb lc e = record {
  within = within w;
  value = λ inputs plain.
      let v = value nodes inputs in
      let z : v a ≡ w = entry-at (values_for inputs) count nodes a valid la ∙ ap (entry_by (values_for inputs) v) e in
      taken v w z ∙ sym (ap (λ w. chosen w (v b) (v c)) z) ∙ sym (choice-is (v a) (v b) (v c));
}
  where
    either : (t : Bool) → (if t then c else b) < length nodes
    either true = lc
    either false = lb

    within : (w : Value) → choice_of w a b c < length nodes
    within Undef = la
    within Over = la
    within (Num x) = either (is_zero x)

    each : (v : ℕ → Value) (t : Bool) → v (if t then c else b) ≡ (if t then v c else v b)
    each v true = refl
    each v false = refl

    taken : (v : ℕ → Value) (w : Value) → v a ≡ w → v (choice_of w a b c) ≡ chosen w (v b) (v c)
    taken v Undef z = z
    taken v Over z = z
    taken v (Num x) z = each v (is_zero x)

pub not-true : (b : Bool) → not b ≡ true → b ≡ false
not-true true e = absurd (true≢false (sym e))
not-true false e = refl

and-parts : (a b : Bool) → (a && b) ≡ true → (a ≡ true) × (b ≡ true)
and-parts true b e = (refl, e)
and-parts false b e = absurd (true≢false (sym e))

zero-is : (n : ℤ) → is_zero n ≡ true → n ≡ pos 0
zero-is n e = cc (null-value (Num n) e)

at_most : (x y : ℤ) → x ≤ℤ y → int_le x y ≡ true
at_most x y h = grind (arith, ints)

zero-possible : (r : Option (ℤ × ℤ)) (n : ℤ) → InSome r n → n ≡ pos 0 → may_be_zero r ≡ true
zero-possible None n h e = absurd h
zero-possible (Some r) n h e =
    let low : r.0 ≤ℤ pos 0 = subst (λ n. r.0 ≤ℤ n) e h.0 in
    let high : pos 0 ≤ℤ r.1 = subst (λ n. n ≤ℤ r.1) e h.1 in
    rw (at_most r.0 (pos 0) low, at_most (pos 0) r.1 high) refl

-- if 0 isn't possible, a possible number isn't 0
other-number : (f : Possible) (n : ℤ) → Holds f (Num n) → lacks_zero f ≡ true → is_zero n ≡ false
other-number f n h e = go (is_zero n) refl
  where
    go : (t : Bool) → is_zero n ≡ t → t ≡ false
    go true z = absurd (true≢false (sym (zero-possible f.range n h (zero-is n z))
        ∙ not-true (may_be_zero f.range) (and-parts (is_some f.range) (not (may_be_zero f.range)) e).1))
    go false z = refl

-- a choice that always takes one branch: its branches are equal, or its condition is never 0
sure-choice : (f : Possible) (v x y : Value) → Holds f v → is_number f ≡ true → (x ≡ y) ⊎ (lacks_zero f ≡ true) → chosen v x y ≡ x
sure-choice f Undef x y h s which = absurd (not-undef f Undef h (number-undef f.undef f.over s) refl)
sure-choice f Over x y h s which = absurd (not-over f Over h (number-over f.undef f.over s) refl)
sure-choice f (Num n) x y h s which = ⊎_elim (λ same. go (is_zero n) same) (λ lacks. ap (λ t. if t then y else x) (other-number f n h lacks)) which
  where
    go : (t : Bool) → x ≡ y → (if t then y else x) ≡ x
    go true same = sym same
    go false same = refl

pub denoted-decided : (count : ℕ) (nodes : List Node) (a b c : ℕ) → AreValid count nodes → a < length nodes → b < length nodes
    → is_decided (entry_at facts nodes a) (eqb b c) ≡ true → Denotes nodes (Do Choose a b c) b
denoted-decided count nodes a b c valid la lb decided = record {
  within = lb;
  value = λ inputs plain.
      let v = value nodes inputs in
      let f = entry_at facts nodes a in
      let parts = and-parts (is_number f) (eqb b c || lacks_zero f) decided in
      sym (choice-is (v a) (v b) (v c) ∙ sure-choice f (v a) (v b) (v c) (holds-at inputs count nodes a plain valid la) parts.0
      (⊎_elim (λ e. inl (ap v (eqb-true b c e))) (λ e. inr e) (or_cases (eqb b c) (lacks_zero f) parts.1)));
}

-- ---- arguments past the arity

pub open-node : (node : Node) (f : Possible) → one_value f ≡ None → IsOpen node f
open-node (Input n) f e = e
open-node (Lit v) f e = tt
open-node (Do op a b c) f e = e

arity_pos : (op : Op) → 0 < arity_of op
arity_pos Neg = omega arith
arity_pos _ = omega arith

if-true : {X : Type 0} (t : Bool) (x y : X) → t ≡ true → (if t then x else y) ≡ x
if-true t x y e = ap (λ t. if t then x else y) e

pub normal-is : (node : Node) → IsNormal (normalised node)
normal-is (Input n) = tt
normal-is (Lit v) = tt
normal-is (Do op a b c) = (
  λ l. if-true (nat_lt (arity_of op) 2) a b (lt-ltb (arity_of op) 2 l),
  λ l. if-true (nat_lt (arity_of op) 3) a c
      (lt-ltb (arity_of op) 3 l),
)

either-below : (t : Bool) (a b p : ℕ) → a < p → b < p → (if t then a else b) < p
either-below true a b p la lb = la
either-below false a b p la lb = lb

pub normal-node : (count p : ℕ) (node : Node) → IsNode count p node → IsNode count p (normalised node)
normal-node count p (Input n) h = h
normal-node count p (Lit v) h = tt
normal-node count p (Do op a b c) h = (h.0, either-below (nat_lt (arity_of op) 2) a b p h.0 h.1, either-below (nat_lt (arity_of op) 3) a c p h.0 h.2)

-- arguments past the arity don't matter
further : (op : Op) (v : ℕ → Value) (a b c : ℕ) (s t : Bool) → (s ≡ true → arity_of op < 2) → (t ≡ true → arity_of op < 3)
    → op_value op (v a) (v (if s then a else b)) (v (if t then a else c)) ≡ op_value op (v a) (v b) (v c)
further op v a b c true t f g = let pos = arity_pos op in let lt : arity_of op < 2 = f refl in second_is_ignored op (v a) (v a) (v (if t then a else c)) (v b)
    (v c) (omega arith)
further op v a b c false true f g = let lt : arity_of op < 3 = g refl in third_is_ignored op (v a) (v b) (v a) (v c) (omega arith)
further op v a b c false false f g = refl

normal-entry : (inputs : List Value) (before : ℕ → Value) (node : Node) → entry_by (values_for inputs) before (normalised node) ≡ entry_by (values_for inputs)
    before node
normal-entry inputs before (Input n) = refl
normal-entry inputs before (Lit v) = refl
normal-entry inputs before (Do op a b c) = further op before a b c (nat_lt (arity_of op) 2) (nat_lt (arity_of op) 3) (ltb-true (arity_of op) 2)
    (ltb-true (arity_of op) 3)

-- what denotes the node with other arguments past the arity denotes the node
pub denoted-normal : (nodes : List Node) (node : Node) (k : ℕ) → Denotes nodes (normalised node) k → Denotes nodes node k
denoted-normal nodes node k h = record {
  within = h.within;
  value = λ inputs plain.
      let r = values_for inputs in
      let vs = node_values inputs nodes in
      h.value inputs plain ∙ entry-by r vs (normalised node) ∙ normal-entry inputs (value nodes inputs) node ∙ sym (entry-by r vs node);
}

-- a literal denotes a node whose only possible value it is
pub denoted-literal : (count : ℕ) (old new : List Node) (node : Node) (w : Value) (k : ℕ) → AreValid count old → AreValid count new → Longer old new
    → IsNode count (length old) node → one_value (entry_of facts (entries_of facts old) node) ≡ Some w → k < length new → node_at new k ≡ Lit w
    → Denotes new node k
denoted-literal count old new node w k valid valid' grows h e lt is = record {
  within = lt;
  value = λ inputs plain.
      let r = values_for inputs in
      let v = value old inputs in
      let v' = value new inputs in
      let f = entry_at facts old in
      let named = step-holds inputs f v count (length old) node plain h (λ q l. holds-at inputs count old q plain valid l) in
      let one : one_value (entry_by facts f node) ≡ Some w = ap one_value (sym (entry-by facts (entries_of facts old) node)) ∙ e in
      entry-at r count new k valid' lt ∙ ap (entry_by r v') is
      ∙ sym (one_value_is (entry_by facts f node) (entry_by r v node) w named one)
      ∙ entry-same r v v' count (length old) node h (λ q l. sym (at-grows r old new grows q l))
      ∙ sym (entry-by r (node_values inputs new) node);
}
