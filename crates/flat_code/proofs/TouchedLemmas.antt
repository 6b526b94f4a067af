-- Touched nodes: an untouched one keeps its value, and what one more new value touches.
use Rattle.std.proofs.Common.{◌≡◌, ◌≢◌, ℕ, ◌<◌, ◌≤◌, Bool, true, false, not, ◌||◌, ◌&&◌, eqb, length, get_or, set, List, sym, ◌∙◌, ap, refl, ⊎_elim, arith}
use Rattle.std.specs.Prelude.{nat_lt}
use Rattle.std.specs.Ordering.{int_eq}
use Rattle.std.proofs.lemmas.Bool.{cases_eq, cases_lt, lt-ltb, eq-eqb, ne_eqb, not-false, or_parts}
use Rattle.std.proofs.lemmas.Bool.Decides.{Decides-int_eq}
use Rattle.std.proofs.lemmas.List.{get_or-set_same, get_or-set_other}
use Rattle.m_fixed.specs.declared.amount.Value.{Value}
use Rattle.m_fixed.specs.declared.amount.Value.TheVariants.{Undef, Num, Over}
use Rattle.m_fixed.specs.declared.operator.Op.{Op}
use Rattle.m_fixed.specs.declared.operator.Op.TheVariants.{Choose}
use Rattle.m_fixed.specs.Operators.{arity_of, op_value}
use Rattle.m_fixed.proofs.Values.{second_is_ignored, third_is_ignored}
use Rattle.flat_code.specs.declared.program.Node.{Node}
use Rattle.flat_code.specs.declared.program.Node.TheVariants.{Input, Lit, Do}
use Rattle.flat_code.specs.Runs.{IsNode, entry_of, values_for, value_at}
use Rattle.flat_code.specs.Touched.{differs, some_argument, of_put, is_touched}

-- ---- values

pub differs-false : (v w : Value) → differs v w ≡ false → v ≡ w
differs-false Undef Undef h = refl
differs-false Undef (Num y) h = cc
differs-false Undef Over h = cc
differs-false (Num x) Undef h = cc
differs-false (Num x) (Num y) h = ap Num ((Decides-int_eq x y).0 (not-false (int_eq x y) h))
differs-false (Num x) Over h = cc
differs-false Over Undef h = cc
differs-false Over (Num y) h = cc
differs-false Over Over h = refl

pub differs_self : (v : Value) → differs v v ≡ false
differs_self Undef = refl
differs_self (Num x) = ap not ((Decides-int_eq x x).1 refl)
differs_self Over = refl

-- ---- an untouched node

-- every operator has an argument
some_arity : (op : Op) → 1 ≤ arity_of op
some_arity Choose = omega arith
some_arity _ = omega arith

-- arguments past the arity don't matter
second_same : (op : Op) (a b c y : Value) → (nat_lt 1 (arity_of op) && differs b y) ≡ false → op_value op a b c ≡ op_value op a y c
second_same op a b c y h =
    ⊎_elim
    (λ (lt : 1 < arity_of op). ap (λ v. op_value op a v c) (differs-false b y (sym (ap (λ s. s && differs b y) (lt-ltb 1 (arity_of op) lt)) ∙ h)))
    (λ (ge : arity_of op ≤ 1). let one : arity_of op ≡ 1 = omega (arith, some_arity op, ge) in second_is_ignored op a b c y c one)
    (cases_lt 1 (arity_of op))

third_same : (op : Op) (a b c z : Value) → (nat_lt 2 (arity_of op) && differs c z) ≡ false → op_value op a b c ≡ op_value op a b z
third_same op a b c z h =
    ⊎_elim
    (λ (lt : 2 < arity_of op). ap (λ v. op_value op a b v) (differs-false c z (sym (ap (λ s. s && differs c z) (lt-ltb 2 (arity_of op) lt)) ∙ h)))
    (λ (ge : arity_of op ≤ 2). third_is_ignored op a b c z ge)
    (cases_lt 2 (arity_of op))

op_same : (op : Op) (a b c x y z : Value) → (differs a x || (nat_lt 1 (arity_of op) && differs b y) || (nat_lt 2 (arity_of op) && differs c z)) ≡ false
    → op_value op a b c ≡ op_value op x y z
op_same op a b c x y z h =
    let p = or_parts (differs a x || (nat_lt 1 (arity_of op) && differs b y)) (nat_lt 2 (arity_of op) && differs c z) h in
    let q = or_parts (differs a x) (nat_lt 1 (arity_of op) && differs b y) p.0 in
    ap (λ v. op_value op v b c) (differs-false a x q.0) ∙ second_same op x b c y q.1 ∙ third_same op x y c z p.1

-- A node that isn't touched has the same value for both lists.
pub entry_same : (before now : List Value) (put : List Bool) (vs ws : List Value) (node : Node)
    → ((n : ℕ) → get_or put n false ≡ false → value_at before n ≡ value_at now n) → is_touched put vs ws node ≡ false
    → entry_of (values_for before) vs node ≡ entry_of (values_for now) ws node
entry_same before now put vs ws (Input n) same h = same n (or_parts (get_or put n false) false h).0
entry_same before now put vs ws (Lit v) same h = refl
entry_same before now put vs ws (Do op a b c) same h =
    op_same op (value_at vs a) (value_at vs b) (value_at vs c) (value_at ws a) (value_at ws b) (value_at ws c) h

-- ---- the value of a test of arguments

pub some_argument_same : (f g : ℕ → Bool) (node : Node) → ((k : ℕ) → f k ≡ g k) → some_argument f node ≡ some_argument g node
some_argument_same f g node h = ap (λ test. some_argument test node) (λ i. λ k. h k i)

pub some_argument_below : (m p : ℕ) (f g : ℕ → Bool) (node : Node) → IsNode m p node → ((k : ℕ) → k < p → f k ≡ g k)
    → some_argument f node ≡ some_argument g node
some_argument_below m p f g (Input n) h same = refl
some_argument_below m p f g (Lit v) h same = refl
some_argument_below m p f g (Do op a b c) h same =
    let first = same a h.0 in
    let second = same b h.1 in
    let third = same c h.2 in
    cc

pub some_argument_none : (node : Node) → some_argument (λ k. false) node ≡ false
some_argument_none (Input n) = refl
some_argument_none (Lit v) = refl
some_argument_none (Do op a b c) = both (nat_lt 1 (arity_of op)) (nat_lt 2 (arity_of op))
  where
    both : (s t : Bool) → (false || (s && false) || (t && false)) ≡ false
    both true true = refl
    both true false = refl
    both false true = refl
    both false false = refl

either : (s t a b c d x y z : Bool)
    → ((a || (d && x)) || (s && (b || (d && y))) || (t && (c || (d && z)))) ≡ ((a || (s && b) || (t && c)) || (d && (x || (s && y) || (t && z))))
either s t a b c d x y z = grind arith

pub some_argument_or : (f g : ℕ → Bool) (d : Bool) (node : Node)
    → some_argument (λ k. f k || (d && g k)) node ≡ (some_argument f node || (d && some_argument g node))
some_argument_or f g true (Input n) = refl
some_argument_or f g false (Input n) = refl
some_argument_or f g true (Lit v) = refl
some_argument_or f g false (Lit v) = refl
some_argument_or f g d (Do op a b c) = either (nat_lt 1 (arity_of op)) (nat_lt 2 (arity_of op)) (f a) (f b) (f c) d (g a) (g b) (g c)

-- ---- one more new value

differs_set : (old kept : List Value) (p : ℕ) (v : Value) → p < length kept → value_at kept p ≡ value_at old p → (k : ℕ)
    → differs (value_at old k) (value_at (set kept p v) k) ≡ (differs (value_at old k) (value_at kept k) || (differs (value_at old p) v && eqb k p))
differs_set old kept p v h same k = ⊎_elim at_p elsewhere (cases_eq k p)
  where
    at_p : k ≡ p → differs (value_at old k) (value_at (set kept p v) k)
        ≡ (differs (value_at old k) (value_at kept k) || (differs (value_at old p) v && eqb k p))
    at_p is =
        let new : value_at (set kept p v) p ≡ v = get_or-set_same kept p v Undef h in
        let none : differs (value_at old p) (value_at kept p) ≡ false = ap (differs (value_at old p)) same ∙ differs_self (value_at old p) in
        let yes : eqb p p ≡ true = eq-eqb p p refl in
        rw (is, new, none, yes) (sym (and_true (differs (value_at old p) v)))
      where
        and_true : (b : Bool) → (b && true) ≡ b
        and_true true = refl
        and_true false = refl

    elsewhere : k ≢ p → differs (value_at old k) (value_at (set kept p v) k)
        ≡ (differs (value_at old k) (value_at kept k) || (differs (value_at old p) v && eqb k p))
    elsewhere ne =
        let kept_there : value_at (set kept p v) k ≡ value_at kept k = get_or-set_other kept p k v Undef ne in
        let no : eqb k p ≡ false = ne_eqb k p ne in
        rw (kept_there, no) (sym (or_none (differs (value_at old k) (value_at kept k)) (differs (value_at old p) v)))
      where
        or_none : (a b : Bool) → (a || (b && false)) ≡ a
        or_none true true = refl
        or_none true false = refl
        or_none false true = refl
        or_none false false = refl

-- A new value at p touches the nodes that read p if it differs.
pub touched_set : (put : List Bool) (old kept : List Value) (p : ℕ) (v : Value) (node : Node) → p < length kept → value_at kept p ≡ value_at old p
    → is_touched put old (set kept p v) node ≡ (is_touched put old kept node || (differs (value_at old p) v && some_argument (λ k. eqb k p) node))
touched_set put old kept p v node h same =
    let changed : some_argument (λ k. differs (value_at old k) (value_at (set kept p v) k))
    node ≡ (some_argument (λ k. differs (value_at old k) (value_at kept k)) node || (differs (value_at old p) v && some_argument (λ k. eqb k p) node)) =
    some_argument_same (λ k. differs (value_at old k) (value_at (set kept p v) k))
    (λ k. differs (value_at old k) (value_at kept k) || (differs (value_at old p) v && eqb k p)) node (differs_set old kept p v h same)
    ∙ some_argument_or (λ k. differs (value_at old k) (value_at kept k)) (λ k. eqb k p) (differs (value_at old p) v) node in
    ap (λ b. of_put put node || b) changed ∙ or_assoc (of_put put node) (some_argument (λ k. differs (value_at old k) (value_at kept k)) node)
    (differs (value_at old p) v && some_argument (λ k. eqb k p) node)
  where
    or_assoc : (a b c : Bool) → (a || (b || c)) ≡ ((a || b) || c)
    or_assoc true b c = refl
    or_assoc false b c = refl

-- Whether a node is touched depends only on the new values below it.
pub touched_below : (m p : ℕ) (put : List Bool) (old new other : List Value) (node : Node) → IsNode m p node
    → ((k : ℕ) → k < p → value_at new k ≡ value_at other k)
    → is_touched put old new node ≡ is_touched put old other node
touched_below m p put old new other node h same =
    ap (λ b. of_put put node || b)
    (some_argument_below m p (λ k. differs (value_at old k) (value_at new k)) (λ k. differs (value_at old k) (value_at other k)) node h
    (λ k below. ap (differs (value_at old k)) (same k below)))

-- if no value is new, the nodes of inputs that were set are touched, and no others
pub touched_same : (put : List Bool) (vs : List Value) (node : Node) → is_touched put vs vs node ≡ of_put put node
touched_same put vs node =
    ap (λ b. of_put put node || b) (some_argument_same (λ k. differs (value_at vs k) (value_at vs k)) (λ k. false) node (λ k. differs_self (value_at vs k))
    ∙ some_argument_none node)
    ∙ or_false (of_put put node)
  where
    or_false : (b : Bool) → (b || false) ≡ b
    or_false true = refl
    or_false false = refl
