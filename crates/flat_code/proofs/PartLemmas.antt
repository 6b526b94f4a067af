-- Renumbered nodes.
use Rattle.std.proofs.Common.{◌≡◌, ℕ, ◌<◌, ◌≤◌, Bool, true, false, eqb, List, length, refl, ap, sym, ◌∙◌, subst, inl, inr, ⊎_elim, arith}
use Rattle.std.proofs.lemmas.Bool.{cases_eq, cases_lt, eq-eqb, ne_eqb}
use Rattle.m_fixed.specs.declared.amount.Value.{Value}
use Rattle.m_fixed.specs.declared.operator.Op.{Op}
use Rattle.m_fixed.specs.declared.operator.Op.TheVariants.{Add, Sub, Mul, Neg, Truth, Choose}
use Rattle.definedness.specs.Facts.{Possible}
use Rattle.flat_code.specs.declared.program.Node.{Node}
use Rattle.flat_code.specs.declared.program.Node.TheVariants.{Input, Lit, Do}
use Rattle.flat_code.specs.Runs.{Reading, is_one, IsNode}
use Rattle.flat_code.specs.Entries.{node_at, entry_at}
use Rattle.flat_code.specs.Facts.{facts}
use Rattle.flat_code.specs.Tidy.{IsNormal, IsOpen, form, has_form, is_literal, is_literal_of, is_null, is_neg, is_test, is_made_by, IsFolded, Reads}
use Rattle.flat_code.specs.inner.Renumber.{entry_by, AreValid, renamed, IsPart}
use Rattle.flat_code.proofs.ReadLemmas.{strong, entry-at, apply-same}

pub reads-node : (count p x : ℕ) (node : Node) → IsNode count p node → Reads node x → x < p
reads-node count p x (Input n) h i = absurd i
reads-node count p x (Lit v) h i = absurd i
reads-node count p x (Do op a b c) h i = ⊎_elim (λ e. subst (λ x. x < p) (sym e) h.0)
    (λ j. ⊎_elim (λ e. subst (λ x. x < p) (sym e) h.1) (λ e. subst (λ x. x < p) (sym e) h.2) j) i

pub valid-new : (count : ℕ) (old new : List Node) (kept : ℕ → Bool) (m : ℕ → ℕ) → IsPart old new kept m → AreValid count old → AreValid count new
valid-new count old new kept m h valid k lt =
    let f = h.from k lt in
    let p = f.0 in
    let node = h.node p f.1 f.2 in
    subst (λ k. IsNode count k (node_at new k)) f.3
    (subst (IsNode count (m p)) (sym node) (go (node_at old p) (valid p f.1) (λ x i. h.order x p f.1 (h.closed p x f.1 f.2 i) f.2)))
  where
    go : {p : ℕ} (node : Node) → IsNode count p node → ((x : ℕ) → Reads node x → x < p → m x < m p) → IsNode count (m p) (renamed m node)
    go (Input n) i less = i
    go (Lit v) i less = tt
    go (Do op a b c) i less = (less a (inl refl) i.0, less b (inr (inl refl)) i.1, less c (inr (inr refl)) i.2)

pub entry-renamed : {X : Type 0} (r : Reading X) (m : ℕ → ℕ) (new old : ℕ → X) (node : Node) → ((x : ℕ) → Reads node x → new (m x) ≡ old x)
    → entry_by r new (renamed m node) ≡ entry_by r old node
entry-renamed r m new old (Input n) same = refl
entry-renamed r m new old (Lit v) same = refl
entry-renamed r m new old (Do op a b c) same = apply-same (r.apply op) (same a (inl refl)) (same b (inr (inl refl))) (same c (inr (inr refl)))

-- a kept node has the same entry under its new number, in every reading
pub part-at : {X : Type 0} (r : Reading X) (count : ℕ) (old new : List Node) (kept : ℕ → Bool) (m : ℕ → ℕ) → IsPart old new kept m → AreValid count old
    → (p : ℕ) → p < length old → kept p ≡ true → entry_at r new (m p) ≡ entry_at r old p
part-at r count old new kept m h valid p = strong (λ p. p < length old → kept p ≡ true → entry_at r new (m p) ≡ entry_at r old p) each p
  where
    each : (p : ℕ) → ((q : ℕ) → q < p → q < length old → kept q ≡ true → entry_at r new (m q) ≡ entry_at r old q) → p < length old → kept p ≡ true
        → entry_at r new (m p) ≡ entry_at r old p
    each p all lt k =
        entry-at r count new (m p) (valid-new count old new kept m h valid) (h.within p lt k)
        ∙ ap (entry_by r (entry_at r new)) (h.node p lt k)
        ∙ entry-renamed r m (entry_at r new) (entry_at r old) (node_at old p) (λ x i. let l = reads-node count p x (node_at old p) (valid p lt) i in all x l
        (omega arith) (h.closed p x lt k i))
        ∙ sym (entry-at r count old p valid lt)

-- different kept nodes have different numbers
part-apart : (old new : List Node) (kept : ℕ → Bool) (m : ℕ → ℕ) → IsPart old new kept m → (p q : ℕ) → p < length old → q < length old → kept p ≡ true
    → kept q ≡ true → m p ≡ m q → p ≡ q
part-apart old new kept m h p q lp lq kp kq e =
    ⊎_elim
    (λ (l : p < q). let z = h.order p q lq kp kq l in absurd (omega arith))
    (λ (le : q ≤ p). ⊎_elim (λ (l : q < p). let z = h.order q p lp kq kp l in absurd (omega arith)) (λ (g : p ≤ q). omega arith) (cases_lt q p))
    (cases_lt p q)

normal-renamed : (m : ℕ → ℕ) (node : Node) → IsNormal node → IsNormal (renamed m node)
normal-renamed m (Input n) h = tt
normal-renamed m (Lit v) h = tt
normal-renamed m (Do op a b c) h = (λ l. ap m (h.0 l), λ l. ap m (h.1 l))

open-renamed : (m : ℕ → ℕ) (node : Node) (f : Possible) → IsOpen node f → IsOpen (renamed m node) f
open-renamed m (Input n) f h = h
open-renamed m (Lit v) f h = tt
open-renamed m (Do op a b c) f h = h

literal-renamed : (m : ℕ → ℕ) (node : Node) → is_literal (renamed m node) ≡ is_literal node
literal-renamed m (Input n) = refl
literal-renamed m (Lit v) = refl
literal-renamed m (Do op a b c) = refl

literal_of-renamed : (test : Value → Bool) (m : ℕ → ℕ) (node : Node) → is_literal_of test (renamed m node) ≡ is_literal_of test node
literal_of-renamed test m (Input n) = refl
literal_of-renamed test m (Lit v) = refl
literal_of-renamed test m (Do op a b c) = refl

made-renamed : (kind : Op → Bool) (m : ℕ → ℕ) (node : Node) → is_made_by kind (renamed m node) ≡ is_made_by kind node
made-renamed kind m (Input n) = refl
made-renamed kind m (Lit v) = refl
made-renamed kind m (Do op a b c) = refl

-- the forms don't depend on the numbers of arguments' arguments
form-renamed : (op : Op) (m : ℕ → ℕ) (x y : Node) (f g : Possible) (same : Bool) → form op (renamed m x) (renamed m y) f g same ≡ form op x y f g same
form-renamed Add m x y f g same = rw (literal_of-renamed is_null m x, literal_of-renamed is_null m y) refl
form-renamed Sub m x y f g same = rw (literal_of-renamed is_null m y) refl
form-renamed Mul m x y f g same = rw (literal_of-renamed is_one m x, literal_of-renamed is_one m y) refl
form-renamed Neg m x y f g same = made-renamed is_neg m x
form-renamed Truth m x y f g same = rw (made-renamed is_test m x) refl
form-renamed Choose m x y f g same = rw (literal-renamed m x) refl
form-renamed _ m x y f g same = refl

same-test : (a b c d : ℕ) → (a ≡ b → c ≡ d) → (c ≡ d → a ≡ b) → eqb a b ≡ eqb c d
same-test a b c d f g =
    ⊎_elim
    (λ (e : a ≡ b). eq-eqb a b e ∙ sym (eq-eqb c d (f e)))
    (λ ne. ne_eqb a b ne ∙ sym (ne_eqb c d (λ e. ne (g e))))
    (cases_eq a b)

pub folded-part : (count : ℕ) (old new : List Node) (kept : ℕ → Bool) (m : ℕ → ℕ) → IsPart old new kept m → AreValid count old → IsFolded old → IsFolded new
folded-part count old new kept m h valid folded = record {
  normal = λ k lt. let f = h.from k lt in
      subst (λ k. IsNormal (node_at new k)) f.3 (subst IsNormal (sym (h.node f.0 f.1 f.2)) (normal-renamed m (node_at old f.0) (folded.normal f.0 f.1)));
  unfixed = λ k lt. let f = h.from k lt in
      subst (λ k. IsOpen (node_at new k) (entry_at facts new k)) f.3 (subst (λ n. IsOpen n (entry_at facts new (m f.0))) (sym (h.node f.0 f.1 f.2))
      (subst (IsOpen (renamed m (node_at old f.0))) (sym (part-at facts count old new kept m h valid f.0 f.1 f.2))
      (open-renamed m (node_at old f.0) (entry_at facts old f.0) (folded.unfixed f.0 f.1))));
  apart = λ j k lj lk e. let f = h.from j lj in let g = h.from k lk in
      let same : renamed m (node_at old f.0) ≡ renamed m (node_at old g.0) = sym (h.node f.0 f.1 f.2) ∙ ap (node_at new) f.3 ∙ e ∙ sym (ap (node_at new) g.3)
      ∙ h.node g.0 g.1 g.2 in
      let nodes : node_at old f.0 ≡ node_at old g.0 = back (node_at old f.0) (node_at old g.0) (number f.0 g.0 f.1 g.1 f.2 g.2) same in
      sym f.3 ∙ ap m (folded.apart f.0 g.0 f.1 g.1 nodes) ∙ g.3;
  formless = λ k lt. let f = h.from k lt in
      subst (λ k. has_form new (node_at new k) ≡ false) f.3 (ap (has_form new) (h.node f.0 f.1 f.2)
      ∙ forms f.0 f.1 f.2 (node_at old f.0) (valid f.0 f.1) (λ x i. h.closed f.0 x f.1 f.2 i) ∙ folded.formless f.0 f.1);
}
  where
    number : (p q : ℕ) → p < length old → q < length old → kept p ≡ true → kept q ≡ true → (x y : ℕ) → Reads (node_at old p) x → Reads (node_at old q) y
        → m x ≡ m y → x ≡ y
    number p q lp lq kp kq x y i j =
        let lx = reads-node count p x (node_at old p) (valid p lp) i in
        let ly = reads-node count q y (node_at old q) (valid q lq) j in
        part-apart old new kept m h x y (omega arith) (omega arith) (h.closed p x lp kp i) (h.closed q y lq kq j)

    back : (x y : Node) → ((a b : ℕ) → Reads x a → Reads y b → m a ≡ m b → a ≡ b) → renamed m x ≡ renamed m y → x ≡ y
    back (Input n) (Input n') one e = e
    back (Input n) (Lit v) one e = cc
    back (Input n) (Do op a b c) one e = cc
    back (Lit v) (Input n) one e = cc
    back (Lit v) (Lit w) one e = e
    back (Lit v) (Do op a b c) one e = cc
    back (Do op a b c) (Input n) one e = cc
    back (Do op a b c) (Lit v) one e = cc
    back (Do op a b c) (Do op' a' b' c') one e =
        let o : op ≡ op' = cc in
        let ea : m a ≡ m a' = cc in
        let eb : m b ≡ m b' = cc in
        let ec : m c ≡ m c' = cc in
        let fa : a ≡ a' = one a a' (inl refl) (inl refl) ea in
        let fb : b ≡ b' = one b b' (inr (inl refl)) (inr (inl refl)) eb in
        let fc : c ≡ c' = one c c' (inr (inr refl)) (inr (inr refl)) ec in
        cc

    forms : (p : ℕ) → p < length old → kept p ≡ true → (node : Node) → IsNode count p node → ((x : ℕ) → Reads node x → kept x ≡ true)
        → has_form new (renamed m node) ≡ has_form old node
    forms p lt k (Input n) i closed = refl
    forms p lt k (Lit v) i closed = refl
    forms p lt k (Do op a b c) i closed =
        let la : a < length old = omega (arith, i.0) in
        let lb : b < length old = omega (arith, i.1) in
        let lc : c < length old = omega (arith, i.2) in
        let ka = closed a (inl refl) in
        let kb = closed b (inr (inl refl)) in
        let kc = closed c (inr (inr refl)) in
        let fa = part-at facts count old new kept m h valid a la ka in
        let fb = part-at facts count old new kept m h valid b lb kb in
        rw (h.node a la ka, h.node b lb kb, fa, fb, same-test (m b) (m c) b c (part-apart old new kept m h b c lb lc kb kc) (λ e. ap m e))
        (form-renamed op m (node_at old a) (node_at old b) (entry_at facts old a) (entry_at facts old b) (eqb b c))
