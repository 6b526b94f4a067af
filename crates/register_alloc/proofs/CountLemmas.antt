-- Counting: distinct numbers below n that pass a test are no more than those below n that pass.
use Rattle.std.proofs.Common.{◌≡◌, ◌≢◌, ℕ, zero, suc, ◌+◌, ◌<◌, ◌≤◌, Bool, true, false, eqb, Option, Some, refl, ap, ◌∙◌, ⊎_elim, arith, length}
use mathlib.Core.Bool.{not, ◌&&◌}
use Rattle.std.proofs.lemmas.Bool.{cases_eq, ne_eqb, eq-eqb, and_right, not_from_true}
use Rattle.flat_code.specs.declared.program.Flat.{Flat}
use Rattle.register_alloc.specs.Width.{one_if, count_below, is_held, width_below, width_of}

-- a test without one number
abbrev pub without : (ℕ → Bool) → ℕ → ℕ → Bool
without p y x = p x && not (eqb x y)

without-at : (p : ℕ → Bool) (y : ℕ) → without p y y ≡ false
without-at p y = and_right (p y) (not (eqb y y)) (not_from_true (eqb y y) (eq-eqb y y refl))

and-true : (b : Bool) → (b && true) ≡ b
and-true true = refl
and-true false = refl

without-other : (p : ℕ → Bool) (y x : ℕ) → x ≢ y → without p y x ≡ p x
without-other p y x ne = ap (λ b. p x && not b) (ne_eqb x y ne) ∙ and-true (p x)

without-none : (p : ℕ → Bool) (y n : ℕ) → n ≤ y → count_below (without p y) n ≡ count_below p n
without-none p y zero le = refl
without-none p y (suc n) le =
    let ne : n ≢ y = λ e. absurd (omega arith) in
    let same : one_if (without p y n) ≡ one_if (p n) = ap one_if (without-other p y n ne) in
    let rest : count_below (without p y) n ≡ count_below p n = without-none p y n (omega arith) in
    omega arith

-- without a number below n that passes, one fewer passes
pub without-one : (p : ℕ → Bool) (y n : ℕ) → p y ≡ true → y < n → suc (count_below (without p y) n) ≡ count_below p n
without-one p y zero passes lt = absurd (omega arith)
without-one p y (suc n) passes lt =
    ⊎_elim
    (λ (e : n ≡ y).
    let here : one_if (without p y n) ≡ 0 = ap one_if (ap (without p y) e ∙ without-at p y) in
    let there : one_if (p n) ≡ 1 = ap one_if (ap p e ∙ passes) in
    let rest : count_below (without p y) n ≡ count_below p n = without-none p y n (omega arith) in
    omega arith)
    (λ (ne : n ≢ y).
    let same : one_if (without p y n) ≡ one_if (p n) = ap one_if (without-other p y n ne) in
    let lt' : y < n = omega arith in
    let rest : suc (count_below (without p y) n) ≡ count_below p n = without-one p y n passes lt' in
    omega arith)
    (cases_eq n y)

-- the first m entries of a table are numbers below n that pass
abbrev pub Fills : (ℕ → Option ℕ) → (ℕ → Bool) → ℕ → ℕ → Type 0
Fills f p m n = (k : ℕ) → k < m → (x : ℕ) × (f k ≡ Some x) × (p x ≡ true) × (x < n)

-- no number occurs twice in a table
abbrev pub AreApart : (ℕ → Option ℕ) → Type 0
AreApart f = (i j x : ℕ) → f i ≡ Some x → f j ≡ Some x → i ≡ j

fills-without : (f : ℕ → Option ℕ) (p : ℕ → Bool) (m n y : ℕ) → Fills f p m n → ((k : ℕ) → k < m → f k ≡ Some y → ⊥) → Fills f (without p y) m n
fills-without f p m n y each away = λ k lt.
    let g = each k lt in
    let ne : g.0 ≢ y = λ e. away k lt (g.1 ∙ ap (λ (x : ℕ). Some x) e) in
    (g.0, g.1, without-other p y g.0 ne ∙ g.2, g.3)

-- distinct numbers below n that pass are no more than those below n that pass
pub places : (f : ℕ → Option ℕ) (p : ℕ → Bool) (m n : ℕ) → AreApart f → Fills f p m n → m ≤ count_below p n
places f p zero n apart each = omega arith
places f p (suc m) n apart each =
    let h = each m (omega arith) in
    let before : Fills f p m n = λ k lt. each k (omega arith) in
    let away : (k : ℕ) → k < m → f k ≡ Some h.0 → ⊥ = λ k lt e. let same : k ≡ m = apart k m h.0 e h.1 in absurd (omega arith) in
    let rest : m ≤ count_below (without p h.0) n = places f (without p h.0) m n apart (fills-without f p m n h.0 before away) in
    omega (arith, without-one p h.0 n h.2 h.3)

-- and with one more number that passes and isn't in the table
pub places-and : (f : ℕ → Option ℕ) (p : ℕ → Bool) (m n y : ℕ) → AreApart f → Fills f p m n → p y ≡ true → y < n → ((k : ℕ) → k < m → f k ≡ Some y → ⊥)
    → m < count_below p n
places-and f p m n y apart each passes lt away =
    let rest : m ≤ count_below (without p y) n = places f (without p y) m n apart (fills-without f p m n y each away) in
    omega (arith, without-one p y n passes lt)

below-width : (flat : Flat) (q n : ℕ) → q < n → count_below (is_held flat q) (length flat.nodes) ≤ width_below flat n
below-width flat q zero lt = absurd (omega arith)
below-width flat q (suc n) lt =
    ⊎_elim
    (λ (e : n ≡ q).
    let same : count_below (is_held flat n) (length flat.nodes) ≡ count_below (is_held flat q) (length flat.nodes) = ap
    (λ p. count_below (is_held flat p) (length flat.nodes)) e in
    omega arith)
    (λ (ne : n ≢ q).
    let lt' : q < n = omega arith in
    let rest : count_below (is_held flat q) (length flat.nodes) ≤ width_below flat n = below-width flat q n lt' in
    omega arith)
    (cases_eq n q)

-- the nodes held at a node are no more than the width
pub held-width : (flat : Flat) (q : ℕ) → q < length flat.nodes → count_below (is_held flat q) (length flat.nodes) ≤ width_of flat
held-width flat q lt = below-width flat q (length flat.nodes) lt

count-least : (test : ℕ → Bool) (n : ℕ) → count_below test n ≤ n
count-least test zero = omega arith
count-least test (suc n) = one (test n) (count-least test n)
  where
    one : (b : Bool) → count_below test n ≤ n → one_if b + count_below test n ≤ suc n
    one true le = omega arith
    one false le = omega arith

width-least : (flat : Flat) (n : ℕ) → width_below flat n ≤ length flat.nodes
width-least flat zero = omega arith
width-least flat (suc n) = omega (arith, count-least (is_held flat n) (length flat.nodes), width-least flat n)

-- the width is at most the number of nodes
pub width-nodes : (flat : Flat) → width_of flat ≤ length flat.nodes
width-nodes flat = width-least flat (length flat.nodes)
