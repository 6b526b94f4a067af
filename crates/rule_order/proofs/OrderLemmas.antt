-- Consequences of an order: the cells at its positions are distinct and are all cells with
-- definitions, and there is no cycle.
use Rattle.std.proofs.Common.{◌≡◌, ℕ, suc, ◌<◌, true, false, nat_eq, List, [], ◌∷◌, length, get_or, Some, None, refl, ap, sym, ◌∙◌, subst, inl, inr, ◌⊎◌, arith}
use mathlib.Core.Bool.{◌||◌}
use Rattle.std.specs.Option.{IsSomeAnd}
use Rattle.std.specs.List.{All}
use Rattle.micro_m.specs.declared.base.Base.{Base}
use Rattle.micro_m.specs.Bases.{is_among, AreDistinctCells, targets_of, target_at, term_at, definition_of, IsValidBase}
use Rattle.micro_m.specs.Reads.{TermReads, Reads, LeadsTo, HasNoCycle}
use Rattle.micro_m.proofs.NumberLemmas.{same, itself, cases, or-true, clash, among-map, among-at}
use Rattle.micro_m.proofs.PositionLemmas.{definition_of-target, definition_of-position, position-one}
use Rattle.micro_m.proofs.TurnLemmas.{option_cases}
use Rattle.rule_order.specs.Orders.{cells_at, ReadsEarlier, IsOrder}

pub All-tail : {X : Type 0} (P : X → Type 0) (x : X) (xs : List X) → All P (x ∷ xs) → All P xs
All-tail P x xs h = λ k d l. h (suc k) d (omega arith)

pub All-head : {X : Type 0} (P : X → Type 0) (x : X) (xs : List X) → All P (x ∷ xs) → P x
All-head P x xs h = h 0 x (omega arith)

-- a member of a list satisfies what all elements do
pub All-among : (P : ℕ → Type 0) (x : ℕ) (xs : List ℕ) → All P xs → is_among x xs ≡ true → P x
All-among P x [] h e = absurd (cc)
All-among P x (y ∷ ys) h e = cases (nat_eq x y)
    (λ (t : nat_eq x y ≡ true). subst P (sym (same x y t)) (All-head P y ys h))
    (λ (f : nat_eq x y ≡ false). All-among P x ys (All-tail P y ys h) (ap (λ b. b || is_among x ys) (sym f) ∙ e))

-- the cell at a member of a list of positions is a member of the cells at these positions
pub among-cells : (base : Base) (p : ℕ) (ps : List ℕ) → is_among p ps ≡ true → is_among (target_at base p) (cells_at base ps) ≡ true
among-cells base p [] h = absurd (cc)
among-cells base p (q ∷ qs) h = cases (nat_eq p q)
    (λ (t : nat_eq p q ≡ true).
    ap (λ b. b || is_among (target_at base p) (cells_at base qs))
    (subst (λ n. nat_eq (target_at base p) (target_at base n) ≡ true) (same p q t) (itself (target_at base p))))
    (λ (f : nat_eq p q ≡ false).
    or-true (nat_eq (target_at base p) (target_at base q)) (is_among (target_at base p) (cells_at base qs))
    (among-cells base p qs (ap (λ b. b || is_among p qs) (sym f) ∙ h)))

-- and conversely
pub cells-among : (base : Base) (c : ℕ) (ps : List ℕ) → is_among c (cells_at base ps) ≡ true → (p : ℕ) × (is_among p ps ≡ true) × (target_at base p ≡ c)
cells-among base c ps h =
    let k = among-map (target_at base) c ps h in
    (get_or ps k.0 0, among-at ps k.0 k.1, k.2 0)

-- the cells at distinct positions are distinct
pub cells-distinct : (base : Base) (ps : List ℕ) → AreDistinctCells (targets_of base) → All (λ p. p < length base.definitions) ps → AreDistinctCells ps
    → AreDistinctCells (cells_at base ps)
cells-distinct base [] once within d = tt
cells-distinct base (p ∷ ps) once within d = (
  cases (is_among (target_at base p) (cells_at base ps))
      (λ (t : is_among (target_at base p) (cells_at base ps) ≡ true).
      let q = cells-among base (target_at base p) ps t in
      let is : q.0 ≡ p = position-one base q.0 p once
      (All-among (λ n. n < length base.definitions) q.0 ps (All-tail (λ n. n < length base.definitions) p ps within) q.1)
      (All-head (λ n. n < length base.definitions) p ps within) q.2 in
      absurd (clash (subst (λ n. is_among n ps ≡ true) is q.1) d.0))
      (λ (f : is_among (target_at base p) (cells_at base ps) ≡ false). f),
  cells-distinct base ps once (All-tail (λ n. n < length base.definitions) p ps within) d.1,
)

-- a cell that reads another is at one of the positions of an order
reads-ordered : (base : Base) (sequence : List ℕ) (x y : ℕ) → IsOrder base sequence → Reads base x y → is_among x (cells_at base sequence) ≡ true
reads-ordered base sequence x y order r =
    option_cases (definition_of base x)
    (λ (n : definition_of base x ≡ None). absurd (subst (λ o. IsSomeAnd o (λ t. TermReads t y)) n r))
    (λ t (s : definition_of base x ≡ Some t).
    let p = definition_of-position base x t s in
    subst (λ c. is_among c (cells_at base sequence) ≡ true) p.2 (among-cells base p.0 sequence (order.every p.0 p.1)))

-- each cell of a cycle reads a cell of the cycle
ring-reads : (base : Base) (x : ℕ) (xs : List ℕ) (last c : ℕ) → LeadsTo (Reads base) x xs last → is_among c (x ∷ xs) ≡ true
    → (d : ℕ) × Reads base c d × ((is_among d xs ≡ true) ⊎ (d ≡ last))
ring-reads base x [] last c leads h = cases (nat_eq c x)
    (λ (t : nat_eq c x ≡ true). (last, subst (λ n. Reads base n last) (sym (same c x t)) leads, inr refl))
    (λ (f : nat_eq c x ≡ false). absurd (clash h (ap (λ b. b || false) f)))
ring-reads base x (y ∷ ys) last c leads h = cases (nat_eq c x)
    (λ (t : nat_eq c x ≡ true). (y, subst (λ n. Reads base n y) (sym (same c x t)) leads.0, inl (ap (λ b. b || is_among y ys) (itself y))))
    (λ (f : nat_eq c x ≡ false).
    let k = ring-reads base y ys last c leads.1 (ap (λ b. b || is_among c (y ∷ ys)) (sym f) ∙ h) in
    (k.0, k.1, elim k.2 [ inl t ↦ inl (or-true (nat_eq k.0 y) (is_among k.0 ys) t) | inr e ↦ inr e ]))

-- a cycle can't be among cells each of which reads only earlier ones: its first cell would read a
-- later one
no-ring : (base : Base) (x : ℕ) (xs ps : List ℕ) → LeadsTo (Reads base) x xs x → AreDistinctCells (targets_of base) → All (λ p. p < length base.definitions) ps
    → ReadsEarlier base ps → ((c : ℕ) → is_among c (x ∷ xs) ≡ true → is_among c (cells_at base ps) ≡ true) → ⊥
no-ring base x xs [] leads once within earlier all = clash (all x (ap (λ b. b || is_among x xs) (itself x))) refl
no-ring base x xs (p ∷ ps) leads once within earlier all =
    let t : ℕ = target_at base p in
    cases (is_among t (x ∷ xs))
    (λ (here : is_among t (x ∷ xs) ≡ true).
    let k = ring-reads base x xs x t leads here in
    let reads : TermReads (term_at base p) k.0 = subst (λ o. IsSomeAnd o (λ u. TermReads u k.0))
    (definition_of-target base p once (All-head (λ n. n < length base.definitions) p ps within)) k.1 in
    let ring : is_among k.0 (x ∷ xs) ≡ true = elim k.2 [
      | inl i ↦ or-true (nat_eq k.0 x) (is_among k.0 xs) i
      | inr e ↦ subst (λ n. is_among n (x ∷ xs) ≡ true)
          (sym e) (ap (λ b. b || is_among x xs) (itself x))
    ] in
    clash (all k.0 ring) (earlier.0 k.0 reads))
    (λ (away : is_among t (x ∷ xs) ≡ false).
    no-ring base x xs ps leads once (All-tail (λ n. n < length base.definitions) p ps within) earlier.1
    (λ c h. cases (nat_eq c t)
    (λ (e : nat_eq c t ≡ true). absurd (clash (subst (λ n. is_among n (x ∷ xs) ≡ true) (same c t e) h) away))
    (λ (f : nat_eq c t ≡ false). ap (λ b. b || is_among c (cells_at base ps)) (sym f) ∙ all c h)))

pub ordered-free : (base : Base) (sequence : List ℕ) → IsValidBase base → IsOrder base sequence → HasNoCycle base
ordered-free base sequence valid order [] cycle = cycle
ordered-free base sequence valid order (x ∷ xs) cycle =
    no-ring base x xs sequence cycle.1 valid.defined_once order.within order.earlier
    (λ c h. let k = ring-reads base x xs x c cycle.1 h in reads-ordered base sequence c k.0 order k.1)
