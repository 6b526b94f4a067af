-- The cells of an ordered base from the last of the order on: each once, and before all that it reads.
use Rattle.std.proofs.Common.{◌≡◌, ℕ, zero, suc, ◌<◌, Bool, true, false, nat_eq, List, [], ◌∷◌, length, get_or, cond, None, Some, refl, ap, sym, ◌∙◌, subst}
use Rattle.std.proofs.Common.{inl, inr, arith}
use mathlib.Core.Bool.{◌||◌}
use Rattle.std.specs.Prelude.{is_some}
use Rattle.std.specs.List.{All}
use Rattle.std.specs.Option.{IsSomeAnd}
use Rattle.std.proofs.lemmas.Bool.{cases_eq}
use Rattle.std.proofs.lemmas.Map.Steps.{length-le_from_distinct_below, le-length_from_below}
use Rattle.micro_m.specs.Trees.{Tree}
use Rattle.micro_m.specs.declared.base.Base.{Base}
use Rattle.micro_m.specs.Bases.{is_among, AreDistinctCells, target_at, term_at, definition_of, IsValidBase}
use Rattle.micro_m.specs.Reads.{TermReads, Reads}
use Rattle.micro_m.proofs.NumberLemmas.{same, itself, cases, or-false, or-true, clash, distinct}
use Rattle.micro_m.proofs.PositionLemmas.{definition_of-target, definition_of-position, target-within}
use Rattle.micro_m.proofs.TurnLemmas.{option_cases}
use Rattle.rule_order.specs.declared.ordered.Ordered.{Ordered}
use Rattle.rule_order.specs.Orders.{cells_at, ReadsEarlier, IsOrder}
use Rattle.rule_order.proofs.OrderLemmas.{All-head, All-tail, All-among, among-cells, cells-among, cells-distinct}
use Rattle.why_report.specs.Reasons.{bare_below, targets_down, cells_down}
use Rattle.why_report.proofs.ReadLemmas.{or-left, or-either, Reads-within}

-- each cell once, and before all that it reads
abbrev pub IsDown : Base → List ℕ → Type 0
IsDown base [] = Unit {0}
IsDown base (x ∷ xs) = (is_among x xs ≡ false) × ((c : ℕ) → Reads base x c → is_among c xs ≡ true) × IsDown base xs

pub down-distinct : (base : Base) (xs : List ℕ) → IsDown base xs → AreDistinctCells xs
down-distinct base [] d = tt
down-distinct base (x ∷ xs) d = (d.0, down-distinct base xs d.2)

-- a number that differs from all of a list isn't among them
pub not-true : (b : Bool) → (b ≡ true → ⊥) → b ≡ false
not-true true f = absurd (f refl)
not-true false f = refl

none-some : {t : Tree} → None ≡ Some t → ⊥
none-some e = cc

-- ---- cells without definitions

bare-once : (base : Base) (n c : ℕ) → is_among c (bare_below base n) ≡ true → (c < n) × (definition_of base c ≡ None)
bare-once base zero c h = absurd (cc)
bare-once base (suc n) c h = option_cases (definition_of base n)
    (λ (none : definition_of base n ≡ None).
    let at : is_among c (n ∷ bare_below base n) ≡ true = sym (ap (λ o. is_among c (cond (is_some o) (bare_below base n) (n ∷ bare_below base n))) none) ∙ h in
    elim (or-either (nat_eq c n) (is_among c (bare_below base n)) at) [
      | inl t ↦ let e = same c n t in (omega arith, ap (definition_of base) e ∙ none)
      | inr k ↦ let r = bare-once base n c k in (omega (arith, r.0), r.1)
    ])
    (λ t (some : definition_of base n ≡ Some t).
    let r = bare-once base n c (sym (ap (λ o. is_among c (cond (is_some o) (bare_below base n) (n ∷ bare_below base n))) some) ∙ h) in
    (omega (arith, r.0), r.1))

bare-all : (base : Base) (n c : ℕ) → c < n → definition_of base c ≡ None → is_among c (bare_below base n) ≡ true
bare-all base zero c low none = absurd (omega arith)
bare-all base (suc n) c low none = elim (cases_eq c n) [
  | inl e ↦ ap (λ o. is_among c (cond (is_some o) (bare_below base n) (n ∷ bare_below base n))) (ap (definition_of base) (sym e) ∙ none)
      ∙ or-left (nat_eq c n) (is_among c (bare_below base n)) (ap (λ m. nat_eq m n) e ∙ itself n)
  | inr other ↦ option_cases (definition_of base n)
      (λ (bare : definition_of base n ≡ None).
      ap (λ o. is_among c (cond (is_some o) (bare_below base n) (n ∷ bare_below base n))) bare
      ∙ or-true (nat_eq c n) (is_among c (bare_below base n)) (bare-all base n c (less other) none))
      (λ t (some : definition_of base n ≡ Some t).
      ap (λ o. is_among c (cond (is_some o) (bare_below base n) (n ∷ bare_below base n))) some
      ∙ bare-all base n c (less other) none)
]
  where
    less : (c ≡ n → ⊥) → c < n
    less other = omega arith

bare-down : (base : Base) (n : ℕ) → IsDown base (bare_below base n)
bare-down base zero = tt
bare-down base (suc n) = option_cases (definition_of base n)
    (λ (none : definition_of base n ≡ None).
    subst (λ o. IsDown base (cond (is_some o) (bare_below base n) (n ∷ bare_below base n))) (sym none) (
      not-true (is_among n (bare_below base n)) (λ t. let k = bare-once base n n t in absurd (omega arith)),
      λ c r. absurd (subst (λ o. IsSomeAnd o (λ t. TermReads t c)) none r),
      bare-down base n,
    ))
    (λ t (some : definition_of base n ≡ Some t).
    subst (λ o. IsDown base (cond (is_some o) (bare_below base n) (n ∷ bare_below base n))) (sym some) (bare-down base n))

-- ---- all cells

-- all cells except those defined at these positions
pub record AreLeft (base : Base) (ps cells : List ℕ) : Type 0 where
  pub covers : (c : ℕ) → c < base.cells → is_among c (cells_at base ps) ≡ false → is_among c cells ≡ true
  pub apart : (c : ℕ) → is_among c cells ≡ true → is_among c (cells_at base ps) ≡ false
  pub within : (c : ℕ) → is_among c cells ≡ true → c < base.cells
  pub down : IsDown base cells

left-first : (base : Base) (sequence : List ℕ) → IsValidBase base → IsOrder base sequence → AreLeft base sequence (bare_below base base.cells)
left-first base sequence valid order = record {
  covers = λ c low away. bare-all base base.cells c low (option_cases (definition_of base c)
      (λ (none : definition_of base c ≡ None). none)
      (λ t (some : definition_of base c ≡ Some t).
      let p = definition_of-position base c t some in
      absurd (clash (subst (λ n. is_among n (cells_at base sequence) ≡ true) p.2 (among-cells base p.0 sequence (order.every p.0 p.1))) away)));
  apart = λ c h. not-true (is_among c (cells_at base sequence)) (λ t.
      let p = cells-among base c sequence t in
      let low : p.0 < length base.definitions = All-among (λ q. q < length base.definitions) p.0 sequence order.within p.1 in
      none-some (sym (bare-once base base.cells c h).1 ∙ ap (definition_of base) (sym p.2) ∙ definition_of-target base p.0 valid.defined_once low));
  within = λ c h. (bare-once base base.cells c h).0;
  down = bare-down base base.cells;
}

left-next : (base : Base) (p : ℕ) (ps cells : List ℕ) → IsValidBase base → p < length base.definitions → ReadsEarlier base (p ∷ ps)
    → is_among (target_at base p) (cells_at base ps) ≡ false → AreLeft base (p ∷ ps) cells → AreLeft base ps (target_at base p ∷ cells)
left-next base p ps cells valid low earlier once left =
    let t : ℕ = target_at base p in
    let is : definition_of base t ≡ Some (term_at base p) = definition_of-target base p valid.defined_once low in
    record {
      covers = λ c small away. cases (nat_eq c t)
          (λ (y : nat_eq c t ≡ true). or-left (nat_eq c t) (is_among c cells) y)
          (λ (n : nat_eq c t ≡ false). or-true (nat_eq c t) (is_among c cells) (left.covers c small (ap (λ b. b || is_among c (cells_at base ps)) n ∙ away)));
      apart = λ c h. elim (or-either (nat_eq c t) (is_among c cells) h) [
        | inl y ↦ subst (λ n. is_among n (cells_at base ps) ≡ false) (sym (same c t y)) once
        | inr k ↦ (or-false (nat_eq c t) (is_among c (cells_at base ps)) (left.apart c k)).1
      ];
      within = λ c h. elim (or-either (nat_eq c t) (is_among c cells) h) [
        | inl y ↦ subst (λ n. n < base.cells) (sym (same c t y)) (target-within base p valid low)
        | inr k ↦ left.within c k
      ];
      down = (
        not-true (is_among t cells) (λ y. clash (itself t) (or-false (nat_eq t t) (is_among t (cells_at base ps)) (left.apart t y)).0),
        λ c r. left.covers c (Reads-within base t c valid r) (earlier.0 c (subst (λ o. IsSomeAnd o (λ u. TermReads u c)) is r)),
        left.down,
      );
    }

left-all : (base : Base) (ps cells : List ℕ) → IsValidBase base → All (λ p. p < length base.definitions) ps → ReadsEarlier base ps
    → AreDistinctCells (cells_at base ps) → AreLeft base ps cells → AreLeft base [] (targets_down base ps cells)
left-all base [] cells valid within earlier once left = left
left-all base (p ∷ ps) cells valid within earlier once left =
    left-all base ps (target_at base p ∷ cells) valid (All-tail (λ q. q < length base.definitions) p ps within) earlier.1 once.1
    (left-next base p ps cells valid (All-head (λ q. q < length base.definitions) p ps within) earlier once.0 left)

pub all-left : (ordered : Ordered) → IsValidBase ordered.base → IsOrder ordered.base ordered.sequence → AreLeft ordered.base [] (cells_down ordered)
all-left ordered valid order =
    left-all ordered.base ordered.sequence (bare_below ordered.base ordered.base.cells) valid order.within order.earlier
    (cells-distinct ordered.base ordered.sequence valid.defined_once order.within order.once)
    (left-first ordered.base ordered.sequence valid order)

-- ---- the count of cells

pub down-length : (ordered : Ordered) → IsValidBase ordered.base → IsOrder ordered.base ordered.sequence → length (cells_down ordered) ≡ ordered.base.cells
down-length ordered valid order =
    let left = all-left ordered valid order in
    let few = length-le_from_distinct_below (cells_down ordered) ordered.base.cells
    (distinct (cells_down ordered) (down-distinct ordered.base (cells_down ordered) left.down)) (λ q h. left.within q h) in
    let many = le-length_from_below (cells_down ordered) ordered.base.cells (λ q low. left.covers q low refl) in
    omega arith

pub down-all : (ordered : Ordered) → IsValidBase ordered.base → IsOrder ordered.base ordered.sequence → All (λ c. c < ordered.base.cells) (cells_down ordered)
down-all ordered valid order k d low = (all-left ordered valid order).within (get_or (cells_down ordered) k d) (at (cells_down ordered) k d low)
  where
    at : (xs : List ℕ) (i d : ℕ) → i < length xs → is_among (get_or xs i d) xs ≡ true
    at [] i d h = absurd (omega arith)
    at (x ∷ xs) zero d h = or-left (nat_eq x x) (is_among x xs) (itself x)
    at (x ∷ xs) (suc i) d h = or-true (nat_eq (get_or xs i d) x) (is_among (get_or xs i d) xs) (at xs i d (omega arith))
