-- The lists of a plan, as they are built.
use Rattle.std.proofs.Common.{◌≡◌, ℕ, zero, suc, ◌+◌, ◌<◌, cond, List, [], ◌∷◌, ◌++◌, length, get_or, set, drop, refl, ap, sym, ◌∙◌, subst, inl, inr, arith}
use Rattle.std.specs.Prelude.{is_some}
use Rattle.std.proofs.Math.Seq.{drop-cons}
use Rattle.std.proofs.lemmas.Bool.{cases_eq}
use Rattle.std.proofs.lemmas.List.{length-set, get_or-set_same, get_or-set_other}
use Rattle.std.specs.List.{All}
use Rattle.micro_m.specs.declared.base.Base.{Base}
use Rattle.micro_m.specs.Bases.{AreDistinctCells, target_at, IsValidBase}
use Rattle.micro_m.proofs.NumberLemmas.{place-one, place-among}
use Rattle.rule_order.specs.declared.ordered.Ordered.{Ordered}
use Rattle.rule_order.specs.Orders.{IsOrder}
use Rattle.why_report.specs.declared.plan.Plan.{Plan}
use Rattle.why_report.specs.Reasons.{bare_below, targets_down, cells_down}
use Rattle.why_report.specs.inner.Checked.{IsPlaceOf}
use Rattle.why_report.specs.inner.Plans.{IsPlanOf, AreSpots}
use Rattle.why_report.proofs.DownLemmas.{all-left, down-length}

append-assoc : (xs ys zs : List ℕ) → (xs ++ ys) ++ zs ≡ xs ++ (ys ++ zs)
append-assoc [] ys zs = refl
append-assoc (x ∷ xs) ys zs = ap (λ (ws : List ℕ). x ∷ ws) (append-assoc xs ys zs)

-- ---- cells with definitions

pub targets-append : (base : Base) (ps further : List ℕ) → targets_down base ps further ≡ targets_down base ps [] ++ further
targets-append base [] further = refl
targets-append base (p ∷ later) further =
    targets-append base later (target_at base p ∷ further)
    ∙ sym (append-assoc (targets_down base later []) (target_at base p ∷ []) further)
    ∙ ap (λ (xs : List ℕ). xs ++ further) (sym (targets-append base later (target_at base p ∷ [])))

-- one more position, from the last to the first
pub targets-turn : (base : Base) (sequence cells : List ℕ) (k c : ℕ) → k < length sequence → c ≡ target_at base (get_or sequence k 0)
    → cells ≡ targets_down base (drop (k + 1) sequence) [] → cells ++ c ∷ [] ≡ targets_down base (drop k sequence) []
targets-turn base sequence cells k c low is so_far =
    let one : suc k ≡ k + 1 = omega arith in
    ap (λ (xs : List ℕ). xs ++ c ∷ []) so_far
    ∙ ap (λ n. targets_down base (drop (k + 1) sequence) [] ++ n ∷ []) is
    ∙ sym (targets-append base (drop (k + 1) sequence) (target_at base (get_or sequence k 0) ∷ []))
    ∙ ap (λ n. targets_down base (drop n sequence) (target_at base (get_or sequence k 0) ∷ [])) (sym one)
    ∙ sym (ap (λ (ps : List ℕ). targets_down base ps []) (drop-cons sequence k 0 low))

-- ---- cells without

pub bare-has : (base : Base) (n place : ℕ) → IsPlaceOf base n place → place ≡ 0 → bare_below base (suc n) ≡ n ∷ bare_below base n
bare-has base n zero is e = ap (λ o. cond (is_some o) (bare_below base n) (n ∷ bare_below base n)) is
bare-has base n (suc p) is e = absurd (omega arith)

pub bare-not : (base : Base) (n place : ℕ) → IsPlaceOf base n place → (place ≡ 0 → ⊥) → bare_below base (suc n) ≡ bare_below base n
bare-not base n zero is e = absurd (e refl)
bare-not base n (suc p) is e = ap (λ o. cond (is_some o) (bare_below base n) (n ∷ bare_below base n)) is.1

-- the cells appended and those left are all
pub bare-added : (base : Base) (cells whole : List ℕ) (n place : ℕ) → IsPlaceOf base n place → place ≡ 0 → cells ++ bare_below base (suc n) ≡ whole
    → (cells ++ n ∷ []) ++ bare_below base n ≡ whole
bare-added base cells whole n place is e so_far = append-assoc cells (n ∷ []) (bare_below base n)
    ∙ ap (λ (xs : List ℕ). cells ++ xs) (sym (bare-has base n place is e)) ∙ so_far

pub bare-passed : (base : Base) (cells whole : List ℕ) (n place : ℕ) → IsPlaceOf base n place → (place ≡ 0 → ⊥) → cells ++ bare_below base (suc n) ≡ whole
    → cells ++ bare_below base n ≡ whole
bare-passed base cells whole n place is e so_far = ap (λ (xs : List ℕ). cells ++ xs) (sym (bare-not base n place is e)) ∙ so_far

-- ---- spots

-- the spots of the first cells are entered
pub record AreSpotsSoFar (cells spots : List ℕ) (count i : ℕ) : Type 0 where
  pub size : length spots ≡ count
  pub each : (s : ℕ) → s < i → get_or spots (get_or cells s 0) 0 ≡ s

pub spots-none : (cells spots : List ℕ) (count : ℕ) → length spots ≡ count → AreSpotsSoFar cells spots count 0
spots-none cells spots count size = record { size = size; each = λ s h. absurd (omega arith) }

pub spots-next : (cells spots : List ℕ) (count i c : ℕ) → AreDistinctCells cells → All (λ x. x < count) cells → i < length cells → c ≡ get_or cells i 0
    → AreSpotsSoFar cells spots count i → AreSpotsSoFar cells (set spots c i) count (i + 1)
spots-next cells spots count i c once within low is so_far = record {
  size = length-set spots c i ∙ so_far.size;
  each = λ s h. elim (cases_eq s i) [
    | inl e ↦ ap (λ n. get_or (set spots c i) (get_or cells n 0) 0) e ∙ ap (λ n. get_or (set spots c i) n 0) (sym is)
        ∙ get_or-set_same spots c i 0 (subst (λ n. n < length spots) (sym is) (let w = within i 0 low in let z = so_far.size in omega arith)) ∙ sym e
    | inr n ↦ get_or-set_other spots c (get_or cells s 0) i 0
        (λ e. n (place-one cells s i once (omega (arith, less s h n)) low (e ∙ is)))
        ∙ so_far.each s (less s h n)
  ];
}
  where
    less : (s : ℕ) → s < i + 1 → (s ≡ i → ⊥) → s < i
    less s h n = omega arith

-- ---- the spots of a plan

pub spot-below : (ordered : Ordered) (plan : Plan) (c : ℕ) → IsValidBase ordered.base → IsOrder ordered.base ordered.sequence → IsPlanOf ordered plan
    → c < ordered.base.cells → (s : ℕ) × (s < ordered.base.cells) × (get_or plan.cells.items s 0 ≡ c) × (get_or plan.spots.items c 0 ≡ s)
spot-below ordered plan c valid order is low =
    let there = (all-left ordered valid order).covers c low refl in
    let at = place-among c (cells_down ordered) there in
    let long = down-length ordered valid order in
    let within = at.1 in
    let here : get_or plan.cells.items at.0 0 ≡ c = ap (λ (xs : List ℕ). get_or xs at.0 0) is.cells ∙ at.2 in
    let small : at.0 < length plan.cells.items = omega (arith, ap length is.cells) in
    (at.0, omega arith, here, ap (λ n. get_or plan.spots.items n 0) (sym here) ∙ is.spots at.0 small)

pub plan-spots : (ordered : Ordered) (plan : Plan) → IsValidBase ordered.base → IsOrder ordered.base ordered.sequence → IsPlanOf ordered plan
    → AreSpots plan.spots.items ordered.base.cells
plan-spots ordered plan valid order is = record {
  within = λ c low.
      let k = spot-below ordered plan c valid order is (omega (arith, is.size)) in
      subst (λ n. n < ordered.base.cells) (sym k.3) k.1;
  one = λ c d low high e.
      let a = spot-below ordered plan c valid order is (omega (arith, is.size)) in
      let b = spot-below ordered plan d valid order is (omega (arith, is.size)) in
      sym a.2 ∙ ap (λ n. get_or plan.cells.items n 0) (sym a.3 ∙ e ∙ b.3) ∙ b.2;
}
