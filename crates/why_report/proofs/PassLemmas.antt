-- The loop that finds the needed cells by their marks.
use Rattle.std.proofs.Common.{◌≡◌, ℕ, zero, suc, ◌+◌, ◌-◌, ◌<◌, ◌≤◌, Bool, true, false, nat_eq, List, [], ◌∷◌, length, get_or, set, take, drop, replicate, refl}
use Rattle.std.proofs.Common.{ap, sym, ◌∙◌, subst, inl, inr, arith}
use mathlib.Core.Bool.{◌||◌}
use Rattle.std.proofs.Math.Seq.{drop-cons}
use Rattle.std.proofs.lemmas.Bool.{cases_eq, cases_lt}
use Rattle.std.proofs.lemmas.List.{length-set, drop_all, drop-set, get_or_default, get_or-set_other, take_all, length-drop}
use Rattle.dirty_set.specs.Members.{is_member, IsNext}
use Rattle.micro_m.specs.declared.base.Base.{Base}
use Rattle.micro_m.specs.Bases.{is_among, IsValidBase}
use Rattle.micro_m.proofs.NumberLemmas.{same, clash}
use Rattle.rule_order.specs.declared.ordered.Ordered.{Ordered}
use Rattle.rule_order.specs.Orders.{IsOrder}
use Rattle.why_report.specs.declared.plan.Plan.{Plan}
use Rattle.why_report.specs.Reasons.{cell_reads, cells_down, is_needed, needed_along, needed_cells}
use Rattle.why_report.specs.inner.Plans.{is_marked, AreSpots, IsMarking, IsPlanOf, Marks}
use Rattle.why_report.proofs.ReadLemmas.{or-none, or-swap, or-either}
use Rattle.why_report.proofs.DownLemmas.{down-all, down-length}
use Rattle.why_report.proofs.ReasonLemmas.{any_reads, along-taken, along-passed, needed-closed}
use Rattle.why_report.proofs.PlanLemmas.{plan-spots}
use Rattle.why_report.proofs.MarkLemmas.{spots-more}

-- The loop invariant: the cells found so far, the marks, and that the remaining turns add the rest.
pub record IsPass (ordered : Ordered) (c : ℕ) (plan : Plan) (marked : List Bool) (known needed : List ℕ) (from at : ℕ) : Type 0 where
  pub marking : IsMarking plan.spots.items marked known
  pub size : length marked ≡ ordered.base.cells
  pub needed_size : length needed ≡ ordered.base.cells
  pub marks : (d : ℕ) → d < ordered.base.cells → is_marked plan.spots.items marked d ≡ is_needed ordered.base c (drop at needed) d
  pub rest : needed_along ordered.base c (drop at needed) (drop from (cells_down ordered)) ≡ needed_cells ordered c
  pub room : ordered.base.cells ≤ at + from
  pub behind : at ≤ ordered.base.cells
  pub before : from ≤ ordered.base.cells

false-all : (n c : ℕ) → is_member (replicate n false) c ≡ false
false-all zero c = refl
false-all (suc n) zero = refl
false-all (suc n) (suc c) = false-all n c

replicate-long : (n : ℕ) → length (replicate n false) ≡ n
replicate-long zero = refl
replicate-long (suc n) = ap suc (replicate-long n)

pub empty-spots : (ordered : Ordered) (plan : Plan) (marked : List Bool) → IsValidBase ordered.base → IsOrder ordered.base ordered.sequence
    → IsPlanOf ordered plan → marked ≡ replicate ordered.base.cells false → AreSpots plan.spots.items (length marked)
empty-spots ordered plan marked valid order is none =
    spots-more plan.spots.items ordered.base.cells (length marked) (sym (ap length none ∙ replicate-long ordered.base.cells))
    (plan-spots ordered plan valid order is)

pub pass-first : (ordered : Ordered) (c : ℕ) (plan : Plan) (none marked : List Bool) (known needed : List ℕ) (n : ℕ) → IsValidBase ordered.base
    → IsOrder ordered.base ordered.sequence → IsPlanOf ordered plan → none ≡ replicate ordered.base.cells false → length known ≡ ordered.base.cells
    → ((d : ℕ) → get_or known d 0 ≡ 0) → length needed ≡ ordered.base.cells → n ≡ length needed → Marks plan.spots.items none marked (λ d. nat_eq d c)
    → IsPass ordered c plan marked known needed 0 n
pass-first ordered c plan none marked known needed n valid order is empty known_size zeros needed_size last marks =
    let size : length marked ≡ ordered.base.cells = marks.size ∙ ap length empty ∙ replicate-long ordered.base.cells in
    let all : drop n needed ≡ [] = drop_all n needed (omega arith) in
    record {
      marking = record {
        are_spots = spots-more plan.spots.items (length none) (length marked) (sym marks.size) (empty-spots ordered plan none valid order is empty);
        size = known_size ∙ sym is.size;
        knows = λ first d low from below. let z = zeros first in absurd (omega arith);
      };
      size = size;
      needed_size = needed_size;
      marks = λ d low. marks.each d (omega (arith, is.size))
          ∙ ap (λ b. b || nat_eq d c) (ap (λ (xs : List Bool). is_member xs (get_or plan.spots.items d 0)) empty
          ∙ false-all ordered.base.cells (get_or plan.spots.items d 0))
          ∙ sym (or-none (nat_eq d c))
          ∙ ap (λ (xs : List ℕ). is_needed ordered.base c xs d) (sym all);
      rest = ap (λ (xs : List ℕ). needed_along ordered.base c xs (cells_down ordered)) all;
      room = omega arith;
      behind = omega arith;
      before = omega arith;
    }

-- cells that aren't needed add nothing
skip : (base : Base) (c : ℕ) (later cells : List ℕ) (gap from : ℕ) → gap + from ≤ length cells
    → ((i : ℕ) → from ≤ i → i < gap + from → is_needed base c later (get_or cells i 0) ≡ false)
    → needed_along base c later (drop from cells) ≡ needed_along base c later (drop (gap + from) cells)
skip base c later cells zero from low none =
    let is : from ≡ 0 + from = omega arith in
    ap (λ n. needed_along base c later (drop n cells)) is
skip base c later cells (suc gap) from low none =
    let is : gap + suc from ≡ suc gap + from = omega arith in
    ap (needed_along base c later) (drop-cons cells from 0 (omega arith))
    ∙ along-passed base c (get_or cells from 0) later (drop (suc from) cells) (none from (omega arith) (omega arith))
    ∙ skip base c later cells gap (suc from) (omega arith) (λ i low high. none i (omega arith) (omega arith))
    ∙ ap (λ n. needed_along base c later (drop n cells)) is

skip-to : (base : Base) (c : ℕ) (later cells : List ℕ) (from to : ℕ) → from ≤ to → to ≤ length cells
    → ((i : ℕ) → from ≤ i → i < to → is_needed base c later (get_or cells i 0) ≡ false)
    → needed_along base c later (drop from cells) ≡ needed_along base c later (drop to cells)
skip-to base c later cells from to low high none =
    let is : (to - from) + from ≡ to = omega arith in
    skip base c later cells (to - from) from (omega arith) (λ i a b. none i a (omega arith))
    ∙ ap (λ n. needed_along base c later (drop n cells)) is

-- a cell is needed exactly where its spot is marked
marked-spot : (ordered : Ordered) (c : ℕ) (plan : Plan) (marked : List Bool) (known needed : List ℕ) (from at : ℕ) → IsValidBase ordered.base
    → IsOrder ordered.base ordered.sequence → IsPlanOf ordered plan → IsPass ordered c plan marked known needed from at → (i : ℕ) → i < ordered.base.cells
    → is_member marked i ≡ is_needed ordered.base c (drop at needed) (get_or (cells_down ordered) i 0)
marked-spot ordered c plan marked known needed from at valid order is pass i low =
    let long = down-length ordered valid order in
    let small : i < length plan.cells.items = omega (arith, ap length is.cells) in
    ap (is_member marked) (sym (is.spots i small) ∙ ap (λ (xs : List ℕ). get_or plan.spots.items (get_or xs i 0) 0) is.cells)
    ∙ pass.marks (get_or (cells_down ordered) i 0) (down-all ordered valid order i 0 (omega arith))

pub pass-room : (ordered : Ordered) (c : ℕ) (plan : Plan) (marked : List Bool) (known needed : List ℕ) (from at spot : ℕ)
    → IsPass ordered c plan marked known needed from at → from ≤ spot → spot < length marked → (1 ≤ at) × (at - 1 < length needed) × (spot < ordered.base.cells)
pass-room ordered c plan marked known needed from at spot pass low high =
    let a = pass.room in
    let b = pass.size in
    let d = pass.behind in
    let e = pass.needed_size in
    (omega arith, omega arith, omega arith)

-- the cell that is found at a spot
pub found-cell : (ordered : Ordered) (plan : Plan) (spot found d : ℕ) → IsValidBase ordered.base → IsOrder ordered.base ordered.sequence → IsPlanOf ordered plan
    → spot < ordered.base.cells → found ≡ get_or plan.cells.items spot d → (found ≡ get_or (cells_down ordered) spot 0) × (found < ordered.base.cells)
found-cell ordered plan spot found d valid order is low at =
    let long = down-length ordered valid order in
    let here : found ≡ get_or (cells_down ordered) spot 0 = at ∙ ap (λ (xs : List ℕ). get_or xs spot d) is.cells
    ∙ get_or_default (cells_down ordered) spot d 0 (omega arith) in
    (here, subst (λ n. n < ordered.base.cells) (sym here) (down-all ordered valid order spot 0 (omega arith)))

pub pass-turn : (ordered : Ordered) (c : ℕ) (plan : Plan) (marked new : List Bool) (known new_known needed : List ℕ) (from at spot found : ℕ)
    → IsValidBase ordered.base → IsOrder ordered.base ordered.sequence → IsPlanOf ordered plan → IsPass ordered c plan marked known needed from at
    → IsNext (is_member marked) from spot → spot < length marked → found ≡ get_or (cells_down ordered) spot 0
    → Marks plan.spots.items marked new (cell_reads ordered.base found) → IsMarking plan.spots.items new new_known
    → IsPass ordered c plan new new_known (set needed (at - 1) found) (spot + 1) (at - 1)
pass-turn ordered c plan marked new known new_known needed from at spot found valid order is pass next high here marks marking =
    let base : Base = ordered.base in
    let later : List ℕ = drop at needed in
    let cells : List ℕ = cells_down ordered in
    let room = pass-room ordered c plan marked known needed from at spot pass next.from high in
    let low = room.1 in
    let within = room.2 in
    let long = down-length ordered valid order in
    let e_room = pass.room in
    let e_from = next.from in
    let back : (at - 1) + 1 ≡ at = omega (arith, room.0) in
    let grown : drop (at - 1) (set needed (at - 1) found) ≡ found ∷ later = drop-set needed (at - 1) found low ∙ ap (λ n. found ∷ drop n needed) back in
    let needs : is_needed base c later found ≡ true =
    ap (is_needed base c later) here ∙ sym (marked-spot ordered c plan marked known needed from at valid order is pass spot within) ∙ next.is in
    let one : suc spot ≡ spot + 1 = omega arith in
    record {
      marking = marking;
      size = marks.size ∙ pass.size;
      needed_size = length-set needed (at - 1) found ∙ pass.needed_size;
      marks = λ d small. marks.each d (omega (arith, is.size))
          ∙ ap (λ b. b || cell_reads base found d) (pass.marks d small)
          ∙ or-swap (nat_eq d c) (any_reads base later d) (cell_reads base found d)
          ∙ ap (λ (xs : List ℕ). is_needed base c xs d) (sym grown);
      rest = ap (λ (xs : List ℕ). needed_along base c xs (drop (spot + 1) cells)) grown
          ∙ sym (along-taken base c found later (drop (spot + 1) cells) needs)
          ∙ ap (needed_along base c later) (ap (λ n. n ∷ drop (spot + 1) cells) here ∙ ap (λ n. get_or cells spot 0 ∷ drop n cells) (sym one)
          ∙ sym (drop-cons cells spot 0 (omega arith)))
          ∙ sym (skip-to base c later cells from spot next.from (omega arith)
          (λ i a b. sym (marked-spot ordered c plan marked known needed from at valid order is pass i (omega arith)) ∙ next.between i a b))
          ∙ pass.rest;
      room = omega (arith, room.0);
      behind = let b = pass.behind in omega arith;
      before = omega arith;
    }

pub pass-end : (ordered : Ordered) (c : ℕ) (plan : Plan) (marked : List Bool) (known needed : List ℕ) (from at : ℕ) → IsValidBase ordered.base
    → IsOrder ordered.base ordered.sequence → IsPlanOf ordered plan → IsPass ordered c plan marked known needed from at
    → ((i : ℕ) → from ≤ i → is_member marked i ≡ false) → drop at needed ≡ needed_cells ordered c
pass-end ordered c plan marked known needed from at valid order is pass none =
    let base : Base = ordered.base in
    let cells : List ℕ = cells_down ordered in
    let long = down-length ordered valid order in
    let before = pass.before in
    ap (needed_along base c (drop at needed)) (sym (drop_all (length cells) cells (omega arith)))
    ∙ sym (skip-to base c (drop at needed) cells from (length cells) (omega arith) (omega arith)
    (λ i a b. sym (marked-spot ordered c plan marked known needed from at valid order is pass i (omega arith)) ∙ none i a))
    ∙ pass.rest

-- cells are known to be marked from needed cells on only
pub known-needed : (ordered : Ordered) (c : ℕ) (plan : Plan) (marked : List Bool) (known needed : List ℕ) (from at : ℕ) → IsValidBase ordered.base
    → IsOrder ordered.base ordered.sequence → c < ordered.base.cells → IsPlanOf ordered plan → IsPass ordered c plan marked known needed from at
    → drop at needed ≡ needed_cells ordered c → (d : ℕ) → (get_or known d 0 ≡ 0 → ⊥) → is_among d (needed_cells ordered c) ≡ true
known-needed ordered c plan marked known needed from at valid order low is pass found d some =
    elim (cases_lt d (length known)) [
      | inl here ↦
          let small : d < ordered.base.cells = omega (arith, pass.marking.size, is.size) in
          needed-closed ordered c valid order low d
          (ap (λ (xs : List ℕ). is_needed ordered.base c xs d) (sym found) ∙ sym (pass.marks d small)
          ∙ pass.marking.knows d d (omega (arith, is.size)) (omega arith) (positive (get_or known d 0) some))
      | inr past ↦ absurd (some (out known d past))
    ]
  where
    positive : (v : ℕ) → (v ≡ 0 → ⊥) → d < d + v
    positive v n = omega arith

    out : (xs : List ℕ) (i : ℕ) → length xs ≤ i → get_or xs i 0 ≡ 0
    out [] i h = refl
    out (x ∷ xs) zero h = absurd (omega arith)
    out (x ∷ xs) (suc i) h = out xs i (omega arith)

-- ---- clearing the marks

-- one more count is 0, and the nonzero ones are of the remaining cells
pub forgotten : (cells known : List ℕ) (i c : ℕ) → i < length cells → c ≡ get_or cells i 0
    → ((d : ℕ) → (get_or known d 0 ≡ 0 → ⊥) → is_among d (drop i cells) ≡ true) → (d : ℕ) → (get_or (set known c 0) d 0 ≡ 0 → ⊥)
    → is_among d (drop (i + 1) cells) ≡ true
forgotten cells known i c low is kept d some =
    let one : suc i ≡ i + 1 = omega arith in
    elim (cases_eq d c) [
      | inl e ↦ absurd (some (ap (λ n. get_or (set known c 0) n 0) e ∙ zero-set known c))
      | inr n ↦
          let there = kept d (λ z. some (get_or-set_other known c d 0 0 n ∙ z)) in
          elim (or-either (nat_eq d (get_or cells i 0)) (is_among d (drop (suc i) cells)) (sym (ap (is_among d) (drop-cons cells i 0 low)) ∙ there)) [
            | inl y ↦ absurd (n (same d (get_or cells i 0) y ∙ sym is))
            | inr m ↦ subst (λ k. is_among d (drop k cells) ≡ true) one m
          ]
    ]
  where
    zero-set : (xs : List ℕ) (k : ℕ) → get_or (set xs k 0) k 0 ≡ 0
    zero-set [] k = refl
    zero-set (x ∷ xs) zero = refl
    zero-set (x ∷ xs) (suc k) = zero-set xs k

pub forgotten-all : (cells known : List ℕ) (i : ℕ) → length cells ≤ i → ((d : ℕ) → (get_or known d 0 ≡ 0 → ⊥) → is_among d (drop i cells) ≡ true) → (d : ℕ)
    → get_or known d 0 ≡ 0
forgotten-all cells known i low kept d = elim (cases_eq (get_or known d 0) 0) [
  | inl e ↦ e
  | inr n ↦ absurd (clash (subst (λ (xs : List ℕ). is_among d xs ≡ true) (drop_all i cells low) (kept d n)) refl)
]

-- the end of a list, as a slice
pub end-slice : (xs ys zs : List ℕ) (n : ℕ) → xs ≡ ys → drop n ys ≡ zs → take (length xs - n) (drop n xs) ≡ zs
end-slice xs ys zs n same is = take_all (length xs - n) (drop n xs) (omega (arith, length-drop n xs)) ∙ ap (drop n) same ∙ is
