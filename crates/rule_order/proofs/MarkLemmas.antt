-- The marks before the search.
use Rattle.std.proofs.Common.{◌≡◌, ℕ, zero, suc, ◌+◌, ◌<◌, List, [], length, get_or, set, replicate, refl, ap, sym, ◌∙◌, subst, inl, inr, ◌⊎◌, arith}
use Rattle.std.proofs.lemmas.List.{length-set}
use Rattle.micro_m.specs.declared.base.Base.{Base}
use Rattle.micro_m.specs.Bases.{Definition, target_at, IsValidBase}
use Rattle.micro_m.proofs.NumberLemmas.{clash}
use Rattle.micro_m.proofs.PositionLemmas.{position-one, target-within, definition-at}
use Rattle.rule_order.specs.declared.search.Mark.{Mark}
use Rattle.rule_order.specs.declared.search.Mark.TheVariants.{Settled, Waiting, Open}
use Rattle.rule_order.specs.inner.Marks.{mark_of, IsSettled, IsSearch}
use Rattle.rule_order.proofs.SearchLemmas.{eq_cases, mark-same, mark-other}
use Rattle.rule_order.proofs.WalkLemmas.{mark-is}

-- the first definitions, this many, have marked their cells, and no other cell is marked
pub record AreMarked (base : Base) (marks : List Mark) (done : ℕ) : Type 0 where
  pub size : length marks ≡ base.cells
  pub marked : (p : ℕ) → p < done → mark_of marks (target_at base p) ≡ Waiting p
  pub others : (c : ℕ) → IsSettled marks c ⊎ ((p : ℕ) × (p < done) × (mark_of marks c ≡ Waiting p) × (target_at base p ≡ c))

settled-all : (n c : ℕ) → mark_of (replicate n Settled) c ≡ Settled
settled-all zero c = refl
settled-all (suc n) zero = refl
settled-all (suc n) (suc c) = settled-all n c

pub marked-none : (base : Base) (marks : List Mark) → marks ≡ replicate base.cells Settled → length marks ≡ base.cells → AreMarked base marks 0
marked-none base marks is size = record {
  size = size;
  marked = λ p h. absurd (omega arith);
  others = λ c. inl (ap (λ (ms : List Mark). mark_of ms c) is ∙ settled-all base.cells c);
}

pub marked-more : (base : Base) (marks : List Mark) (i c : ℕ) → IsValidBase base → i < length base.definitions → c ≡ target_at base i → AreMarked base marks i
    → AreMarked base (set marks c (Waiting i)) (i + 1)
marked-more base marks i c valid low is m =
    let new : List Mark = set marks c (Waiting i) in
    let within : c < length marks = let k = target-within base i valid low in let s = m.size in omega arith in
    record {
      size = length-set marks c (Waiting i) ∙ m.size;
      marked = λ p h. eq_cases p i
          (λ e. ap (mark_of new) (ap (target_at base) e ∙ sym is) ∙ mark-same marks c (Waiting i) within ∙ ap Waiting (sym e))
          (λ n. mark-other marks c (target_at base p) (Waiting i) (λ e. n (position-one base p i valid.defined_once (omega arith) low (e ∙ is)))
          ∙ m.marked p (omega (arith, below p h n)));
      others = λ d. eq_cases d c
          (λ e. inr (i, omega arith, ap (mark_of new) e ∙ mark-same marks c (Waiting i) within, sym (e ∙ is)))
          (λ n. elim (m.others d) [
            | inl k ↦ inl (mark-other marks c d (Waiting i) n ∙ k)
            | inr k ↦ inr (
              k.0,
              omega arith,
              mark-other marks c d (Waiting i) n
                  ∙ k.2,
              k.3,
            )
          ]);
    }
  where
    below : (p : ℕ) → p < i + 1 → (p ≡ i → ⊥) → p < i
    below p h n = omega arith

pub marked-all : (base : Base) (marks : List Mark) (i : ℕ) → i ≡ length base.definitions → AreMarked base marks i → IsSearch base marks [] []
marked-all base marks i all m = record {
  size = m.size;
  path_within = λ p h. absurd (clash h refl);
  placed_within = λ p h. absurd (clash h refl);
  waiting = λ c p h. elim (m.others c) [
    | inl k ↦ absurd (settled_waiting (sym k ∙ h))
    | inr k ↦ let e : Waiting k.0 ≡ Waiting p = sym k.2
        ∙ h in let is : k.0 ≡ p = cc in (omega arith, ap (target_at base) (sym is) ∙ k.3)
  ];
  begun = λ c h. elim (m.others c) [ inl k ↦ absurd (settled_open (sym k ∙ h)) | inr k ↦ absurd (waiting_open (sym k.2 ∙ h)) ];
  settled = λ p low h. absurd (settled_waiting (sym h ∙ m.marked p (omega arith)));
  on_path = λ c h. absurd (clash h refl);
  placed = λ p h. absurd (clash h refl);
  path_once = tt;
  placed_once = tt;
  path_reads = tt;
  closed = λ p c h r. absurd (clash h refl);
  earlier = tt;
}
  where
    settled_waiting : {q : ℕ} → Settled ≡ Waiting q → ⊥
    settled_waiting e = cc

    settled_open : Settled ≡ Open → ⊥
    settled_open e = cc

    waiting_open : {q : ℕ} → Waiting q ≡ Open → ⊥
    waiting_open e = cc

-- the definition at an index marks a cell of the base
pub definition-low : (base : Base) (items : List Definition) (i n : ℕ) (d : Definition) → IsValidBase base → items ≡ base.definitions → i < length items
    → d ≡ get_or items i d → n ≡ base.cells → (d.0 < n) × (d.0 ≡ target_at base i) × (i < length base.definitions)
definition-low base items i n d valid same_items low is size =
    let here : i < length base.definitions = subst (λ (ds : List Definition). i < length ds) same_items low in
    let at = definition-at base i d here (is ∙ ap (λ (ds : List Definition). get_or ds i d) same_items) in
    let k = target-within base i valid here in
    let e = at.0 in
    (omega arith, e, here)

-- the mark that the code reads for the definition at a position is that of its cell
pub looked-up-mark : (base : Base) (marks : List Mark) (items : List Definition) (p : ℕ) (d : Definition) (m : Mark) → IsValidBase base
    → length marks ≡ base.cells → items ≡ base.definitions → p < length base.definitions → d ≡ get_or items p d → m ≡ get_or marks (get_or items p d).0 m
    → ((get_or items p d).0 < length marks) × (mark_of marks (target_at base p) ≡ m)
looked-up-mark base marks items p d m valid size same_items low is mark =
    let here : p < length items = subst (λ (ds : List Definition). p < length ds) (sym same_items) low in
    let k = definition-low base items p (length marks) d valid same_items here is size in
    let at : (get_or items p d).0 ≡ d.0 = ap (λ (x : Definition). x.0) (sym is) in
    let l = k.0 in
    let low_at : (get_or items p d).0 < length marks = omega arith in
    (low_at, ap (mark_of marks) (sym (at ∙ k.1)) ∙ mark-is marks (get_or items p d).0 m low_at mark)
