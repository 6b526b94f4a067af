-- The places of definitions, found by their cells.
use Rattle.std.proofs.Common.{◌≡◌, ℕ, zero, suc, ◌+◌, ◌-◌, ◌<◌, List, length, get_or, set, replicate, None, Some, refl, ap, sym, ◌∙◌, subst, inl, inr, arith}
use Rattle.std.proofs.lemmas.List.{length-set, get_or-set_same, get_or-set_other}
use Rattle.std.proofs.lemmas.Bool.{cases_eq}
use Rattle.micro_m.specs.declared.base.Base.{Base}
use Rattle.micro_m.specs.Bases.{Definition, target_at, definition_of, IsValidBase}
use Rattle.micro_m.proofs.PositionLemmas.{definition_of-target, definition_of-position, definition-at, target-within}
use Rattle.micro_m.proofs.TurnLemmas.{option_cases}
use Rattle.why_report.specs.inner.Checked.{IsPlaceOf, ArePlaces}

-- the places of the first `done` definitions are entered, and no others
pub record ArePlacesSoFar (base : Base) (places : List ℕ) (done : ℕ) : Type 0 where
  pub size : length places ≡ base.cells
  pub missing : (c p : ℕ) → get_or places c 0 ≡ 0 → p < done → target_at base p ≡ c → ⊥
  pub placed : (c p : ℕ) → get_or places c 0 ≡ suc p → (p < done) × (target_at base p ≡ c)

abbrev pub zeros : ℕ → List ℕ
zeros n = replicate n 0

pub zero-all : (n c : ℕ) → get_or (zeros n) c 0 ≡ 0
zero-all zero c = refl
zero-all (suc n) zero = refl
zero-all (suc n) (suc c) = zero-all n c

pub places-none : (base : Base) (places : List ℕ) → places ≡ replicate base.cells 0 → length places ≡ base.cells → ArePlacesSoFar base places 0
places-none base places is size = record {
  size = size;
  missing = λ c p e h t. absurd (omega arith);
  placed = λ c p e. let none : get_or places c 0 ≡ 0 = ap (λ (ns : List ℕ). get_or ns c 0) is ∙ zero-all base.cells c in absurd (omega arith);
}

-- the definition at a position of the list has a cell of the base
pub place-low : (base : Base) (items : List Definition) (i : ℕ) (d : Definition) → IsValidBase base → items ≡ base.definitions → i < length items
    → d ≡ get_or items i d → (d.0 < base.cells) × (d.0 ≡ target_at base i) × (i < length base.definitions)
place-low base items i d valid same_items low is =
    let here : i < length base.definitions = subst (λ (ds : List Definition). i < length ds) same_items low in
    let at = definition-at base i d here (is ∙ ap (λ (ds : List Definition). get_or ds i d) same_items) in
    let k = target-within base i valid here in
    let e = at.0 in
    (omega arith, e, here)

pub places-more : (base : Base) (places : List ℕ) (i c : ℕ) → c < base.cells → c ≡ target_at base i → ArePlacesSoFar base places i
    → ArePlacesSoFar base (set places c (i + 1)) (i + 1)
places-more base places i c low is so_far =
    let size = so_far.size in
    let within : c < length places = omega arith in
    let here : get_or (set places c (i + 1)) c 0 ≡ i + 1 = get_or-set_same places c (i + 1) 0 within in
    record {
      size = length-set places c (i + 1) ∙ so_far.size;
      missing = λ d p e h t. elim (cases_eq d c) [
        | inl same ↦ let at : get_or (set places c (i + 1)) d 0 ≡ i + 1 = ap (λ n. get_or (set places c (i + 1)) n 0) same ∙ here in absurd (omega arith)
        | inr other ↦ let at = get_or-set_other places c d (i + 1) 0 other in
            elim (cases_eq p i) [
              | inl last ↦ absurd (other (sym t ∙ ap (target_at base) last ∙ sym is))
              | inr before ↦ so_far.missing d p (sym at ∙ e) (omega (arith, less p h before)) t
            ]
      ];
      placed = λ d p e. elim (cases_eq d c) [
        | inl same ↦ let at : get_or (set places c (i + 1)) d 0 ≡ i + 1 = ap (λ n. get_or (set places c (i + 1)) n 0) same ∙ here in
            let last : i ≡ p = omega arith in
            (omega arith, ap (target_at base) (sym last) ∙ sym is ∙ sym same)
        | inr other ↦ let k = so_far.placed d p (sym (get_or-set_other places c d (i + 1) 0 other) ∙ e) in (omega (arith, k.0), k.1)
      ];
    }
  where
    less : (p : ℕ) → p < i + 1 → (p ≡ i → ⊥) → p < i
    less p h n = omega arith

place-of : (base : Base) (places : List ℕ) (c n : ℕ) → IsValidBase base → ArePlacesSoFar base places (length base.definitions) → get_or places c 0 ≡ n
    → IsPlaceOf base c n
place-of base places c zero valid done is = option_cases (definition_of base c)
    (λ (n : definition_of base c ≡ None). n)
    (λ t (s : definition_of base c ≡ Some t). let k = definition_of-position base c t s in absurd (done.missing c k.0 is k.1 k.2))
place-of base places c (suc p) valid done is =
    let k = done.placed c p is in
    (k.0, ap (definition_of base) (sym k.1) ∙ definition_of-target base p valid.defined_once k.0)

pub places-all : (base : Base) (places : List ℕ) (i : ℕ) → IsValidBase base → i ≡ length base.definitions → ArePlacesSoFar base places i → ArePlaces base places
places-all base places i valid all so_far = record {
  size = so_far.size;
  each = λ c low. place-of base places c (get_or places c 0) valid (subst (λ n. ArePlacesSoFar base places n) all so_far) refl;
}

-- ---- looked up

pub place-term : (base : Base) (items : List Definition) (c n : ℕ) (d : Definition) → IsPlaceOf base c n → (n ≡ 0 → ⊥) → items ≡ base.definitions
    → d ≡ get_or items (n - 1) d → (n - 1 < length items) × (Some d.1 ≡ definition_of base c)
place-term base items c zero d place some same_items is = absurd (some refl)
place-term base items c (suc p) d place some same_items is =
    let at : suc p - 1 ≡ p = omega arith in
    let found = definition-at base p d place.0 (is ∙ ap (λ n. get_or items n d) at ∙ ap (λ (ds : List Definition). get_or ds p d) same_items) in
    (subst (λ n. n < length items) (sym at) (subst (λ (ds : List Definition). p < length ds) (sym same_items) place.0), ap Some found.1 ∙ sym place.1)

pub place-absent : (base : Base) (c n : ℕ) → IsPlaceOf base c n → n ≡ 0 → None ≡ definition_of base c
place-absent base c zero place none = sym place
place-absent base c (suc p) place none = absurd (omega arith)
