-- The terms of a base, cell by cell in one list.
use Rattle.std.proofs.Common.{◌≡◌, ◌≢◌, ℕ, suc, ◌+◌, ◌-◌, ◌<◌, ◌≤◌, max, List, []}
use Rattle.std.proofs.Common.{◌∷◌, ◌++◌, length, get_or, take, drop, slice_range, refl, ap, sym, ◌∙◌, subst}
use Rattle.std.proofs.Common.{⊎_elim, arith, length-append}
use Rattle.std.proofs.lemmas.Bool.{cases_eq}
use Rattle.std.proofs.lemmas.List.{get_or_append_left, get_or_push, length_push, drop-append-le, take-append-le, length-drop, drop_at, take_all}
use Rattle.micro_m.specs.declared.base.Base.{Base}
use Rattle.why_report.specs.declared.part.Part.{Part}
use Rattle.why_report.specs.declared.terms.Terms.{Terms}
use Rattle.why_report.specs.inner.Parts.{cell_parts, height}
use Rattle.why_report.specs.inner.Terms.{AreTerms, IsSpan, begin_at, row_at}

pub terms-none : (base : Base) (terms : Terms) → terms.begins.items ≡ 0 ∷ [] → terms.parts.items ≡ [] → AreTerms base 0 terms
terms-none base terms begins none = record {
  size = ap length begins;
  last = ap (λ (ns : List ℕ). get_or ns 0 0) begins ∙ sym (ap length none);
  spans = λ c low. absurd (omega arith);
  rows = λ c low. absurd (omega arith);
  heights = λ c low. absurd (omega arith);
}

-- a part of a list is unchanged if more is appended
range-kept : (xs ys : List Part) (from to : ℕ) → from ≤ to → to ≤ length xs → slice_range (xs ++ ys) from to ≡ slice_range xs from to
range-kept xs ys from to low within =
    ap (take (to - from)) (drop-append-le from xs ys (omega arith))
    ∙ take-append-le (to - from) (drop from xs) ys (omega (arith, length-drop from xs))

range-new : (xs ys : List Part) (from to : ℕ) → from ≡ length xs → to ≡ length xs + length ys → slice_range (xs ++ ys) from to ≡ ys
range-new xs ys from to begins ends = ap (take (to - from)) (drop_at xs ys from (sym begins)) ∙ take_all (to - from) ys (omega arith)

-- the parts that were appended
pub appended : (xs ys all : List Part) (n : ℕ) → all ≡ xs ++ ys → n ≡ length xs → drop n all ≡ ys
appended xs ys all n is at = ap (drop n) is ∙ drop_at xs ys n (sym at)

pub terms-more : (base : Base) (n : ℕ) (terms more : Terms) → AreTerms base n terms → more.parts.items ≡ terms.parts.items ++ cell_parts base n
    → more.begins.items ≡ terms.begins.items ++ length more.parts.items ∷ [] → terms.height ≤ more.height → height 0 (cell_parts base n) ≤ more.height
    → AreTerms base (n + 1) more
terms-more base n terms more h parts begins high new_high =
    let new : List Part = cell_parts base n in
    let size : length more.parts.items ≡ length terms.parts.items + length new = ap length parts ∙ length-append terms.parts.items new in
    let kept : (c : ℕ) → c < n + 1 → begin_at more c ≡ begin_at terms c = λ c low. ap (λ (ns : List ℕ). get_or ns c 0) begins
    ∙ get_or_append_left terms.begins.items (length more.parts.items ∷ []) 0 c (omega (arith, h.size)) in
    let end : begin_at more (n + 1) ≡ length more.parts.items = ap (λ (ns : List ℕ). get_or ns (n + 1) 0) begins
    ∙ get_or_push terms.begins.items (length more.parts.items) 0 (n + 1) h.size in
    let begin : begin_at more n ≡ length terms.parts.items = kept n (omega arith) ∙ h.last in
    record {
      size = ap length begins ∙ length_push terms.begins.items (length more.parts.items) ∙ ap (λ m. m + 1) h.size;
      last = end;
      spans = λ c low.
          ⊎_elim
          (λ (is : c ≡ n). let one : begin_at more c ≡ length terms.parts.items = ap (begin_at more) is ∙ begin in
          let two : begin_at more (c + 1) ≡ length more.parts.items = ap (λ i. begin_at more (i + 1)) is ∙ end in
          (omega (arith, one, two, size), omega (arith, two)))
          (λ (ne : c ≢ n).
          let lower : c < n = omega arith in
          let one = kept c (omega arith) in
          let two = kept (c + 1) (omega arith) in
          let old = h.spans c lower in
          (omega (arith, one, two, old.0), omega (arith, two, old.1, size)))
          (cases_eq c n);
      rows = λ c low.
          ⊎_elim
          (λ (is : c ≡ n).
          subst (λ i. row_at more i ≡ cell_parts base i) (sym is)
          (ap (λ (ps : List Part). slice_range ps (begin_at more n) (begin_at more (n + 1))) parts
          ∙ range-new terms.parts.items new (begin_at more n) (begin_at more (n + 1)) begin (end ∙ size)))
          (λ (ne : c ≢ n).
          let lower : c < n = omega arith in
          let old = h.spans c lower in
          ap (λ (ps : List Part). slice_range ps (begin_at more c) (begin_at more (c + 1))) parts
          ∙ ap (λ i. slice_range (terms.parts.items ++ new) i (begin_at more (c + 1))) (kept c (omega arith))
          ∙ ap (λ i. slice_range (terms.parts.items ++ new) (begin_at terms c) i) (kept (c + 1) (omega arith))
          ∙ range-kept terms.parts.items new (begin_at terms c) (begin_at terms (c + 1)) old.0 old.1 ∙ h.rows c lower)
          (cases_eq c n);
      heights = λ c low.
          ⊎_elim (λ (is : c ≡ n). subst (λ i. height 0 (cell_parts base i) ≤ more.height) (sym is) new_high)
          (λ (ne : c ≢ n). let old = h.heights c (omega arith) in omega arith)
          (cases_eq c n);
    }
