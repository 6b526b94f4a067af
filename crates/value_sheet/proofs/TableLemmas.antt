-- Rows one after the other.
use Rattle.std.proofs.Common.{◌≡◌, ◌≢◌, ℕ, zero, suc, ◌+◌, ◌-◌, ◌/◌, ◌<◌, ◌≤◌, Bool, true, false, List, [], ◌∷◌, ◌++◌, eqb, ltb, cond, length, get_or, take}
use Rattle.std.proofs.Common.{drop, map, refl, sym, ◌∙◌, ap, subst, ⊎_elim, arith, length-append}
use Rattle.std.specs.Prelude.{slice_range}
use Rattle.std.specs.List.{range_with_len}
use Rattle.std.proofs.lemmas.Bool.{cases_eq, cases_order, eq-eqb, ne_eqb, lt-ltb, le-ltb}
use Rattle.std.proofs.lemmas.List.{get_or_append_left, get_or_push, length_push, drop-append-le, take-append-le, length-drop, drop_at, take_all, ext_get_or}
use Rattle.std.proofs.lemmas.List.FromFn.{length-map-range_with_len, get_or-map-range_with_len}
use Rattle.value_sheet.specs.Edges.{sourced, rows_of}
use Rattle.value_sheet.specs.inner.Table.{row_in, rows_in, IsTable, so_far, IsFilled}

-- ---- no more targets than edges

below : ℕ → ℕ → ℕ
below s p = cond (ltb s p) 1 0

below_more : (s p : ℕ) → below s (suc p) ≡ below s p + cond (eqb s p) 1 0
unfolding below
below_more s p =
    ⊎_elim
    (λ (is : s ≡ p). rw (lt-ltb s (suc p) (omega arith), le-ltb s p (omega arith), eq-eqb s p is) refl)
    (⊎_elim
    (λ (lt : s < p). rw (lt-ltb s (suc p) (omega arith), lt-ltb s p lt, ne_eqb s p (λ is. absurd (omega arith))) refl)
    (λ (gt : p < s). rw (le-ltb s (suc p) (omega arith), le-ltb s p (omega arith), ne_eqb s p (λ is. absurd (omega arith))) refl))
    (cases_order s p)

below_at_most : (s p : ℕ) → below s p ≤ 1
unfolding below
below_at_most s p = at_most (ltb s p)
  where
    at_most : (b : Bool) → cond b 1 0 ≤ 1
    at_most true = omega arith
    at_most false = omega arith

length-sourced : (per p e s : ℕ) (sources : List ℕ) → length (sourced per p e (s ∷ sources)) ≡ length (sourced per p (e + 1) sources) + cond (eqb s p) 1 0
length-sourced per p e s sources = cases (eqb s p)
  where
    cases : (b : Bool) → length (cond b (e / per ∷ sourced per p (e + 1) sources) (sourced per p (e + 1) sources)) ≡ length (sourced per p (e + 1) sources) +
        cond b 1 0
    cases true = omega arith
    cases false = omega arith

so_far_more : (per e s : ℕ) (sources : List ℕ) (p : ℕ) → so_far per e (s ∷ sources) p ≡ so_far per (e + 1) sources p + below s p
unfolding below
so_far_more per e s sources zero = rw (le-ltb s 0 (omega arith)) refl
so_far_more per e s sources (suc p) =
    omega (arith, so_far_more per e s sources p, length-sourced per p e s sources, below_more s p)

so_far_none : (per e p : ℕ) → so_far per e [] p ≡ 0
so_far_none per e zero = refl
so_far_none per e (suc p) = omega (arith, so_far_none per e p)

pub so_far_few : (per e : ℕ) (sources : List ℕ) (p : ℕ) → so_far per e sources p ≤ length sources
so_far_few per e [] p = omega (arith, so_far_none per e p)
so_far_few per e (s ∷ sources) p = omega (arith, so_far_more per e s sources p, so_far_few per (e + 1) sources p, below_at_most s p)

-- ---- one row more

-- a part of a list is unchanged if more is appended
range_kept : (xs ys : List ℕ) (from to : ℕ) → from ≤ to → to ≤ length xs → slice_range (xs ++ ys) from to ≡ slice_range xs from to
range_kept xs ys from to le within =
    ap (take (to - from)) (drop-append-le from xs ys (omega arith))
    ∙ take-append-le (to - from) (drop from xs) ys (omega (arith, length-drop from xs))

range_new : (xs ys : List ℕ) (from to : ℕ) → from ≡ length xs → to ≡ length xs + length ys → slice_range (xs ++ ys) from to ≡ ys
range_new xs ys from to begins ends =
    ap (take (to - from)) (drop_at xs ys from (sym begins)) ∙ take_all (to - from) ys (omega arith)

pub filled_none : (per : ℕ) (sources offsets : List ℕ) → offsets ≡ 0 ∷ [] → IsFilled per sources 0 offsets []
filled_none per sources offsets is = record {
  so_many = ap length is;
  last = ap (λ xs. get_or xs 0 0) is;
  total = refl;
  ends = λ q h. absurd (omega arith);
  row = λ q h. absurd (omega arith);
}

pub filled_more : (per : ℕ) (sources : List ℕ) (p : ℕ) (offsets targets more longer : List ℕ) → IsFilled per sources p offsets targets
    → more ≡ targets ++ sourced per p 0 sources → longer ≡ offsets ++ length more ∷ [] → IsFilled per sources (p + 1) longer more
filled_more per sources p offsets targets more longer h appended pushed =
    let new = sourced per p 0 sources in
    let size : length more ≡ length targets + length new = ap length appended ∙ length-append targets new in
    let kept : (q : ℕ) → q < p + 1 → get_or longer q 0 ≡ get_or offsets q 0 = λ q lt. ap (λ xs. get_or xs q 0) pushed
    ∙ get_or_append_left offsets (length more ∷ []) 0 q (omega (arith, h.so_many)) in
    let end : get_or longer (p + 1) 0 ≡ length more = ap (λ xs. get_or xs (p + 1) 0) pushed ∙ get_or_push offsets (length more) 0 (p + 1) h.so_many in
    let begin : get_or longer p 0 ≡ length targets = kept p (omega arith) ∙ h.last in
    record {
      so_many = ap length pushed ∙ length_push offsets (length more) ∙ ap (λ n. n + 1) h.so_many;
      last = end;
      total = size ∙ ap (λ n. n + length new) h.total ∙ (let next : so_far per 0 sources p + length new ≡ so_far per 0 sources (suc p) = refl in next)
          ∙ ap (so_far per 0 sources) (let z : suc p ≡ p + 1 = omega arith in z);
      ends = λ q lt.
          ⊎_elim
          (λ (is : q ≡ p). let one : get_or longer q 0 ≡ length targets = ap (λ i. get_or longer i 0) is ∙ begin in
          let two : get_or longer (q + 1) 0 ≡ length more = ap (λ i. get_or longer (i + 1) 0) is ∙ end in
          (omega (arith, one, two, size), omega (arith, two)))
          (λ (ne : q ≢ p).
          let lower : q < p = omega arith in
          let one = kept q (omega arith) in
          let two = kept (q + 1) (omega arith) in
          let old = h.ends q lower in
          (omega (arith, one, two, old.0), omega (arith, two, old.1, size)))
          (cases_eq q p);
      row = λ q lt.
          ⊎_elim
          (λ (is : q ≡ p).
          subst (λ i. row_in longer more i ≡ sourced per i 0 sources) (sym is)
          (ap (λ xs. slice_range xs (get_or longer p 0) (get_or longer (p + 1) 0)) appended
          ∙ range_new targets new (get_or longer p 0) (get_or longer (p + 1) 0) begin (end ∙ size)))
          (λ (ne : q ≢ p).
          let lower : q < p = omega arith in
          let old = h.ends q lower in
          ap (λ xs. slice_range xs (get_or longer q 0) (get_or longer (q + 1) 0)) appended
          ∙ ap (λ n. slice_range (targets ++ new) n (get_or longer (q + 1) 0)) (kept q (omega arith))
          ∙ ap (λ n. slice_range (targets ++ new) (get_or offsets q 0) n) (kept (q + 1) (omega arith))
          ∙ range_kept targets new (get_or offsets q 0) (get_or offsets (q + 1) 0) old.0 old.1 ∙ h.row q lower)
          (cases_eq q p);
    }

pub filled_all : (per : ℕ) (sources : List ℕ) (count : ℕ) (offsets targets : List ℕ) → IsFilled per sources count offsets targets
    → rows_in offsets targets ≡ rows_of per sources count
filled_all per sources count offsets targets h =
    let n : length offsets - 1 ≡ count = omega (arith, h.so_many) in
    ap (λ m. map (row_in offsets targets) (range_with_len 0 m)) n
    ∙ ext_get_or [] (map (row_in offsets targets) (range_with_len 0 count)) (rows_of per sources count)
    (length-map-range_with_len (row_in offsets targets) 0 count ∙ sym (length-map-range_with_len (λ p. sourced per p 0 sources) 0 count))
    (λ i within.
    let lt : i < count = omega (arith, length-map-range_with_len (row_in offsets targets) 0 count) in
    get_or-map-range_with_len (row_in offsets targets) 0 count i i [] lt (omega arith) ∙ h.row i lt
    ∙ sym (get_or-map-range_with_len (λ p. sourced per p 0 sources) 0 count i i [] lt (omega arith)))

pub filled_table : (per : ℕ) (sources : List ℕ) (count : ℕ) (offsets targets : List ℕ) → IsFilled per sources count offsets targets → IsTable offsets targets
filled_table per sources count offsets targets h = record { ends = λ p lt. let lower : p < count = omega (arith, h.so_many) in h.ends p lower }

-- ---- a row

pub length-rows_in : (offsets targets : List ℕ) → length (rows_in offsets targets) ≡ length offsets - 1
length-rows_in offsets targets = length-map-range_with_len (row_in offsets targets) 0 (length offsets - 1)

pub row_is : (offsets targets : List ℕ) (p : ℕ) → p + 1 < length offsets → get_or (rows_in offsets targets) p [] ≡ row_in offsets targets p
row_is offsets targets p h = get_or-map-range_with_len (row_in offsets targets) 0 (length offsets - 1) p p [] (omega arith) (omega arith)
