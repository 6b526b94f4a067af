-- Going over records without parsing them.
use Rattle.std.proofs.Common.{◌≡◌, ℕ, ◌+◌, ◌-◌, ◌*◌, ◌<◌, ◌≤◌, zero, suc, List, [], ◌∷◌, ◌++◌, length, length-append, length-drop, get_or, drop, refl, sym, ap}
use Rattle.std.proofs.Common.{subst, ◌∙◌, arith}
use Rattle.std.proofs.lemmas.List.{drop-drop, drop_all}
use Rattle.csv.specs.Reading.{strip_bom}
use Rattle.csv.specs.declared.parser.State.TheVariants as st
use Rattle.household.specs.Reader.{records_from_state}
use Rattle.household.specs.Records.{records_of}
use Rattle.household.specs.declared.cuts.TheConstants.{BETWEEN}
use Rattle.household.specs.Lines.{HasNoQuote, IsLineEnd}
use Rattle.household.specs.inner.Cuts.{AreCuts, IsCut, IsCutAfter, IsLine, left_at}
use Rattle.household.proofs.LeftLemmas.{records_are_left}
use Rattle.household.proofs.LineLemmas.{drop_byte, line_ends, no_mark_there, no_quote_drop, record_over, skips_end}

-- ---- one record

-- a record that ends at the end of its line
pub over_line : (bytes : List ℕ) (at end : ℕ) → HasNoQuote bytes → at < end → end ≤ length bytes → IsLine (end - at) (drop at bytes)
    → IsCut bytes end × ((fields : List (List ℕ)) × (left_at bytes at ≡ fields ∷ left_at bytes end))
over_line bytes at end q far within line = by (end - at) refl line
  where
    by : (n : ℕ) → n ≡ end - at → IsLine n (drop at bytes) → IsCut bytes end × ((fields : List (List ℕ)) × (left_at bytes at ≡ fields ∷ left_at bytes end))
    by zero e l = absurd (omega (arith, e, far))
    by (suc n) e l =
        let there : drop (suc n) (drop at bytes) ≡ drop end bytes = drop-drop (suc n) at bytes
        ∙ ap (λ k. drop k bytes) (let same : at + suc n ≡ end = omega (arith, e, far) in same) in
        let over = record_over n (drop at bytes) (no_quote_drop at bytes q) l in (
          record { within = within; ends = subst IsLineEnd there (line_ends (suc n) (drop at bytes) l) },
          (over.0, over.1 ∙ ap (λ l. over.0 ∷ records_from_state st.StartRecord [] [] l) there),
        )

-- an empty line is no record
pub over_empty : (bytes : List ℕ) (at end : ℕ) → at < length bytes → end ≡ at → IsLine (end - at) (drop at bytes) → left_at bytes (suc at) ≡ left_at bytes at
over_empty bytes at end below same line =
    let none : end - at ≡ 0 = omega (arith, same) in
    let here = drop_byte at bytes below in
    let ends = subst IsLineEnd here (subst (λ n. IsLine n (drop at bytes)) none line) in
    sym (ap (records_from_state st.StartRecord [] []) here ∙ skips_end (get_or bytes at 0) (drop (suc at) bytes) ends)

-- no record is left at the end of the bytes
pub at_end : (bytes : List ℕ) (at : ℕ) → length bytes ≤ at → left_at bytes at ≡ []
at_end bytes at past = ap (records_from_state st.StartRecord [] []) (drop_all at bytes past)

pub end_is_cut : (bytes : List ℕ) (at : ℕ) → at ≡ length bytes → IsCut bytes at
end_is_cut bytes at e = record { within = omega (arith, e); ends = subst IsLineEnd (sym (drop_all at bytes (omega (arith, e)))) tt }

-- a reader of the bytes from a cut on has the records that are left there
pub read_from : (bytes : List ℕ) (cut : ℕ) → IsCut bytes cut → records_of (drop cut bytes) ≡ left_at bytes cut
read_from bytes cut is = sym (records_are_left (drop cut bytes)) ∙ ap (records_from_state st.StartRecord [] []) (no_mark_there (drop cut bytes) is.ends)

-- at the start of the first record all records are left
pub all_left : (bytes : List ℕ) (start : ℕ) → drop start bytes ≡ strip_bom bytes → left_at bytes start ≡ records_of bytes
all_left bytes start e = ap (records_from_state st.StartRecord [] []) e ∙ records_are_left bytes

-- ---- many records

-- a list from a position on, where that position has an element
drop_begun : {A : Type 0} (i : ℕ) (left new : List A) (x : A) → drop i left ≡ x ∷ new → (new ≡ drop (suc i) left) × (suc i ≤ length left)
drop_begun zero left new x e = (
  let cut : drop 1 left ≡ new = ap (λ l. drop 1 l) e in sym cut,
  let long : length left ≡ suc (length new) = ap length e in omega
      (arith, long),
)
drop_begun (suc i) [] new x e = absurd (cc)
drop_begun (suc i) (y ∷ left) new x e = let more = drop_begun i left new x e in (more.0, omega (arith, more.1))

-- one more record
pub over_next : (i next : ℕ) (left here new : List (List (List ℕ))) → next ≡ suc i → here ≡ drop i left → ((read : List (List ℕ)) × (here ≡ read ∷ new))
    → (new ≡ drop next left) × (next ≤ length left)
over_next i next left here new n h e = subst (λ k. (new ≡ drop k left) × (k ≤ length left)) (sym n) (drop_begun i left new e.0 (sym h ∙ e.1))

-- no more records
pub over_none : (i count : ℕ) (left here : List (List (List ℕ))) → here ≡ drop i left → here ≡ [] → i < count → length left < count
over_none i count left here h none below =
    let dropped = length-drop i left in
    let long : length (drop i left) ≡ 0 = ap length (sym h ∙ none) in
    omega (arith, dropped, long, below)

-- after at least one record fewer are left
pub fewer : (count : ℕ) (old new : List (List (List ℕ))) → 0 < count → (new ≡ drop count old) × (count ≤ length old) → length new < length old
fewer count old new some e =
    let dropped = length-drop count old in
    let long : length new ≡ length (drop count old) = ap length e.0 in
    omega (arith, dropped, long, some, e.1)

-- a property of each position of a list, extended by one element
each_push : {A : Type 0} (P : ℕ → A → Type 0) (xs : List A) (x : A) → ((n : ℕ) (d : A) → n < length xs → P n (get_or xs n d)) → P (length xs) x
    → (n : ℕ) (d : A) → n < length (xs ++ x ∷ []) → P n (get_or (xs ++ x ∷ []) n d)
each_push P [] x each last zero d h = last
each_push P [] x each last (suc n) d h = absurd (omega (arith, h))
each_push P (y ∷ xs) x each last zero d h = each 0 d (omega arith)
each_push P (y ∷ xs) x each last (suc n) d h = each_push (λ m. P (suc m)) xs x (λ m e k. each (suc m) e (omega (arith, k))) last n d (omega (arith, h))

-- the cuts so far, the last of which is `cut`
pub record CutsTo (bytes : List ℕ) (records : List (List (List ℕ))) (cuts : List ℕ) (cut : ℕ) : Type 0 where
  pub each : (n d : ℕ) → n < length cuts → IsCutAfter bytes records (n * BETWEEN) (get_or cuts n d)
  pub here : (n : ℕ) → length cuts ≡ suc n → IsCutAfter bytes records (n * BETWEEN) cut
  pub some : 0 < length cuts

pub cuts_first : (bytes cuts : List ℕ) (first : ℕ) → IsCut bytes first → cuts ≡ [] ++ first ∷ [] → CutsTo bytes (left_at bytes first) cuts first
cuts_first bytes cuts first is e =
    subst (λ (l : List ℕ). CutsTo bytes (left_at bytes first) l first) (sym e)
    (record {
      each = each_push (λ n cut. IsCutAfter bytes (left_at bytes first) (n * BETWEEN) cut) [] first (λ n d h. absurd (omega (arith, h))) (is, refl);
      here = λ n h. (let none : 0 ≡ n = omega (arith, h) in subst (λ k. IsCutAfter bytes (left_at bytes first) (k * BETWEEN) first) none (is, refl));
      some = omega arith;
    })

pub cuts_more : (bytes : List ℕ) (records : List (List (List ℕ))) (cuts more : List ℕ) (old new : ℕ) → CutsTo bytes records cuts old → more ≡ cuts ++ new ∷ []
    → IsCut bytes new → left_at bytes new ≡ drop BETWEEN (left_at bytes old)
    → CutsTo bytes records more new
cuts_more bytes records [] more old new so_far m is e = absurd (omega (arith, so_far.some))
cuts_more bytes records (c ∷ cs) more old new so_far m is e =
    let here : left_at bytes new ≡ drop (length (c ∷ cs) * BETWEEN) records =
    e ∙ ap (drop BETWEEN) (so_far.here (length cs) refl).1 ∙ drop-drop BETWEEN (length cs * BETWEEN) records ∙ ap (λ k. drop k records) (omega arith) in
    subst (λ (l : List ℕ). CutsTo bytes records l new) (sym m)
    (record {
      each = each_push (λ n cut. IsCutAfter bytes records (n * BETWEEN) cut) (c ∷ cs) new so_far.each (is, here);
      here = λ n h. (let same : length (c ∷ cs) ≡ n = let long = length-append (c ∷ cs) (new ∷ []) in omega (arith, h, long) in subst
          (λ k. IsCutAfter bytes records (k * BETWEEN) new) same (is, here));
      some = omega arith;
    })

-- the last cut
pub cuts_end : (bytes : List ℕ) (records : List (List (List ℕ))) (cuts : List ℕ) (cut : ℕ) → CutsTo bytes records cuts cut
    → length (left_at bytes cut) < BETWEEN → AreCuts bytes records cuts
cuts_end bytes records [] cut so_far few = absurd (omega (arith, so_far.some))
cuts_end bytes records (c ∷ cs) cut so_far few =
    let long : length (left_at bytes cut) ≡ length (drop (length cs * BETWEEN) records) = ap length (so_far.here (length cs) refl).1 in
    let dropped = length-drop (length cs * BETWEEN) records in
    record { each = so_far.each; far = omega (arith, few, long, dropped) }
