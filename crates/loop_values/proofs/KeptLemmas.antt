-- Indexes that may be omitted.
use Rattle.std.proofs.Common.{◌≡◌, ℕ, suc, ◌+◌, ◌<◌, List, [], ◌∷◌, ◌++◌, length, drop, get_or, Bool, true, false, ◌||◌, eqb, Some, arith, sym, ap, ◌∙◌, ⊎_elim}
use Rattle.std.proofs.Math.ListN.{set, replicate}
use Rattle.std.proofs.Math.Seq.{drop-cons}
use Rattle.std.proofs.lemmas.Bool.{cases_eq, ne_eqb, eq-eqb, false≢true, or_left, or_right}
use Rattle.std.proofs.lemmas.List.{set-set, set_comm, get_or-set_other, append-nil, get_or-replicate, drop_all}
use Rattle.std.specs.List.{flat_map}
use Rattle.m_ast.specs.declared.header.Header.{Header}
use Rattle.m_ast.specs.declared.header.Index.{Index}
use Rattle.loop_values.specs.Letters.{Letters, bind}
use Rattle.loop_values.specs.Values.{index_values}
use Rattle.loop_values.specs.Headers.{instances, all_indexes}
use Rattle.loop_values.specs.inner.Kept.{AreKept, binds}

rest_true : (b c : Bool) → b ≡ false → (b || c) ≡ true → c ≡ true
rest_true true c e h = cc
rest_true false c e h = h

-- if the loops bind a letter again, its outer binding has no effect
hidden : (kept : List Index) (b : ℕ) (v : List ℕ) (letters : Letters) → binds b kept ≡ true → instances kept (bind letters b v) ≡ instances kept letters
hidden [] b v letters h = absurd (false≢true h)
hidden (y ∷ ys) b v letters h =
    ⊎_elim
    (λ (same : b ≡ y.letter). (λ k. flat_map
    (λ w. instances ys ((ap (λ c. set (set letters c (Some v)) y.letter (Some w)) same ∙ set-set letters y.letter (Some v) (Some w)) k)) (index_values y)))
    (λ (other : b ≡ y.letter → ⊥).
    (λ k. flat_map (λ w. (ap (instances ys) (set_comm letters b y.letter (Some v) (Some w) other)
    ∙ hidden ys b v (bind letters y.letter w) (rest_true (eqb y.letter b) (binds b ys) (ne_eqb y.letter b (λ e. other (sym e))) h)) k) (index_values y)))
    (cases_eq b y.letter)

hidden_value : (kept : List Index) (b : ℕ) (values : List (List ℕ)) (letters : Letters) → length values ≡ 1 → binds b kept ≡ true
    → flat_map (λ v. instances kept (bind letters b v)) values ≡ instances kept letters
hidden_value kept b [] letters one h = absurd (omega arith)
hidden_value kept b (v ∷ []) letters one h = append-nil (instances kept (bind letters b v)) ∙ hidden kept b v letters h
hidden_value kept b (v ∷ w ∷ rest) letters one h = absurd (omega arith)

pub left_out : (kept : List Index) (bound : List Bool) (x : Index) (all : List Index) → AreKept kept bound all → x.letter < 256
    → get_or bound x.letter false ≡ true → length (index_values x) ≡ 1 → AreKept kept bound (x ∷ all)
left_out kept bound x all k small b one = record {
  same = λ letters. sym (hidden_value kept x.letter (index_values x) letters one (k.marked x.letter small b))
      ∙ (λ i. flat_map (λ v. k.same (bind letters x.letter v) i) (index_values x));
  marked = k.marked;
}

pub put_first : (kept new : List Index) (bound : List Bool) (x : Index) (all : List Index) → AreKept kept bound all → new ≡ x ∷ kept
    → AreKept new (set bound x.letter true) (x ∷ all)
put_first kept new bound x all k e = record {
  same = λ letters. ap (λ ys. instances ys letters) e ∙ (λ i. flat_map (λ v. k.same (bind letters x.letter v) i) (index_values x));
  marked = λ b small h.
      ap (binds b) e
      ∙ ⊎_elim
      (λ (same : b ≡ x.letter). or_left (eqb x.letter b) (binds b kept) (eq-eqb x.letter b (sym same)))
      (λ (other : b ≡ x.letter → ⊥). or_right (eqb x.letter b) (binds b kept) (k.marked b small (sym (get_or-set_other bound x.letter b true false other) ∙ h)))
      (cases_eq b x.letter);
}

pub kept_start : (kept : List Index) (headers : List Header) → kept ≡ [] → AreKept kept (replicate 256 false) (all_indexes (drop (length headers) headers))
kept_start kept headers e = record {
  same = λ letters.
      ap (λ ys. instances ys letters) e
      ∙ ap (λ hs. instances (all_indexes hs) letters) (sym (drop_all (length headers) headers (omega arith)));
  marked = λ b small h. absurd (false≢true (sym (get_or-replicate 256 b false false small) ∙ h));
}

-- one more index, from the end
pub front_index : (indexes all : List Index) (left : ℕ) (x : Index) → left < length indexes → x ≡ get_or indexes left x
    → drop left indexes ++ all ≡ x ∷ (drop (left + 1) indexes ++ all)
front_index indexes all left x l at = let one : suc left ≡ left + 1 = omega arith in (λ k. (drop-cons indexes left x l ∙ (λ j. sym at j ∷ drop (one j) indexes))
    k ++ all)

pub front_header : (headers : List Header) (left : ℕ) (x : Header) → left < length headers → x ≡ get_or headers left x
    → all_indexes (drop left headers) ≡ x.indexes ++ all_indexes (drop (left + 1) headers)
front_header headers left x l at = let one : suc left ≡ left + 1 = omega arith in ap all_indexes (drop-cons headers left x l
    ∙ (λ j. sym at j ∷ drop (one j) headers))

pub kept_none : (kept : List Index) → kept ≡ [] → AreKept kept (replicate 256 false) []
kept_none kept e = record {
  same = λ letters. ap (λ ys. instances ys letters) e;
  marked = λ b small h. absurd (false≢true (sym (get_or-replicate 256 b false false small) ∙ h));
}
