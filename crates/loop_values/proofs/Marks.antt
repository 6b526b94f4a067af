-- Letters that occurred once, and letters that occurred twice.
use Rattle.std.proofs.Common.{◌≡◌, ℕ, ◌+◌, ◌<◌, List, [], length, take, get_or, Bool, true, false, ◌||◌, ltb, arith, sym, ap, ◌∙◌, ⊎_elim}
use Rattle.std.proofs.Math.ListN.{set, length-set, replicate}
use Rattle.std.specs.Prelude.{count_by, ◌==◌}
use Rattle.std.proofs.lemmas.Bool.{cases_eq, cases_lt, lt-ltb, le-ltb, eq-eqb, ne_eqb, or_right, or_from}
use Rattle.std.proofs.lemmas.List.{get_or-set_same, get_or-set_other, length-replicate, get_or-replicate}
use Rattle.std.proofs.lemmas.List.Sums.{count_by_more_yes, count_by_more_no}
use Rattle.m_ast.specs.declared.header.Index.{Index}

-- how often a letter occurs among indexes
abbrev pub uses : ℕ → List Index → ℕ
uses letter indexes = count_by (λ index. index.letter == letter) indexes

pub record IsMarked (once twice : List Bool) (seen : List Index) : Type 0 where
  pub wide : length once ≡ 256
  pub broad : length twice ≡ 256
  pub first : (b : ℕ) → b < 256 → get_or once b false ≡ ltb 0 (uses b seen)
  pub second : (b : ℕ) → b < 256 → get_or twice b false ≡ ltb 1 (uses b seen)

one_more : (n : ℕ) → (ltb 1 n || ltb 0 n) ≡ ltb 1 (n + 1)
one_more n =
    ⊎_elim
    (λ some. or_right (ltb 1 n) (ltb 0 n) (lt-ltb 0 n some) ∙ sym (lt-ltb 1 (n + 1) (omega arith)))
    (λ none. or_from (ltb 1 n) (ltb 0 n) (le-ltb 1 n (omega arith)) (le-ltb 0 n none) ∙ sym (le-ltb 1 (n + 1) (omega arith)))
    (cases_lt 0 n)

uses_yes : (indexes : List Index) (i : ℕ) (x : Index) (b : ℕ) → i < length indexes → x ≡ get_or indexes i x → b ≡ x.letter
    → uses b (take (i + 1) indexes) ≡ uses b (take i indexes) + 1
uses_yes indexes i x b l at e = count_by_more_yes (λ index. index.letter == b) indexes i x l (ap (λ (y : Index). y.letter == b) (sym at)
    ∙ eq-eqb x.letter b (sym e))

uses_no : (indexes : List Index) (i : ℕ) (x : Index) (b : ℕ) → i < length indexes → x ≡ get_or indexes i x → (b ≡ x.letter → ⊥)
    → uses b (take (i + 1) indexes) ≡ uses b (take i indexes)
uses_no indexes i x b l at e = count_by_more_no (λ index. index.letter == b) indexes i x l (ap (λ (y : Index). y.letter == b) (sym at)
    ∙ ne_eqb x.letter b (λ s. e (sym s)))

once_more : (once : List Bool) (indexes : List Index) (i : ℕ) (x : Index) → i < length indexes → x ≡ get_or indexes i x → length once ≡ 256
    → ((b : ℕ) → b < 256 → get_or once b false ≡ ltb 0 (uses b (take i indexes)))
    → (b : ℕ) → b < 256 → get_or (set once x.letter true) b false ≡ ltb 0 (uses b (take (i + 1) indexes))
once_more once indexes i x l at wide marked b small =
    ⊎_elim
    (λ same.
    ap (λ k. get_or (set once x.letter true) k false) same
    ∙ get_or-set_same once x.letter true false (omega arith)
    ∙ sym (lt-ltb 0 (uses b (take (i + 1) indexes)) (omega (arith, uses_yes indexes i x b l at same))))
    (λ other. get_or-set_other once x.letter b true false other ∙ marked b small ∙ ap (ltb 0) (sym (uses_no indexes i x b l at other)))
    (cases_eq b x.letter)

twice_more : (once twice : List Bool) (indexes : List Index) (i : ℕ) (x : Index) (v : Bool) → i < length indexes → x ≡ get_or indexes i x → length twice ≡ 256
    → ((b : ℕ) → b < 256 → get_or once b false ≡ ltb 0 (uses b (take i indexes)))
    → ((b : ℕ) → b < 256 → get_or twice b false ≡ ltb 1 (uses b (take i indexes)))
    → v ≡ (get_or twice x.letter false || get_or once x.letter false)
    → (b : ℕ) → b < 256 → get_or (set twice x.letter v) b false ≡ ltb 1 (uses b (take (i + 1) indexes))
twice_more once twice indexes i x v l at wide first second e b small =
    ⊎_elim
    (λ same.
    ap (λ k. get_or (set twice x.letter v) k false) same
    ∙ get_or-set_same twice x.letter v false (omega arith)
    ∙ e
    ∙ ap (λ k. get_or twice k false || get_or once k false) (sym same)
    ∙ (λ k. second b small k || first b small k)
    ∙ one_more (uses b (take i indexes))
    ∙ ap (ltb 1) (sym (uses_yes indexes i x b l at same)))
    (λ other. get_or-set_other twice x.letter b v false other ∙ second b small ∙ ap (ltb 1) (sym (uses_no indexes i x b l at other)))
    (cases_eq b x.letter)

pub mark_more : (once twice : List Bool) (indexes : List Index) (i : ℕ) (x : Index) (v : Bool) → i < length indexes → x ≡ get_or indexes i x
    → IsMarked once twice (take i indexes) → v ≡ (get_or twice x.letter false || get_or once x.letter false)
    → IsMarked (set once x.letter true) (set twice x.letter v) (take (i + 1) indexes)
mark_more once twice indexes i x v l at m e = record {
  wide = length-set once x.letter true ∙ m.wide;
  broad = length-set twice x.letter v ∙ m.broad;
  first = once_more once indexes i x l at m.wide m.first;
  second = twice_more once twice indexes i x v l at m.broad m.first m.second e;
}

pub marked_none : IsMarked (replicate 256 false) (replicate 256 false) []
marked_none = record {
  wide = length-replicate 256 false;
  broad = length-replicate 256 false;
  first = λ b h. get_or-replicate 256 b false false h;
  second = λ b h. get_or-replicate 256 b false false h;
}
