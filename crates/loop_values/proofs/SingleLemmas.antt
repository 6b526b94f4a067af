-- An index of one value has one instance, and its letter's previous binding is restored.
use Rattle.std.proofs.Common.{◌≡◌, ℕ, ◌+◌, ◌<◌, List, [], ◌∷◌, ◌++◌, length, drop, take, get_or, refl, sym, ap, ◌∙◌, arith}
use Rattle.std.proofs.Math.ListN.{set}
use Rattle.std.proofs.lemmas.List.{append-nil, length-take-le, set-set, set-get_or, take_more}
use Rattle.std.specs.Prelude.{Option}
use Rattle.std.specs.List.{flat_map}
use Rattle.m_ast.specs.declared.header.Index.{Index}
use Rattle.loop_values.specs.Letters.{Letters, bind}
use Rattle.loop_values.specs.Values.{index_values}
use Rattle.loop_values.specs.Headers.{instances}
use Rattle.loop_values.specs.inner.Singles.{unbound}
use Rattle.loop_values.proofs.KeptLemmas.{front_index}

pub single_first : (x : Index) (rest : List Index) (letters : Letters) (v : List ℕ) → index_values x ≡ v ∷ []
    → instances (x ∷ rest) letters ≡ instances rest (bind letters x.letter v)
single_first x rest letters v e = ap (flat_map (λ w. instances rest (bind letters x.letter w))) e ∙ append-nil (instances rest (bind letters x.letter v))

-- one more index is bound
pub bound_next : (indexes rest : List Index) (i : ℕ) (x : Index) (v : List ℕ) (letters : Letters) (all : List Letters) → i < length indexes
    → x ≡ get_or indexes i x → index_values x ≡ v ∷ []
    → instances (drop i indexes ++ rest) letters ≡ all → instances (drop (i + 1) indexes ++ rest) (bind letters x.letter v) ≡ all
bound_next indexes rest i x v letters all l at e inv =
    sym (single_first x (drop (i + 1) indexes ++ rest) letters v e) ∙ ap (λ xs. instances xs letters) (sym (front_index indexes rest i x l at)) ∙ inv

unbound_last : (indexes : List Index) (outer : List (Option (List ℕ))) (x : Index) (v : Option (List ℕ)) (letters : Letters) → length outer ≡ length indexes
    → unbound (indexes ++ x ∷ []) (outer ++ v ∷ []) letters ≡ unbound indexes outer (set letters x.letter v)
unbound_last [] [] x v letters h = refl
unbound_last [] (o ∷ os) x v letters h = absurd (omega arith)
unbound_last (i ∷ is) [] x v letters h = absurd (omega arith)
unbound_last (i ∷ is) (o ∷ os) x v letters h = ap (λ ls. set ls i.letter o) (unbound_last is os x v letters (omega arith))

-- the binding of the last index is restored
pub unbound_less : (indexes : List Index) (i : ℕ) (x : Index) (outer : List (Option (List ℕ))) (v : Option (List ℕ)) (letters : Letters) → i < length indexes
    → x ≡ get_or indexes i x → length outer ≡ i
    → unbound (take (i + 1) indexes) (outer ++ v ∷ []) letters ≡ unbound (take i indexes) outer (set letters x.letter v)
unbound_less indexes i x outer v letters l at h =
    ap (λ xs. unbound xs (outer ++ v ∷ []) letters) (take_more indexes i x l ∙ (λ k. take i indexes ++ sym at k ∷ []))
    ∙ unbound_last (take i indexes) outer x v letters (h ∙ sym (length-take-le i indexes (omega arith)))

-- the previous binding of one more index is kept
pub unbound_next : (indexes : List Index) (i : ℕ) (x : Index) (outer : List (Option (List ℕ))) (v old d : Option (List ℕ)) (letters all : Letters)
    → i < length indexes → x ≡ get_or indexes i x → length outer ≡ i
    → old ≡ get_or letters x.letter d → unbound (take i indexes) outer letters ≡ all
    → unbound (take (i + 1) indexes) (outer ++ old ∷ []) (set letters x.letter v) ≡ all
unbound_next indexes i x outer v old d letters all l at h e inv =
    unbound_less indexes i x outer old (set letters x.letter v) l at h
    ∙ ap (unbound (take i indexes) outer) (set-set letters x.letter v old ∙ ap (set letters x.letter) e ∙ set-get_or letters x.letter d)
    ∙ inv
