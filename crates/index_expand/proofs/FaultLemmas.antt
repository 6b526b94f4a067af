-- Lists of faults, one fault at a time.
use Rattle.std.proofs.Common.{◌≡◌, ℕ, suc, ◌+◌, ◌<◌, List, [], ◌∷◌, ◌++◌, length, drop, get_or, Bool, true, false, refl, sym, ap, ◌∙◌, arith}
use Rattle.std.proofs.Math.Seq.{drop-cons}
use Rattle.std.specs.Prelude.{Option, filter}
use Rattle.std.specs.List.{flat_map}
use Rattle.m_ast.specs.declared.header.Header.{Header}
use Rattle.m_ast.specs.declared.header.Index.{Index}
use Rattle.loop_values.specs.Headers.{all_indexes, is_bad_index}
use Rattle.loop_values.specs.Values.{is_nothing}
use Rattle.index_expand.specs.declared.fault.ExpandFault.{ExpandFault}
use Rattle.index_expand.specs.LoopFaults.{least, earlier, Scope, scope_within, bad_ranges}

pub drop_next : {A : Type 0} (xs : List A) (i : ℕ) (x : A) → i < length xs → x ≡ get_or xs i x → drop i xs ≡ x ∷ drop (i + 1) xs
drop_next xs i x h e = let one : suc i ≡ i + 1 = omega arith in drop-cons xs i x h ∙ (λ k. sym e k ∷ drop (one k) xs)

pub least_append : (first : Option ExpandFault) (xs ys : List ExpandFault) → least first (xs ++ ys) ≡ least (least first xs) ys
least_append first [] ys = refl
least_append first (x ∷ xs) ys = least_append (earlier first x) xs ys

-- the least fault after a prefix of the faults
pub least_next : (first next : Option ExpandFault) (here rest whole : List ExpandFault) (all : Option ExpandFault) → least first whole ≡ all
    → whole ≡ here ++ rest → next ≡ least first here → least next rest ≡ all
least_next first next here rest whole all inv w e = ap (λ f. least f rest) e ∙ sym (least_append first here rest) ∙ ap (least first) (sym w) ∙ inv

-- one list of faults after another
pub least_both : (first next last : Option ExpandFault) (xs ys : List ExpandFault) → next ≡ least first xs → last ≡ least next ys
    → last ≡ least first (xs ++ ys)
least_both first next last xs ys e f = f ∙ ap (λ n. least n ys) e ∙ sym (least_append first xs ys)

pub least_three : (first next third last : Option ExpandFault) (xs ys zs : List ExpandFault) → next ≡ least first xs → third ≡ least next ys
    → last ≡ least third zs → last ≡ least first (xs ++ (ys ++ zs))
least_three first next third last xs ys zs e f g = least_both first next last xs (ys ++ zs) e (least_both next third last ys zs f g)

pub scope_append : (xs ys : List Index) (scope : Scope) → scope_within (xs ++ ys) scope ≡ scope_within ys (scope_within xs scope)
scope_append [] ys scope = refl
scope_append (x ∷ xs) ys scope = scope_append xs ys _

pub scope_next : (headers : List Header) (i : ℕ) (x : Header) (scope next all : Scope) → i < length headers → x ≡ get_or headers i x
    → scope_within (all_indexes (drop i headers)) scope ≡ all → next ≡ scope_within x.indexes scope
    → scope_within (all_indexes (drop (i + 1) headers)) next ≡ all
scope_next headers i x scope next all l at inv e =
    ap (scope_within (all_indexes (drop (i + 1) headers))) e
    ∙ sym (scope_append x.indexes (all_indexes (drop (i + 1) headers)) scope)
    ∙ ap (λ hs. scope_within (all_indexes hs) scope) (sym (drop_next headers i x l at))
    ∙ inv

pub bad_here : (header : List Index) (x : Index) (rest : List Index) → is_bad_index header x ≡ true → is_nothing (bad_ranges header (x ∷ rest)) ≡ false
bad_here header x rest e = rw e refl

-- ---- items that count, and those that don't

pub filter_yes : {A : Type 0} (p : A → Bool) (x : A) (rest : List A) → p x ≡ true → filter p (x ∷ rest) ≡ x ∷ filter p rest
filter_yes p x rest e = rw e refl

pub filter_no : {A : Type 0} (p : A → Bool) (x : A) (rest : List A) → p x ≡ false → filter p (x ∷ rest) ≡ filter p rest
filter_no p x rest e = rw e refl

pub counted_yes : {A : Type 0} (p : A → Bool) (f : A → List ExpandFault) (xs : List A) (i : ℕ) (x : A) (first next all : Option ExpandFault) → i < length xs
    → x ≡ get_or xs i x → p x ≡ true
    → least first (flat_map f (filter p (drop i xs))) ≡ all → next ≡ least first (f x) → least next (flat_map f (filter p (drop (i + 1) xs))) ≡ all
counted_yes p f xs i x first next all l at is inv e =
    least_next first next (f x) (flat_map f (filter p (drop (i + 1) xs))) (flat_map f (filter p (drop i xs))) all inv
    (ap (λ ys. flat_map f (filter p ys)) (drop_next xs i x l at) ∙ ap (flat_map f) (filter_yes p x (drop (i + 1) xs) is)) e

pub counted_no : {A : Type 0} (p : A → Bool) (f : A → List ExpandFault) (xs : List A) (i : ℕ) (x : A) (first all : Option ExpandFault) → i < length xs
    → x ≡ get_or xs i x → p x ≡ false
    → least first (flat_map f (filter p (drop i xs))) ≡ all → least first (flat_map f (filter p (drop (i + 1) xs))) ≡ all
counted_no p f xs i x first all l at no-is inv =
    ap (λ ys. least first (flat_map f ys)) (sym (ap (filter p) (drop_next xs i x l at) ∙ filter_no p x (drop (i + 1) xs) no-is)) ∙ inv
