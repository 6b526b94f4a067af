-- Terms with their loops expanded, element by element.
use Rattle.std.proofs.Common.{◌≡◌, ℕ, zero, suc, ◌+◌, ◌<◌, ◌≤◌, List, [], ◌∷◌, ◌++◌, map, length, drop, get_or, append_assoc, refl, sym, ap, ◌∙◌, arith}
use Rattle.std.proofs.Math.ListN.{set}
use Rattle.std.proofs.lemmas.List.{map-append, set-set, set-get_or}
use Rattle.std.specs.Prelude.{Option}
use Rattle.std.specs.List.{flat_map}
use Rattle.m_ast.specs.declared.header.Index.{Index}
use Rattle.m_ast.specs.declared.term.Link.{Link}
use Rattle.m_ast.specs.declared.term.Member.{Member}
use Rattle.m_ast.specs.Syntax.{Syntax, chain}
use Rattle.m_ast.specs.View.{terms_of, links_of, members_of}
use Rattle.m_ast.specs.PlainView.{links_of as plain_links_of, members_of as plain_members_of}
use Rattle.loop_values.specs.Headers.{instances}
use Rattle.loop_values.specs.Letters.{Letters}
use Rattle.index_expand.specs.Terms.{expanded, expanded_terms, expanded_links, expanded_members, added, summed}
use Rattle.index_expand.specs.inner.Operands.{link_expanded, member_expanded, instance_link, links_sum}
use Rattle.index_expand.proofs.Loads.{load, terms_load, links_load, members_load}
use Rattle.index_expand.proofs.FaultLemmas.{drop_next}

pub term_below : (all : List Syntax) (i : ℕ) (x : Syntax) → i < length all → x ≡ get_or all i x → load x < terms_load (terms_of all)
term_below [] i x l e = absurd (omega arith)
term_below (y ∷ ys) zero x l e = omega (arith, ap load e)
term_below (y ∷ ys) (suc i) x l e = omega (arith, term_below ys i x (omega arith) e)

pub link_below : (all : List Link) (i : ℕ) (x : Link) → i < length all → x ≡ get_or all i x → load x.term < links_load (links_of all)
link_below [] i x l e = absurd (omega arith)
link_below (y ∷ ys) zero x l e = omega (arith, ap (λ (z : Link). load z.term) e)
link_below (y ∷ ys) (suc i) x l e = omega (arith, link_below ys i x (omega arith) e)

pub low_below : (all : List Member) (i : ℕ) (x : Member) → i < length all → x ≡ get_or all i x → load x.low < members_load (members_of all)
low_below [] i x l e = absurd (omega arith)
low_below (y ∷ ys) zero x l e = omega (arith, ap (λ (z : Member). load z.low) e)
low_below (y ∷ ys) (suc i) x l e = omega (arith, low_below ys i x (omega arith) e)

pub high_below : (all : List Member) (i : ℕ) (x : Member) → i < length all → x ≡ get_or all i x → load x.high < members_load (members_of all)
high_below [] i x l e = absurd (omega arith)
high_below (y ∷ ys) zero x l e = omega (arith, ap (λ (z : Member). load z.high) e)
high_below (y ∷ ys) (suc i) x l e = omega (arith, high_below ys i x (omega arith) e)

pub terms_map : (k : Option ℕ) (letters : Letters) (all : List Syntax) → terms_of (map (expanded k letters) all) ≡ expanded_terms k letters (terms_of all)
terms_map k letters [] = refl
terms_map k letters (x ∷ xs) = rw (terms_map k letters xs) refl

pub links_map : (k : Option ℕ) (letters : Letters) (all : List Link) → plain_links_of (map (link_expanded k letters) all) ≡ expanded_links k letters
    (links_of all)
links_map k letters [] = refl
links_map k letters (x ∷ xs) = rw (links_map k letters xs) refl

pub members_map : (k : Option ℕ) (letters : Letters) (all : List Member) → plain_members_of (map (member_expanded k letters) all) ≡ expanded_members k letters
    (members_of all)
members_map k letters [] = refl
members_map k letters (x ∷ xs) = rw (members_map k letters xs) refl

links_added : (k : Option ℕ) (body : Syntax) (bounds : List Letters)
    → plain_links_of (map (instance_link k body) bounds) ≡ added (map (λ bound. expanded k bound body) bounds)
links_added k body [] = refl
links_added k body (b ∷ bs) = rw (links_added k body bs) refl

pub sum_is : (k : Option ℕ) (body : Syntax) (bounds : List Letters)
    → links_sum (map (instance_link k body) bounds) ≡ summed (map (λ bound. expanded k bound body) bounds)
sum_is k body [] = refl
sum_is k body (b ∷ []) = refl
sum_is k body (b ∷ c ∷ rest) = ap (chain (expanded k b body)) (links_added k body (c ∷ rest))

-- the instances of one more value
pub instances_next : {A B C : Type 0} (f : B → C) (g : A → List B) (values : List A) (i : ℕ) (v : A) (done next all : List C) → i < length values
    → v ≡ get_or values i v → done ++ map f (flat_map g (drop i values)) ≡ all → next ≡ done ++ map f (g v)
    → next ++ map f (flat_map g (drop (i + 1) values)) ≡ all
instances_next f g values i v done next all l at inv e =
    ap (λ n. n ++ map f (flat_map g (drop (i + 1) values))) e
    ∙ append_assoc done (map f (g v)) (map f (flat_map g (drop (i + 1) values)))
    ∙ ap (λ r. done ++ r) (sym (map-append f (g v) (flat_map g (drop (i + 1) values))))
    ∙ ap (λ vs. done ++ map f (flat_map g vs)) (sym (drop_next values i v l at))
    ∙ inv

-- the first index, and those after it
pub instances_front : (indexes : List Index) (x : Index) (letters : Letters) → 1 ≤ length indexes → x ≡ get_or indexes 0 x
    → instances (x ∷ drop 1 indexes) letters ≡ instances indexes letters
instances_front [] x letters h e = absurd (omega arith)
instances_front (y ∷ ys) x letters h e = ap (λ (z : Index). instances (z ∷ ys) letters) e

-- the previous binding of a letter is restored
pub put_back : (letters : Letters) (i : ℕ) (v outer : Option (List ℕ)) (d : Option (List ℕ)) → outer ≡ get_or letters i d
    → set (set letters i v) i outer ≡ letters
put_back letters i v outer d e = set-set letters i v outer ∙ ap (set letters i) e ∙ set-get_or letters i d
