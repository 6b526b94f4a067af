-- Terms of the same meaning, and the joining of sums of one instance.
use Rattle.std.proofs.Common.{◌≡◌, ℕ, ◌+◌, ◌<◌, List, [], ◌∷◌, ◌++◌, map, length, take, get_or, refl, sym, ap, ◌∙◌, arith}
use Rattle.std.proofs.lemmas.List.{map-append, append-nil, take_more}
use Rattle.std.proofs.lemmas.Grind.{flat_map-append}
use Rattle.std.specs.Prelude.{Option, Bool}
use Rattle.std.specs.List.{flat_map}
use Rattle.m_fixed.specs.declared.operator.Op.{Op}
use Rattle.m_places.specs.declared.place.Place.{Place}
use Rattle.m_ast.specs.declared.header.Header.{Header}
use Rattle.m_ast.specs.declared.header.Index.{Index}
use Rattle.m_ast.specs.declared.term.Link.{Link}
use Rattle.m_ast.specs.declared.term.Member.{Member}
use Rattle.m_ast.specs.Syntax.{Syntax, cell, apply, chain, among, loop}
use Rattle.m_ast.specs.View.{terms_of, links_of, members_of}
use Rattle.m_ast.specs.PlainView.{links_of as plain_links_of, members_of as plain_members_of}
use Rattle.loop_values.specs.Values.{index_values}
use Rattle.loop_values.specs.Headers.{instances, instance_count}
use Rattle.loop_values.specs.Letters.{Letters, bind, replaced}
use Rattle.loop_values.proofs.Counts.{length_instances}
use Rattle.index_expand.specs.Terms.{expanded, expanded_terms, expanded_links, expanded_members, summed}
use Rattle.index_expand.specs.inner.Operands.{link_expanded, member_expanded}
use Rattle.index_expand.specs.inner.Meanings.{meaning, link_meaning, member_meaning}
use Rattle.index_expand.proofs.TermLemmas.{terms_map, links_map, members_map}

-- ---- terms whose parts have the same meaning have the same meaning

read : {A B : Type 0} (f : Option ℕ → Letters → A → B) (k : Option ℕ) (letters : Letters) (xs : List A)
    → map (f k letters) xs ≡ map (λ (m : Option ℕ → Letters → B). m k letters) (map (λ a. λ n ls. f n ls a) xs)
read f k letters [] = refl
read f k letters (x ∷ xs) = ap (λ rest. f k letters x ∷ rest) (read f k letters xs)

terms_same : (xs ys : List Syntax) → map meaning xs ≡ map meaning ys → (k : Option ℕ) (letters : Letters)
    → expanded_terms k letters (terms_of xs) ≡ expanded_terms k letters (terms_of ys)
terms_same xs ys e k letters =
    sym (terms_map k letters xs)
    ∙ ap terms_of (read expanded k letters xs ∙ ap (map (λ m. m k letters)) e ∙ sym (read expanded k letters ys))
    ∙ terms_map k letters ys

links_same : (xs ys : List Link) → map link_meaning xs ≡ map link_meaning ys → (k : Option ℕ) (letters : Letters)
    → expanded_links k letters (links_of xs) ≡ expanded_links k letters (links_of ys)
links_same xs ys e k letters =
    sym (links_map k letters xs)
    ∙ ap plain_links_of (read link_expanded k letters xs ∙ ap (map (λ m. m k letters)) e ∙ sym (read link_expanded k letters ys))
    ∙ links_map k letters ys

members_same : (xs ys : List Member) → map member_meaning xs ≡ map member_meaning ys → (k : Option ℕ) (letters : Letters)
    → expanded_members k letters (members_of xs) ≡ expanded_members k letters (members_of ys)
members_same xs ys e k letters =
    sym (members_map k letters xs)
    ∙ ap plain_members_of (read member_expanded k letters xs ∙ ap (map (λ m. m k letters)) e ∙ sym (read member_expanded k letters ys))
    ∙ members_map k letters ys

pub cell_same : (word : List ℕ) (place : Place) (a b : Syntax) → meaning a ≡ meaning b → meaning (cell word a place) ≡ meaning (cell word b place)
cell_same word place a b e = λ i k letters. cell (replaced letters word) (e i k letters) place

pub apply_same : (op : Op) (xs ys : List Syntax) → map meaning xs ≡ map meaning ys → meaning (apply op (terms_of xs)) ≡ meaning (apply op (terms_of ys))
apply_same op xs ys e = λ i k letters. apply op (terms_same xs ys e k letters i)

pub chain_same : (a b : Syntax) (xs ys : List Link) → meaning a ≡ meaning b → map link_meaning xs ≡ map link_meaning ys
    → meaning (chain a (links_of xs)) ≡ meaning (chain b (links_of ys))
chain_same a b xs ys first e = λ i k letters. chain (first i k letters) (links_same xs ys e k letters i)

pub among_same : (negated : Bool) (a b : Syntax) (xs ys : List Member) → meaning a ≡ meaning b → map member_meaning xs ≡ map member_meaning ys
    → meaning (among negated a (members_of xs)) ≡ meaning (among negated b (members_of ys))
among_same negated a b xs ys first e = λ i k letters. among negated (first i k letters) (members_same xs ys e k letters i)

pub loop_same : (header : Header) (a b : Syntax) → meaning a ≡ meaning b → meaning (loop header a) ≡ meaning (loop header b)
loop_same header a b e = λ i k letters. summed (map (λ bound. e i k bound) (instances header.indexes letters))

pub link_same : (x y : Link) → x.op ≡ y.op → meaning x.term ≡ meaning y.term → link_meaning x ≡ link_meaning y
link_same x y op e = λ i k letters. record { op = op i; term = e i k letters }

pub member_same : (x y : Member) → meaning x.low ≡ meaning y.low → meaning x.high ≡ meaning y.high → member_meaning x ≡ member_meaning y
member_same x y low high = λ i k letters. record { low = low i k letters; high = high i k letters }

-- one more part
pub same_more : {A B : Type 0} (f : A → B) (done next : List A) (xs : List A) (i : ℕ) (x y : A) → i < length xs → x ≡ get_or xs i x
    → map f done ≡ map f (take i xs) → f y ≡ f x → next ≡ done ++ y ∷ [] → map f next ≡ map f (take (i + 1) xs)
same_more f done next xs i x y l at inv e pushed =
    ap (map f) pushed
    ∙ map-append f done (y ∷ [])
    ∙ (λ k. inv k ++ e k ∷ [])
    ∙ sym (map-append f (take i xs) (x ∷ []))
    ∙ ap (map f) (sym (take_more xs i x l ∙ (λ k. take i xs ++ sym at k ∷ [])))

-- ---- a sum of one instance over another sum

flat_nested : {A B C : Type 0} (g : B → List C) (f : A → List B) (vs : List A) → flat_map (λ v. flat_map g (f v)) vs ≡ flat_map g (flat_map f vs)
flat_nested g f [] = refl
flat_nested g f (v ∷ vs) = ap (λ rest. flat_map g (f v) ++ rest) (flat_nested g f vs) ∙ sym (flat_map-append g (f v) (flat_map f vs))

instances_append : (xs ys : List Index) (letters : Letters) → instances (xs ++ ys) letters ≡ flat_map (instances ys) (instances xs letters)
instances_append [] ys letters = sym (append-nil (instances ys letters))
instances_append (x ∷ xs) ys letters =
    (λ i. flat_map (λ v. instances_append xs ys (bind letters x.letter v) i) (index_values x))
    ∙ flat_nested (instances ys) (λ v. instances xs (bind letters x.letter v)) (index_values x)

one_sum : (k : Option ℕ) (a : Syntax) (inner : List Index) (outer : List Letters) → length outer ≡ 1
    → summed (map (λ bound. expanded k bound a) (flat_map (instances inner) outer)) ≡ summed
    (map (λ bound. summed (map (λ b. expanded k b a) (instances inner bound))) outer)
one_sum k a inner [] one = absurd (omega arith)
one_sum k a inner (b ∷ []) one = ap (λ all. summed (map (λ bound. expanded k bound a) all)) (append-nil (instances inner b))
one_sum k a inner (b ∷ c ∷ rest) one = absurd (omega arith)

pub loop_joined : (outer inner joined : Header) (a : Syntax) → instance_count outer.indexes ≡ 1
    → ((letters : Letters) → instances joined.indexes letters ≡ instances (outer.indexes ++ inner.indexes) letters)
    → meaning (loop joined a) ≡ meaning (loop outer (loop inner a))
loop_joined outer inner joined a one e = λ i k letters. each k letters i
  where
    each : (k : Option ℕ) (letters : Letters) → expanded k letters (loop joined a) ≡ expanded k letters (loop outer (loop inner a))
    each k letters =
        ap (λ all. summed (map (λ bound. expanded k bound a) all)) (e letters ∙ instances_append outer.indexes inner.indexes letters)
        ∙ one_sum k a inner.indexes (instances outer.indexes letters) (length_instances outer.indexes letters ∙ one)
