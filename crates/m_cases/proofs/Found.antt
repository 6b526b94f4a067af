-- The index of names by their first occurrences.
use Rattle.std.proofs.Common.{◌≡◌, ℕ, zero, suc, ◌+◌, ◌<◌, Bool, true, false, not, cond, arith, add-one, get_or, take, List, [], ◌∷◌, ◌++◌, length, Option}
use Rattle.std.proofs.Common.{Some, None, refl, sym, ap, ◌∙◌, subst}
use Rattle.std.specs.Option.{option_map}
use Rattle.std.specs.Str.{bytes_eq}
use Rattle.std.proofs.lemmas.Bool.{false≢true}
use Rattle.std.proofs.lemmas.List.{append-nil, take_more, length-append}
use Rattle.m_names.specs.Names.{has, index_of}
use Rattle.m_names.proofs.NameLemmas.{same, index_of-none, index_of-some}
use Rattle.observables.specs.declared.face.FaceOutput.{FaceOutput}
use Rattle.observables.specs.declared.face.FaceOutput.TheVariants.{Named, Noted}
use Rattle.observables.specs.Outputs.{names_of}
use Rattle.m_cases.specs.inner.Outputs.{Finds}

-- a position, or else the next one
abbrev or_at : Option ℕ → Bool → ℕ → Option ℕ
or_at (Some i) b n = Some i
or_at None b n = cond b (Some n) None

shift : (o : Option ℕ) (b : Bool) (n : ℕ) → option_map (λ i. i + 1) (or_at o b n) ≡ or_at (option_map (λ i. i + 1) o) b (suc n)
shift (Some i) b n = refl
shift None true n = ap Some (add-one n)
shift None false n = refl

index_push : (x : List ℕ) (ns : List (List ℕ)) (m : List ℕ) → index_of x (ns ++ m ∷ []) ≡ or_at (index_of x ns) (bytes_eq x m) (length ns)
index_push x [] m = refl
index_push x (n ∷ ns) m =
    let more = ap (option_map (λ i. i + 1)) (index_push x ns m) ∙ shift (index_of x ns) (bytes_eq x m) (length ns) in
    elim (bytes_eq x n) as (λ b. cond b (Some 0) (option_map (λ i. i + 1) (index_of x (ns ++ m ∷ []))) ≡ or_at
    (cond b (Some 0) (option_map (λ i. i + 1) (index_of x ns))) (bytes_eq x m) (suc (length ns)))
    [ true ↦ refl | false ↦ more ]

at_end : (places : List ℕ) (place n : ℕ) → length places ≡ n → get_or (places ++ place ∷ []) n 0 ≡ place
at_end [] place n e = subst (λ k. get_or (place ∷ []) k 0 ≡ place) e refl
at_end (p ∷ places) place n e = subst (λ k. get_or (p ∷ places ++ place ∷ []) k 0 ≡ place) e (at_end places place (length places) refl)

at_front : (places : List ℕ) (place i : ℕ) → i < length places → get_or (places ++ place ∷ []) i 0 ≡ get_or places i 0
at_front [] place i l = absurd (omega (arith, l))
at_front (p ∷ places) place zero l = refl
at_front (p ∷ places) place (suc i) l = at_front places place i (omega (arith, l))

-- one more name, at the next position
pub finds_next : (names known : List (List ℕ)) (places : List ℕ) (name : List ℕ) (place : ℕ) → length names ≡ place → Finds names known places
    → Finds (names ++ name ∷ []) (known ++ name ∷ []) (places ++ place ∷ [])
finds_next names known places name place l f = record {
  many = let a = length-append places (place ∷ []) in let b = length-append known (name ∷ []) in let c = f.many in omega (arith, a, b, c);
  each = λ x.
      index_push x names name ∙ ap (λ o. or_at o (bytes_eq x name) (length names)) (f.each x)
      ∙ by x (index_of x known) (bytes_eq x name) (λ i e. (index_of-some x known i e).1)
      ∙ sym (ap (option_map (λ i. get_or (places ++ place ∷ []) i 0)) (index_push x known name));
}
  where
    by : (x : List ℕ) (o : Option ℕ) (b : Bool) → ((i : ℕ) → o ≡ Some i → i < length known)
        → or_at (option_map (λ i. get_or places i 0) o) b (length names) ≡ option_map (λ i. get_or (places ++ place ∷ []) i 0) (or_at o b (length known))
    by x (Some i) b h = ap Some (sym (at_front places place i (let below = h i refl in let c = f.many in omega (arith, below, c))))
    by x None true h = ap Some (l ∙ sym (at_end places place (length known) f.many))
    by x None false h = refl

-- a name that the index has already
pub finds_again : (names known : List (List ℕ)) (places : List ℕ) (name : List ℕ) → has name known ≡ true → Finds names known places
    → Finds (names ++ name ∷ []) known places
finds_again names known places name there f = record {
  many = f.many;
  each = λ x.
      index_push x names name ∙ ap (λ o. or_at o (bytes_eq x name) (length names)) (f.each x)
      ∙ by x (index_of x known) (bytes_eq x name)
      (λ e t. false≢true (sym (index_of-none x known e) ∙ subst (λ (n : List ℕ). has n known ≡ true) (sym (same x name t)) there));
}
  where
    by : (x : List ℕ) (o : Option ℕ) (b : Bool) → (o ≡ None → b ≡ true → ⊥) → or_at (option_map (λ i. get_or places i 0) o) b (length names) ≡ option_map
        (λ i. get_or places i 0) o
    by x (Some i) b h = refl
    by x None true h = absurd (h refl refl)
    by x None false h = refl

-- a name that wasn't added, and one that was
known_there : (h : Bool) → not h ≡ false → h ≡ true
known_there true e = refl
known_there false e = absurd (false≢true (sym e))

pub put_again : (names known new : List (List ℕ)) (places : List ℕ) (name : List ℕ) (fresh : Bool) → fresh ≡ not (has name known)
    → new ≡ cond fresh (known ++ name ∷ []) known → fresh ≡ false → Finds names known places
    → Finds (names ++ name ∷ []) new places
put_again names known new places name fresh f n no_more is =
    let same : new ≡ known = n ∙ ap (λ b. cond b (known ++ name ∷ []) known) no_more in
    subst (λ (ks : List (List ℕ)). Finds (names ++ name ∷ []) ks places) (sym same)
    (finds_again names known places name (known_there (has name known) (sym f ∙ no_more)) is)

pub put_new : (names known new : List (List ℕ)) (places added : List ℕ) (name : List ℕ) (place : ℕ) (fresh : Bool) → new ≡ cond fresh (known ++ name ∷ []) known
    → fresh ≡ true → added ≡ places ++ place ∷ [] → length names ≡ place
    → Finds names known places → Finds (names ++ name ∷ []) new added
put_new names known new places added name place fresh n more a l is =
    let longer : new ≡ known ++ name ∷ [] = n ∙ ap (λ b. cond b (known ++ name ∷ []) known) more in
    subst (λ (ks : List (List ℕ)). Finds (names ++ name ∷ []) ks added) (sym longer)
    (subst (λ (ps : List ℕ). Finds (names ++ name ∷ []) (known ++ name ∷ []) ps) (sym a) (finds_next names known places name place l is))

-- the empty index
pub finds_none : (names known : List (List ℕ)) (places : List ℕ) → names ≡ [] → known ≡ [] → places ≡ [] → Finds names known places
finds_none names known places n k p =
    subst (λ (ns : List (List ℕ)). Finds ns known places) (sym n)
    (subst (λ (ks : List (List ℕ)). Finds [] ks places) (sym k) (subst (λ (ps : List ℕ). Finds [] [] ps) (sym p) (record { many = refl; each = λ x. refl })))

-- ---- the names of outputs, in order

names_push : (outputs : List FaceOutput) (output : FaceOutput) → names_of (outputs ++ output ∷ []) ≡ names_of outputs ++ names_of (output ∷ [])
names_push [] output = refl
names_push (Named name ∷ outputs) output = ap (λ (ns : List (List ℕ)). name ∷ ns) (names_push outputs output)
names_push (Noted number ∷ outputs) output = names_push outputs output

pub names_next : (outputs : List FaceOutput) (i : ℕ) (output : FaceOutput) → i < length outputs → output ≡ get_or outputs i output
    → names_of (take (i + 1) outputs) ≡ names_of (take i outputs) ++ names_of (output ∷ [])
names_next outputs i output h is = ap names_of (take_more outputs i output h) ∙ ap (λ o. names_of (take i outputs ++ o ∷ [])) (sym is)
    ∙ names_push (take i outputs) output

-- an output with a name, and one without
pub finds_named : (outputs : List FaceOutput) (i : ℕ) (output : FaceOutput) (name : List ℕ) (known : List (List ℕ)) (places : List ℕ) → i < length outputs
    → output ≡ get_or outputs i output → output ≡ Named name
    → Finds (names_of (take i outputs) ++ name ∷ []) known places → Finds (names_of (take (i + 1) outputs)) known places
finds_named outputs i output name known places h is named f =
    subst (λ (ns : List (List ℕ)). Finds ns known places)
    (sym (names_next outputs i output h is ∙ ap (λ o. names_of (take i outputs) ++ names_of (o ∷ [])) named)) f

pub counts_named : (outputs : List FaceOutput) (i : ℕ) (output : FaceOutput) (name : List ℕ) → i < length outputs → output ≡ get_or outputs i output
    → output ≡ Named name
    → length (names_of (take (i + 1) outputs)) ≡ length (names_of (take i outputs)) + 1
counts_named outputs i output name h is named =
    ap (λ (ns : List (List ℕ)). length ns) (names_next outputs i output h is ∙ ap (λ o. names_of (take i outputs) ++ names_of (o ∷ [])) named)
    ∙ length-append (names_of (take i outputs)) (name ∷ [])

pub same_noted : (outputs : List FaceOutput) (i : ℕ) (output : FaceOutput) (number : ℕ) → i < length outputs → output ≡ get_or outputs i output
    → output ≡ Noted number
    → names_of (take (i + 1) outputs) ≡ names_of (take i outputs)
same_noted outputs i output number h is noted =
    names_next outputs i output h is ∙ ap (λ o. names_of (take i outputs) ++ names_of (o ∷ [])) noted ∙ append-nil (names_of (take i outputs))
