-- A builder's nodes, from one to the next.
use Rattle.std.proofs.Common.{◌≡◌, ℕ, ◌<◌, ◌≤◌, Bool, false, eqb, ◌⊎◌, List, [], ◌∷◌, ◌++◌, length, take, refl, ap, sym, ◌∙◌, subst, inl, inr, ⊎_elim, arith}
use Rattle.std.specs.Prelude.{Result, Ok, Err, IfOk, OnOk, OnErr}
use Rattle.std.proofs.lemmas.Bool.{cases_lt}
use Rattle.std.proofs.lemmas.List.{length_push, take_all, take-append-le}
use Rattle.m_fixed.specs.declared.operator.Op.{Op}
use Rattle.definedness.specs.Facts.{Possible, IsFact}
use Rattle.flat_code.specs.declared.program.Node.{Node}
use Rattle.flat_code.specs.declared.program.Node.TheVariants.{Input, Lit, Do}
use Rattle.flat_code.specs.Runs.{Reading, entry_of, entries_of, IsNode}
use Rattle.flat_code.specs.Entries.{node_at, entry_at}
use Rattle.flat_code.specs.Facts.{facts}
use Rattle.flat_code.specs.Tidy.{IsNormal, IsOpen, form, has_form}
use Rattle.flat_code.specs.inner.Renumber.{AreValid}
use Rattle.flat_code.proofs.ReadLemmas.{entries-length, entries-push, at-push, at-last, node-push, node-last}
use Rattle.common_terms.specs.Numbers.{IsEntered, IsAbsent}
use Rattle.fold_terms.specs.Drafts.{AddsAnswer}
use Rattle.fold_terms.specs.inner.Built.{IsBuilt, Longer, Extends}

pub err-then : {X E : Type 0} (r : Result X E) {P Q : Type 0} → (P → Q) → OnErr r P → OnErr r Q
err-then (Ok x) f p = tt
err-then (Err e) f p = f p

-- ---- one more node

-- a node of the longer list is one of the shorter one, or the last
push-cases : (nodes : List Node) (node : Node) (p : ℕ) → p < length (nodes ++ node ∷ []) → (p < length nodes) ⊎ (p ≡ length nodes)
push-cases nodes node p lt = ⊎_elim (λ l. inl l) (λ (g : length nodes ≤ p). let e : p ≡ length nodes = omega (arith, length_push nodes node) in inr e)
    (cases_lt p (length nodes))

-- what holds of all nodes so far and of the one that is added
each-push : (P : List Node → ℕ → Type 0) (nodes : List Node) (node : Node) → ((p : ℕ) → p < length nodes → P (nodes ++ node ∷ []) p)
    → P (nodes ++ node ∷ []) (length nodes) → (p : ℕ) → p < length (nodes ++ node ∷ []) → P (nodes ++ node ∷ []) p
each-push P nodes node old last p lt = ⊎_elim (λ l. old p l) (λ e. subst (P (nodes ++ node ∷ [])) (sym e) last) (push-cases nodes node p lt)

form-same : (op : Op) {x x' y y' : Node} {f f' g g' : Possible} (same : Bool) → x' ≡ x → y' ≡ y → f' ≡ f → g' ≡ g
    → form op x' y' f' g' same ≡ form op x y f g same
form-same op same p q r s = let h : (x x' y y' : Node) (f f' g g' : Possible) → x' ≡ x → y' ≡ y → f' ≡ f → g' ≡ g
    → form op x' y' f' g' same ≡ form op x y f g same = λ x x' y y' f f' g g' p q r s. cc in h _ _ _ _ _ _ _ _ p q r s

form-push : (count : ℕ) (nodes : List Node) (last : Node) (p : ℕ) (node : Node) → p ≤ length nodes → IsNode count p node
    → has_form (nodes ++ last ∷ []) node ≡ has_form nodes node
form-push count nodes last p (Input n) le h = refl
form-push count nodes last p (Lit v) le h = refl
form-push count nodes last p (Do op a b c) le h =
    let la : a < length nodes = omega (arith, h.0) in
    let lb : b < length nodes = omega (arith, h.1) in
    form-same op (eqb b c) (node-push nodes last a la) (node-push nodes last b lb) (at-push facts nodes last a la) (at-push facts nodes last b lb)

pub built-none : (count : ℕ) → IsBuilt count [] []
built-none count = record {
  valid = λ p lt. absurd (omega arith);
  folded = record {
    normal = λ p lt. absurd (omega arith);
    unfixed = λ p lt. absurd (omega arith);
    apart = λ p q lt l e. absurd (omega arith);
    formless = λ p
        lt. absurd (omega arith);
  };
  noted = refl;
  possible = λ p lt. absurd (omega arith);
}

valid-push : (count : ℕ) (nodes : List Node) (node : Node) → AreValid count nodes → IsNode count (length nodes) node → AreValid count (nodes ++ node ∷ [])
valid-push count nodes node valid h = each-push (λ nodes p. IsNode count p (node_at nodes p)) nodes node
    (λ p lt. subst (IsNode count p) (sym (node-push nodes node p lt)) (valid p lt))
    (subst (IsNode count (length nodes)) (sym (node-last nodes node (length nodes) refl)) h)

-- a normalised node that isn't in the table is added
pub built-push : (count : ℕ) (nodes : List Node) (known : List Possible) (node : Node) (fact : Possible) → IsBuilt count nodes known
    → IsNode count (length nodes) node → fact ≡ entry_of facts (entries_of facts nodes) node → IsFact fact → IsNormal node → IsOpen node fact
    → has_form nodes node ≡ false → ((k : ℕ) → k < length nodes → node_at nodes k ≡ node → ⊥) → IsBuilt count (nodes ++ node ∷ []) (known ++ fact ∷ [])
built-push count nodes known node fact built h is possible normal unfixed formless absent =
    let folded = built.folded in
    let last = node-last nodes node (length nodes) refl in
    record {
      valid = valid-push count nodes node built.valid h;
      folded = record {
        normal = each-push (λ nodes p. IsNormal (node_at nodes p)) nodes node
            (λ p lt. subst IsNormal (sym (node-push nodes node p lt)) (folded.normal p lt))
            (subst IsNormal (sym last) normal);
        unfixed = each-push (λ nodes p. IsOpen (node_at nodes p) (entry_at facts nodes p)) nodes node
            (λ p lt. subst (λ n. IsOpen n (entry_at facts (nodes ++ node ∷ []) p)) (sym (node-push nodes node p lt))
            (subst (IsOpen (node_at nodes p)) (sym (at-push facts nodes node p lt)) (folded.unfixed p lt)))
            (subst (λ n. IsOpen n (entry_at facts (nodes ++ node ∷ []) (length nodes))) (sym last)
            (subst (IsOpen node) (is ∙ sym (at-last facts nodes node (length nodes) refl)) unfixed));
        apart = λ p q lp lq e. ⊎_elim
            (λ l. ⊎_elim
            (λ k. folded.apart p q l k (sym (node-push nodes node p l) ∙ e ∙ node-push nodes node q k))
            (λ d. absurd (absent p l (sym (node-push nodes node p l) ∙ e ∙ node-last nodes node q d)))
            (push-cases nodes node q lq))
            (λ d. ⊎_elim
            (λ k. absurd (absent q k (sym (node-push nodes node q k) ∙ sym e ∙ node-last nodes node p d)))
            (λ d'. d ∙ sym d')
            (push-cases nodes node q lq))
            (push-cases nodes node p lp);
        formless = each-push (λ nodes p. has_form nodes (node_at nodes p) ≡ false) nodes node
            (λ p lt. ap (has_form (nodes ++ node ∷ [])) (node-push nodes node p lt)
            ∙ form-push count nodes node p (node_at nodes p) (let l : p ≤ length nodes = omega arith in l) (built.valid p lt) ∙ folded.formless p lt)
            (ap (has_form (nodes ++ node ∷ [])) last ∙ form-push count nodes node (length nodes) node (let l : length nodes ≤ length nodes = omega arith in l) h
            ∙ formless);
      };
      noted = ap (λ xs. xs ++ fact ∷ []) built.noted ∙ ap (λ f. entries_of facts nodes ++ f ∷ []) is ∙ sym (entries-push facts nodes node);
      possible = each-push (λ nodes p. IsFact (entry_at facts nodes p)) nodes node
          (λ p lt. subst IsFact (sym (at-push facts nodes node p lt)) (built.possible p lt))
          (subst IsFact (is ∙ sym (at-last facts nodes node (length nodes) refl)) possible);
    }

pub at-grows : {X : Type 0} (r : Reading X) (old new : List Node) → Longer old new → (p : ℕ) → p < length old → entry_at r new p ≡ entry_at r old p
at-grows r old new g p lt = ⊎_elim (λ e. ap (λ nodes. entry_at r nodes p) e) (λ n. ap (λ nodes. entry_at r nodes p) n.1 ∙ at-push r old n.0 p lt) g

pub known-length : (count : ℕ) (nodes : List Node) (known : List Possible) → IsBuilt count nodes known → length known ≡ length nodes
known-length count nodes known built = ap length built.noted ∙ entries-length facts nodes

take-front : {X : Type 0} (xs : List X) (x : X) (n : ℕ) → n ≡ length xs → take n (xs ++ x ∷ []) ≡ xs
take-front xs x n e = take-append-le n xs (x ∷ []) (omega arith) ∙ take_all n xs (omega arith)

take-old : {X : Type 0} (old new : List X) (x : X) (n : ℕ) → Extends old new x → n ≡ length old → take n new ≡ old
take-old old new x n h e = ⊎_elim (λ d. ap (take n) d ∙ take_all n old (omega arith)) (λ d. ap (take n) d ∙ take-front old x n e) h

take-whole : {X : Type 0} (xs new : List X) (n : ℕ) → new ≡ xs → n ≡ length xs → take n new ≡ xs
take-whole xs new n d e = ap (take n) d ∙ take_all n xs (omega arith)

-- The table decides what was added: the facts are truncated to the number of nodes.
pub record IsCut (count : ℕ) (old new : List Node) (known : List Possible) : Type 0 where
  pub built : IsBuilt count new known
  pub grows : Longer old new

cut-same : (count : ℕ) (nodes nodes' nodes'' : List Node) (known known' known'' : List Possible) (fact : Possible) → IsBuilt count nodes known → nodes' ≡ nodes
    → nodes'' ≡ nodes' → Extends known known' fact → known'' ≡ take (length nodes') known' → IsCut count nodes nodes'' known''
cut-same count nodes nodes' nodes'' known known' known'' fact built same kept more cut =
    let k : length known ≡ length nodes = known-length count nodes known built in
    let size : length nodes' ≡ length nodes = ap length same in
    let e : nodes'' ≡ nodes = kept ∙ same in
    let d : known'' ≡ known = cut ∙ take-old known known' fact (length nodes') more (omega arith) in
    record {
      built = subst (λ ns. IsBuilt count ns known'') (sym e) (subst (IsBuilt count nodes) (sym d) built);
      grows = inl e;
    }

cut-more : (count : ℕ) (nodes nodes' nodes'' : List Node) (known known' known'' : List Possible) (node : Node) (fact : Possible) → nodes' ≡ nodes ++ node ∷ []
    → nodes'' ≡ nodes' → known' ≡ known ++ fact ∷ [] → known'' ≡ take (length nodes') known' → IsBuilt count (nodes ++ node ∷ []) (known ++ fact ∷ [])
    → IsCut count nodes nodes'' known''
cut-more count nodes nodes' nodes'' known known' known'' node fact added kept more cut built =
    let k : length (known ++ fact ∷ []) ≡ length (nodes ++ node ∷ []) = known-length count (nodes ++ node ∷ []) (known ++ fact ∷ []) built in
    let size : length nodes' ≡ length (nodes ++ node ∷ []) = ap length added in
    let e : nodes'' ≡ nodes ++ node ∷ [] = kept ∙ added in
    let d : known'' ≡ known ++ fact ∷ [] = cut ∙ take-whole (known ++ fact ∷ []) known' (length nodes') more (omega arith) in
    record {
      built = subst (λ ns. IsBuilt count ns known'') (sym e) (subst (IsBuilt count (nodes ++ node ∷ [])) (sym d) built);
      grows = inr (node, e);
    }

-- for every result of the table
pub cut-either : {E : Type 0} (r : Result ℕ E) (count : ℕ) (nodes nodes' nodes'' : List Node) (known known' known'' : List Possible) (node : Node)
    (fact : Possible) → IsBuilt count nodes known → nodes'' ≡ nodes' → Extends known known' fact → OnOk r (known' ≡ known ++ fact ∷ [])
    → IfOk r (IsEntered nodes nodes' node) → OnErr r (nodes' ≡ nodes) → known'' ≡ take (length nodes') known'
    → (IsAbsent nodes node → IsBuilt count (nodes ++ node ∷ []) (known ++ fact ∷ [])) → IsCut count nodes nodes'' known''
cut-either (Ok k) count nodes nodes' nodes'' known known' known'' node fact built kept more all entered same cut add =
    ⊎_elim
    (λ e. cut-same count nodes nodes' nodes'' known known' known'' fact built e kept more cut)
    (λ a. cut-more count nodes nodes' nodes'' known known' known'' node fact a.0 kept all cut (add a.1))
    entered.adds
cut-either (Err e) count nodes nodes' nodes'' known known' known'' node fact built kept more all entered same cut add =
    cut-same count nodes nodes' nodes'' known known' known'' fact built same kept more cut

-- a node that is new in the table is the last one
last-number : (old new : List Node) (node : Node) (k : ℕ) → new ≡ old ++ node ∷ [] → IsAbsent old node → k < length new → node_at new k ≡ node → k ≡ length old
last-number old new node k added absent within is = ⊎_elim
    (λ l. absurd (absent k l (sym (node-push old node k l) ∙ ap (λ nodes. node_at nodes k) (sym added) ∙ is)))
    (λ e. e)
    (push-cases old node k (subst (λ nodes. k < length nodes) added within))

-- the table returns the node that it adds
pub wanted-entered : {E : Type 0} (r : Result ℕ E) (old noted new : List Node) (node : Node) → new ≡ noted → IfOk r (IsEntered old noted node)
    → IfOk r (AddsAnswer old new)
wanted-entered (Ok k) old noted new node kept entered = ⊎_elim
    (λ e. inl (kept ∙ e))
    (λ a. inr (last-number old noted node k a.0 a.1 entered.within entered.is))
    entered.adds
wanted-entered (Err e) old noted new node kept entered = tt
