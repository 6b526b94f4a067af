-- Dependence as a test, and as a path.
use Rattle.std.proofs.Common.{◌≡◌, ℕ, ◌+◌, ◌<◌, ◌≤◌, Bool, true, false, List, [], ◌∷◌, ◌++◌, length, get_or, take, drop, refl, ap, sym, ◌∙◌, subst, inl, inr}
use Rattle.std.proofs.Common.{⊎_elim, arith, length-append}
use Rattle.std.specs.Prelude.{fold, ◌&&◌, ◌||◌, ◌⊎◌}
use Rattle.std.proofs.lemmas.Bool.{cases_lt, or_cases, or_left, or_right, and_from, and_parts, true≢false, eqb-true, eq-eqb}
use Rattle.std.proofs.lemmas.List.{take-append-drop, drop_more, get_or_append_left, get_or_push, get_or_past, length-take-le}
use Rattle.std.proofs.lemmas.List.Sums.{fold-append}
use Rattle.m_fixed.specs.declared.amount.Value.TheVariants.{Undef}
use Rattle.definedness.specs.Facts.{Possible}
use Rattle.flat_code.specs.declared.program.Node.{Node}
use Rattle.flat_code.specs.declared.program.Node.TheVariants.{Input, Lit, Do}
use Rattle.flat_code.specs.Runs.{IsNode, AreNodes}
use Rattle.flat_code.specs.Entries.{node_at}
use Rattle.flat_code.proofs.ReadLemmas.{strong, are-valid}
use Rattle.input_reads.specs.Reads.{fact_at, is_open, looks_at_second, looks_at_third, looks_at, next_depends, dependent, may_depend}
use Rattle.input_reads.specs.Steps.{LooksAt, Gives, Takes, Depends}
use Rattle.input_reads.specs.Steps.Depends.{input, argument}

-- ---- a list that grows by a step for each node

abbrev more : (List Bool → Node → Bool) → List Bool → Node → List Bool
more step before node = before ++ step before node ∷ []

grown-length : (step : List Bool → Node → Bool) (before : List Bool) (nodes : List Node) → length (fold (more step) before nodes) ≡ length before + length nodes
grown-length step before [] = omega arith
grown-length step before (node ∷ nodes) =
    omega (arith, grown-length step (more step before node) nodes, length-append before (step before node ∷ []))

grown-keeps : (step : List Bool → Node → Bool) (nodes : List Node) (before : List Bool) (k : ℕ) → k < length before
    → get_or (fold (more step) before nodes) k false ≡ get_or before k false
grown-keeps step [] before k h = refl
grown-keeps step (node ∷ nodes) before k h =
    grown-keeps step nodes (more step before node) k (omega (arith, length-append before (step before node ∷ [])))
    ∙ get_or_append_left before (step before node ∷ []) false k h

abbrev front : (List Bool → Node → Bool) → List Node → ℕ → List Bool
front step nodes p = fold (more step) [] (take p nodes)

front-length : (step : List Bool → Node → Bool) (nodes : List Node) (p : ℕ) → p < length nodes → length (front step nodes p) ≡ p
front-length step nodes p h = omega (arith, grown-length step [] (take p nodes), length-take-le p nodes (omega arith))

split : (step : List Bool → Node → Bool) (nodes : List Node) (p : ℕ) → p < length nodes
    → fold (more step) [] nodes ≡ fold (more step) (front step nodes p ++ step (front step nodes p) (node_at nodes p) ∷ []) (drop (p + 1) nodes)
split step nodes p h =
    ap (fold (more step) []) (sym (take-append-drop p nodes)) ∙ fold-append (more step) [] (take p nodes) (drop p nodes)
    ∙ ap (fold (more step) (front step nodes p)) (drop_more nodes p (Lit Undef) h)

-- the entry at a place
grown-at : (step : List Bool → Node → Bool) (nodes : List Node) (p : ℕ) → p < length nodes
    → get_or (fold (more step) [] nodes) p false ≡ step (front step nodes p) (node_at nodes p)
grown-at step nodes p h =
    let before = front step nodes p in
    let entry = step before (node_at nodes p) in
    let so_many = front-length step nodes p h in
    ap (λ xs. get_or xs p false) (split step nodes p h)
    ∙ grown-keeps step (drop (p + 1) nodes) (before ++ entry ∷ []) p (omega (arith, so_many, length-append before (entry ∷ [])))
    ∙ get_or_push before entry false p so_many

-- and those before it
grown-before : (step : List Bool → Node → Bool) (nodes : List Node) (p q : ℕ) → p < length nodes → q < p
    → get_or (front step nodes p) q false ≡ get_or (fold (more step) [] nodes) q false
grown-before step nodes p q h l =
    let before = front step nodes p in
    let entry = step before (node_at nodes p) in
    let so_many = front-length step nodes p h in
    sym (ap (λ xs. get_or xs q false) (split step nodes p h)
    ∙ grown-keeps step (drop (p + 1) nodes) (before ++ entry ∷ []) q (omega (arith, so_many, length-append before (entry ∷ [])))
    ∙ get_or_append_left before (entry ∷ []) false q (omega (arith, so_many)))

-- ---- one node

looks-same : (known : List Possible) (n inputs p : ℕ) (f g : ℕ → Bool) (node : Node) → IsNode inputs p node → ((x : ℕ) → x < p → f x ≡ g x)
    → looks_at known n f node ≡ looks_at known n g node
looks-same known n inputs p f g (Input m) h same = refl
looks-same known n inputs p f g (Lit v) h same = refl
looks-same known n inputs p f g (Do op a b c) h same =
    ap (λ t. t || (looks_at_second op (fact_at known a) && f b) || (looks_at_third op (fact_at known a) && f c)) (same a h.0)
    ∙ ap (λ t. g a || (looks_at_second op (fact_at known a) && t) || (looks_at_third op (fact_at known a) && f c)) (same b h.1)
    ∙ ap (λ t. g a || (looks_at_second op (fact_at known a) && g b) || (looks_at_third op (fact_at known a) && t)) (same c h.2)

-- whether a node may depend on an input, by the nodes that it uses
pub depend-at : (known : List Possible) (nodes : List Node) (inputs p n : ℕ) → AreNodes inputs 0 nodes → p < length nodes
    → may_depend known nodes p n ≡ (is_open (fact_at known p) && looks_at known n (λ x. may_depend known nodes x n) (node_at nodes p))
depend-at known nodes inputs p n valid h =
    let step = next_depends known n in
    let before = front step nodes p in
    grown-at step nodes p h
    ∙ ap (λ k. is_open (fact_at known k) && looks_at known n (λ x. get_or before x false) (node_at nodes p)) (front-length step nodes p h)
    ∙ ap (λ b. is_open (fact_at known p) && b)
    (looks-same known n inputs p (λ x. get_or before x false) (λ x. may_depend known nodes x n) (node_at nodes p) (are-valid inputs nodes valid p h)
    (λ x l. grown-before step nodes p x h l))

looks-into : (known : List Possible) (n : ℕ) (test : ℕ → Bool) (node : Node) → looks_at known n test node ≡ true
    → (node ≡ Input n) ⊎ ((x : ℕ) × LooksAt known node x × (test x ≡ true))
looks-into known n test (Input m) h = inl (ap Input (sym (eqb-true n m h)))
looks-into known n test (Lit v) h = absurd (true≢false (sym h))
looks-into known n test (Do op a b c) h =
    let second = looks_at_second op (fact_at known a) in
    let third = looks_at_third op (fact_at known a) in
    ⊎_elim
    (λ e. ⊎_elim
    (λ f. inr (a, inl refl, f))
    (λ f. let g = and_parts second (test b) f in inr (b, inr (inl (g.0, refl)), g.1))
    (or_cases (test a) (second && test b) e))
    (λ e. let g = and_parts third (test c) e in inr (c, inr (inr (g.0, refl)), g.1))
    (or_cases (test a || (second && test b)) (third && test c) h)

looks-out : (known : List Possible) (n x : ℕ) (test : ℕ → Bool) (node : Node) → LooksAt known node x → test x ≡ true → looks_at known n test node ≡ true
looks-out known n x test (Input m) h t = absurd h
looks-out known n x test (Lit v) h t = absurd h
looks-out known n x test (Do op a b c) h t =
    let second = looks_at_second op (fact_at known a) in
    let third = looks_at_third op (fact_at known a) in
    ⊎_elim
    (λ e. or_left (test a || (second && test b)) (third && test c) (or_left (test a) (second && test b) (ap test (sym e) ∙ t)))
    (λ r. ⊎_elim
    (λ e. or_left (test a || (second && test b)) (third && test c)
    (or_right (test a) (second && test b) (and_from second (test b) e.0 (ap test (sym e.1) ∙ t))))
    (λ e. or_right (test a || (second && test b)) (third && test c) (and_from third (test c) e.0 (ap test (sym e.1) ∙ t)))
    r)
    h

pub looks-below : (known : List Possible) (inputs p x : ℕ) (node : Node) → IsNode inputs p node → LooksAt known node x → x < p
looks-below known inputs p x (Input m) h l = absurd l
looks-below known inputs p x (Lit v) h l = absurd l
looks-below known inputs p x (Do op a b c) h l =
    ⊎_elim (λ e. subst (λ y. y < p) (sym e) h.0)
    (λ r. ⊎_elim (λ e. subst (λ y. y < p) (sym e.1) h.1) (λ e. subst (λ y. y < p) (sym e.1) h.2) r)
    l

pub node-within : (inputs j k : ℕ) (node : Node) → j ≤ k → IsNode inputs j node → IsNode inputs k node
node-within inputs j k (Input m) le h = h
node-within inputs j k (Lit v) le h = tt
node-within inputs j k (Do op a b c) le h = let x : a < j = h.0 in let y : b < j = h.1 in let z : c < j = h.2 in (omega arith, omega arith, omega arith)

-- ---- nodes past the end

no-input : (n : ℕ) → Lit Undef ≡ Input n → ⊥
no-input n e = cc

gives-within : (known : List Possible) (nodes : List Node) (p n : ℕ) → Gives known nodes p n → p < length nodes
gives-within known nodes p n g =
    ⊎_elim (λ l. l) (λ (past : length nodes ≤ p). absurd (no-input n (sym (get_or_past nodes p (Lit Undef) past) ∙ g.1))) (cases_lt p (length nodes))

takes-within : (known : List Possible) (nodes : List Node) (p x : ℕ) → Takes known nodes p x → p < length nodes
takes-within known nodes p x t =
    ⊎_elim (λ l. l) (λ (past : length nodes ≤ p). absurd (subst (λ node. LooksAt known node x) (get_or_past nodes p (Lit Undef) past) t.1))
    (cases_lt p (length nodes))

pub takes-below : (known : List Possible) (nodes : List Node) (inputs p x : ℕ) → AreNodes inputs 0 nodes → Takes known nodes p x → x < p
takes-below known nodes inputs p x valid t =
    looks-below known inputs p x (node_at nodes p) (are-valid inputs nodes valid p (takes-within known nodes p x t)) t.1

-- ---- the test, and steps

pub by-steps : (known : List Possible) (nodes : List Node) (inputs p n : ℕ) → AreNodes inputs 0 nodes → may_depend known nodes p n ≡ true
    → Depends known nodes n p
by-steps known nodes inputs p n valid = strong (λ p. may_depend known nodes p n ≡ true → Depends known nodes n p) each p
  where
    within : (p : ℕ) → may_depend known nodes p n ≡ true → p < length nodes
    within p e =
        ⊎_elim (λ l. l)
        (λ (past : length nodes ≤ p). absurd (true≢false (sym e
        ∙ get_or_past (dependent known n nodes) p false (omega (arith, past, grown-length (next_depends known n) [] nodes)))))
        (cases_lt p (length nodes))

    each : (p : ℕ) → ((q : ℕ) → q < p → may_depend known nodes q n ≡ true → Depends known nodes n q) → may_depend known nodes p n ≡ true
        → Depends known nodes n p
    each p all e =
        let lt = within p e in
        let parts = and_parts (is_open (fact_at known p)) (looks_at known n (λ x. may_depend known nodes x n) (node_at nodes p))
        (sym (depend-at known nodes inputs p n valid lt) ∙ e) in
        ⊎_elim
        (λ is. input (parts.0, is))
        (λ l. argument (parts.0, l.1) (all l.0 (looks-below known inputs p l.0 (node_at nodes p) (are-valid inputs nodes valid p lt) l.1) l.2))
        (looks-into known n (λ x. may_depend known nodes x n) (node_at nodes p) parts.1)

pub by-test : (known : List Possible) (nodes : List Node) (inputs n p : ℕ) → AreNodes inputs 0 nodes → Depends known nodes n p
    → may_depend known nodes p n ≡ true
by-test known nodes inputs n p valid (input g) =
    depend-at known nodes inputs p n valid (gives-within known nodes p n g)
    ∙ and_from (is_open (fact_at known p)) (looks_at known n (λ x. may_depend known nodes x n) (node_at nodes p)) g.0
    (ap (looks_at known n (λ x. may_depend known nodes x n)) g.1 ∙ eq-eqb n n refl)
by-test known nodes inputs n p valid (argument {x} t d) =
    depend-at known nodes inputs p n valid (takes-within known nodes p x t)
    ∙ and_from (is_open (fact_at known p)) (looks_at known n (λ x. may_depend known nodes x n) (node_at nodes p)) t.0
    (looks-out known n x (λ x. may_depend known nodes x n) (node_at nodes p) t.1 (by-test known nodes inputs n x valid d))

-- what a node depends on is an input
pub depends-within : (known : List Possible) (nodes : List Node) (inputs n p : ℕ) → AreNodes inputs 0 nodes → Depends known nodes n p → n < inputs
depends-within known nodes inputs n p valid (input g) = subst (IsNode inputs p) g.1 (are-valid inputs nodes valid p (gives-within known nodes p n g))
depends-within known nodes inputs n p valid (argument {x} t d) = depends-within known nodes inputs n x valid d
